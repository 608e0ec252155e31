use Rattle.lw_held.proofs.Longer.{cut_off}
use Rattle.lw_held.proofs.shelf.Shelf.cut.Goals as goal

pub returns : goal.returns
returns g c = cut_off c.cut.result c.deref_mut-held.result.now c.cut.new.self c.legal.ensures (λ empty. (c.cut.ensures.none empty).0) c.cut.ensures.cut
