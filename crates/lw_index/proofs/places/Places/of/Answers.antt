use Rattle.std.proofs.Common.{◌↔◌, map, Contains, subst}
use Rattle.lw_index.specs.Places.{IsPlaceOf}
use Rattle.lw_index.proofs.PlaceLemmas.{of_key}
use Rattle.lw_index.proofs.places.Places.of.Goals as goal

pub returns : goal.returns
returns g c = λ p.
    subst (λ l. Contains (map (λ t. t.1) c.range.result) p ↔ IsPlaceOf l c.args.key p) c.self.view_is
    (of_key g.met.K.Ord.total g.met.K.Exact.exact c.args.key c.self.inside.pairs.keys c.range.result p c.self.invariant c.new.result.start c.new.result.end c.new.ensures.start c.new.ensures.end
    (c.range.ensures.between c.new.ensures.exhausted))
