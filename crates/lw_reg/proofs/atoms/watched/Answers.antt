use Rattle.std.specs.Prelude.{None}
use Rattle.lw_reg.proofs.WatchLemmas.{one_watch_is}
use Rattle.lw_reg.proofs.atoms.watched.Goals as goal

pub returns : goal.returns
returns c =
    let same = one_watch_is c.in_ok-one.field-0 c.args.path c.args.watching c.in_ok-one.ensures in
    let unwritten = c.unwritten.ensures in
    λ i. record { writes = c.no_writes.ensures i; attributes = unwritten i; ended = None; watches = same i }
