use Rattle.lw_stamp.specs.Order.{IsExactOrder}
use Rattle.lw_join.proofs.Edits.{none_missing}
use Rattle.lw_join.proofs.JoinedParts.{rises_after, joined_parts, unchanged_parts}
use Rattle.lw_join.proofs.parts.PartsJoin.join_with.Goals as goal

pub invariant_of-self : goal.invariant_of-self
invariant_of-self g c =
    let order : IsExactOrder g.K.Ord.cmp = record { total = g.met.K.Ord.total; exact = g.met.K.Exact.exact } in
    record { rises = rises_after order g.J.Join.join c.join_with.result c.args.self.now c.args.other c.join_with.new.self c.join_with.ensures.ok c.join_with.ensures.err }

pub returns-clause-ok : goal.returns-clause-ok
returns-clause-ok g c =
    let order : IsExactOrder g.K.Ord.cmp = record { total = g.met.K.Ord.total; exact = g.met.K.Exact.exact } in
    joined_parts order g.J.Join.join c.join_with.result c.args.self.now c.args.other _ c.join_with.ensures.ok

pub returns-clause-err : goal.returns-clause-err
returns-clause-err g c =
    let order : IsExactOrder g.K.Ord.cmp = record { total = g.met.K.Ord.total; exact = g.met.K.Exact.exact } in
    unchanged_parts order g.J.Join.join c.join_with.result c.args.self.now _ c.join_with.ensures.err

pub returns-clause-never_refused : goal.returns-clause-never_refused
returns-clause-never_refused g c = λ there.
    let order : IsExactOrder g.K.Ord.cmp = record { total = g.met.K.Ord.total; exact = g.met.K.Exact.exact } in
    c.join_with.ensures.never_refused (none_missing order c.args.self.now.entries c.args.other.entries there)
