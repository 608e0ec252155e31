use Rattle.lw_stamp.specs.Order.{IsExactOrder}
use Rattle.lw_join.proofs.Edits.{none_missing}
use Rattle.lw_join.proofs.JoinedParts.{rises_after, joined_parts, unchanged_parts}
use Rattle.lw_join.proofs.parts.Parts.join_both.Goals as goal

pub invariant_of-self : goal.invariant_of-self
invariant_of-self g c =
    let order : IsExactOrder g.K.Ord.cmp = record { total = g.met.K.Ord.total; exact = g.met.K.Exact.exact } in
    record { rises = rises_after order g.J.Join.join c.join_both.result c.args.self.now c.args.other c.join_both.new.self c.join_both.ensures.left c.join_both.ensures.left_kept }

pub invariant_of-right : goal.invariant_of-right
invariant_of-right g c =
    let order : IsExactOrder g.L.Ord.cmp = record { total = g.met.L.Ord.total; exact = g.met.L.Exact.exact } in
    record { rises = rises_after order g.M.Join.join c.join_both.result c.args.right.now c.args.other_right c.join_both.new.right c.join_both.ensures.right c.join_both.ensures.right_kept }

pub returns-clause-left : goal.returns-clause-left
returns-clause-left g c =
    let order : IsExactOrder g.K.Ord.cmp = record { total = g.met.K.Ord.total; exact = g.met.K.Exact.exact } in
    joined_parts order g.J.Join.join c.join_both.result c.args.self.now c.args.other _ c.join_both.ensures.left

pub returns-clause-right : goal.returns-clause-right
returns-clause-right g c =
    let order : IsExactOrder g.L.Ord.cmp = record { total = g.met.L.Ord.total; exact = g.met.L.Exact.exact } in
    joined_parts order g.M.Join.join c.join_both.result c.args.right.now c.args.other_right _ c.join_both.ensures.right

pub returns-clause-left_kept : goal.returns-clause-left_kept
returns-clause-left_kept g c =
    let order : IsExactOrder g.K.Ord.cmp = record { total = g.met.K.Ord.total; exact = g.met.K.Exact.exact } in
    unchanged_parts order g.J.Join.join c.join_both.result c.args.self.now _ c.join_both.ensures.left_kept

pub returns-clause-right_kept : goal.returns-clause-right_kept
returns-clause-right_kept g c =
    let order : IsExactOrder g.L.Ord.cmp = record { total = g.met.L.Ord.total; exact = g.met.L.Exact.exact } in
    unchanged_parts order g.M.Join.join c.join_both.result c.args.right.now _ c.join_both.ensures.right_kept

pub returns-clause-never_refused : goal.returns-clause-never_refused
returns-clause-never_refused g c = λ there right_there.
    let order : IsExactOrder g.K.Ord.cmp = record { total = g.met.K.Ord.total; exact = g.met.K.Exact.exact } in
    let right_order : IsExactOrder g.L.Ord.cmp = record { total = g.met.L.Ord.total; exact = g.met.L.Exact.exact } in
    c.join_both.ensures.never_refused (none_missing order c.args.self.now.entries c.args.other.entries there) (none_missing right_order c.args.right.now.entries c.args.other_right.entries right_there)
