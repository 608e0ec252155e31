use Rattle.std.proofs.Common.{◌≡◌, ◌++◌, ◌∙◌, [], inl, inr, leb-false, Some, sym, arith}
use Rattle.std.specs.Prelude.{filter}
use Rattle.std.specs.List.{cons_option}
use Rattle.lw_stamp.specs.Moment.{ms_of}
use Rattle.lw_due.specs.Due.{is_after, is_kept, kept_in}
use Rattle.lw_table.specs.Answers.{after_text}
use Rattle.lw_table.specs.inner.Found.{view_at}
use Rattle.lw_table.proofs.KeptLemmas.{fewer_left, step_on, walk_ends}
use Rattle.lw_table.proofs.PageLemmas.{all_seen, found_up_to, none_seen, one_more_within, seen_more}
use Rattle.lw_table.proofs.table.Table.page_of.Goals as goal

pub loop-endpoint-init : goal.loop-endpoint-init
loop-endpoint-init c = rw c.new-registrations.ensures.items
    (none_seen (view_at (ms_of c.args.now) c.args.self.now.state) (filter (is_after (after_text c.args.after)) (kept_in c.args.due.now)), omega arith)

pub loop-endpoint-smaller : goal.loop-endpoint-smaller
loop-endpoint-smaller c = fewer_left is_kept c.args.due.now c.first_kept.ensures.rising (after_text c.loop-endpoint.upto) c.in-Some.endpoint.now c.in-Some.ensures.first

pub returns-then-ends-clause-found : goal.returns-then-ends-clause-found
returns-then-ends-clause-found c =
    found_up_to (view_at (ms_of c.args.now) c.args.self.now.state) (filter (is_after (after_text c.args.after)) (kept_in c.args.due.now)) _ c.loop-endpoint.last c.loop-endpoint.registrations.items (sym c.is_some.ensures ∙ c.ends.ensures.begun c.if-ends.true) c.loop-endpoint.invariant.0

pub loop-endpoint-preserved : goal.loop-endpoint-preserved
loop-endpoint-preserved c =
    let e = c.in-Some.endpoint.now in
    let found = view_at (ms_of c.args.now) c.args.self.now.state in
    let all = filter (is_after (after_text c.args.after)) (kept_in c.args.due.now) in
    let upto = after_text c.loop-endpoint.upto in
    let left = filter (is_after upto) (kept_in c.args.due.now) in
    let rest = filter (is_after (Some e)) (kept_in c.args.due.now) in
    let old = c.loop-endpoint.registrations.items in
    let new = c.push_shown.new.registrations.items in
    let next = step_on is_kept c.args.due.now c.first_kept.ensures.rising upto e c.in-Some.ensures.first in
    let walked = c.loop-endpoint.invariant.0 in
    let put : new ≡ old ++ cons_option (found e) [] = c.in_ok-push_shown.ensures in (
      seen_more found all left rest e (after_text c.loop-endpoint.last) old new next walked put,
      one_more_within found all left c.loop-endpoint.last old new (found e) c.args.limit walked put (elim (c.ends.ensures.room c.if-ends.false) [
        | inl first ↦ inl (sym c.is_some.ensures ∙ first)
        | inr free ↦ inr (let less = leb-false _ _ free in let length = c.len.ensures in omega (arith, less, length))
      ]),
    )

pub returns-clause-found : goal.returns-clause-found
returns-clause-found c =
    let upto = after_text c.loop-endpoint.upto in
    all_seen (view_at (ms_of c.args.now) c.args.self.now.state) (filter (is_after (after_text c.args.after)) (kept_in c.args.due.now)) _ (after_text c.loop-endpoint.last) c.loop-endpoint.registrations.items
    (walk_ends is_kept c.args.due.now c.first_kept.ensures.rising upto c.in_default.ensures.first) c.loop-endpoint.invariant.0
