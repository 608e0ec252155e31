use Rattle.std.proofs.Common.{sym, ◌∙◌}
use Rattle.lw_stamp.specs.Moment.{ms_of}
use Rattle.lw_due.specs.Due.{is_kept, kept_in}
use Rattle.lw_table.specs.Answers.{after_text}
use Rattle.lw_table.specs.inner.Found.{view_at}
use Rattle.lw_table.proofs.FirstLemmas.{found_next, found_nowhere, passed_on}
use Rattle.lw_table.proofs.KeptLemmas.{fewer_left, step_on, walk_ends}
use Rattle.lw_table.proofs.table.Table.first_shown_after.Goals as goal

pub loop-endpoint-smaller : goal.loop-endpoint-smaller
loop-endpoint-smaller c = fewer_left is_kept c.args.due.now c.first_kept.ensures.rising (after_text c.loop-endpoint.upto) c.in-Some.endpoint.now c.in-Some.ensures.first

pub loop-endpoint-preserved : goal.loop-endpoint-preserved
loop-endpoint-preserved c =
    let e = c.in-Some.endpoint.now in
    let upto = after_text c.loop-endpoint.upto in
    let next = step_on is_kept c.args.due.now c.first_kept.ensures.rising upto e c.in-Some.ensures.first in
    passed_on (view_at (ms_of c.args.now) c.args.self.now.state) upto e (kept_in c.args.due.now) next (sym c.in_default-view.ensures) ∙ c.loop-endpoint.invariant

pub returns-in-Some-view-clause-found : goal.returns-in-Some-view-clause-found
returns-in-Some-view-clause-found c =
    let e = c.in-Some.endpoint.now in
    let upto = after_text c.loop-endpoint.upto in
    let next = step_on is_kept c.args.due.now c.first_kept.ensures.rising upto e c.in-Some.ensures.first in
    found_next (view_at (ms_of c.args.now) c.args.self.now.state) upto e (kept_in c.args.due.now) c.in-Some-view.view next (sym c.in-Some-view.ensures) ∙ c.loop-endpoint.invariant

pub returns-clause-found : goal.returns-clause-found
returns-clause-found c =
    let upto = after_text c.loop-endpoint.upto in
    found_nowhere (view_at (ms_of c.args.now) c.args.self.now.state) upto (kept_in c.args.due.now) (walk_ends is_kept c.args.due.now c.first_kept.ensures.rising upto c.in_default.ensures.first) ∙ c.loop-endpoint.invariant
