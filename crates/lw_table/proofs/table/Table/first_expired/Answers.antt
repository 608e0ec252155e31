use Rattle.std.proofs.Common.{◌≡◌, List, ℕ, Option, Some, None, sym, subst, ap, ◌∙◌}
use Rattle.lw_stamp.specs.Moment.{ms_of}
use Rattle.lw_due.specs.Due.{Entry, first_where, is_due}
use Rattle.lw_table.specs.Answers.{after_text}
use Rattle.lw_table.specs.inner.Due.{due_in}
use Rattle.lw_table.specs.inner.Found.{expired_at, named}
use Rattle.lw_table.proofs.FirstLemmas.{found_next, found_nowhere, passed_on}
use Rattle.lw_table.proofs.KeptLemmas.{fewer_left, step_on, walk_ends}
use Rattle.lw_table.proofs.table.Table.first_expired.Goals as goal

-- at the moment that was asked for
at_moment : (k now : ℕ) (o after : Option (List ℕ)) (xs : List Entry) → k ≡ now → o ≡ first_where (is_due k) after xs → o ≡ first_where (is_due now) after xs
at_moment k now o after xs same is = subst (λ n. o ≡ first_where (is_due n) after xs) same is

pub loop-endpoint-smaller : goal.loop-endpoint-smaller
loop-endpoint-smaller c =
    let now = ms_of c.args.now in
    let e = c.in-Some.endpoint.now in
    let upto = after_text c.loop-endpoint.upto in
    fewer_left (is_due now) c.args.due.now c.first_due_after.ensures.rising upto e (at_moment c.ms.result now (Some e) upto c.args.due.now c.ms.ensures.value c.in-Some.ensures.first)

pub loop-endpoint-preserved : goal.loop-endpoint-preserved
loop-endpoint-preserved c =
    let now = ms_of c.args.now in
    let e = c.in-Some.endpoint.now in
    let upto = after_text c.loop-endpoint.upto in
    let next = step_on (is_due now) c.args.due.now c.first_due_after.ensures.rising upto e (at_moment c.ms.result now (Some e) upto c.args.due.now c.ms.ensures.value c.in-Some.ensures.first) in
    passed_on (expired_at now c.args.self.now.state) upto e (due_in now c.args.due.now) next (ap (named e) (sym c.in_default-expired.ensures)) ∙ c.loop-endpoint.invariant

pub returns-in-Some-expired-clause-found : goal.returns-in-Some-expired-clause-found
returns-in-Some-expired-clause-found c =
    let now = ms_of c.args.now in
    let e = c.in-Some.endpoint.now in
    let upto = after_text c.loop-endpoint.upto in
    let next = step_on (is_due now) c.args.due.now c.first_due_after.ensures.rising upto e (at_moment c.ms.result now (Some e) upto c.args.due.now c.ms.ensures.value c.in-Some.ensures.first) in
    found_next (expired_at now c.args.self.now.state) upto e (due_in now c.args.due.now) (e, c.in-Some-expired.id) next (ap (named e) (sym c.in-Some-expired.ensures)) ∙ c.loop-endpoint.invariant

pub returns-clause-found : goal.returns-clause-found
returns-clause-found c =
    let now = ms_of c.args.now in
    let upto = after_text c.loop-endpoint.upto in
    found_nowhere (expired_at now c.args.self.now.state) upto (due_in now c.args.due.now)
    (walk_ends (is_due now) c.args.due.now c.first_due_after.ensures.rising upto (at_moment c.ms.result now None upto c.args.due.now c.ms.ensures.value c.in_default.ensures.first)) ∙ c.loop-endpoint.invariant
