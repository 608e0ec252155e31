use Rattle.std.proofs.Common.{◌≡◌, ℕ, ◌≤◌, ◌<◌, subst, arith}
use Rattle.std.proofs.lemmas.Result.{IfOk-weaker, IfErr-weaker}
use Rattle.lw_delta.proofs.Parts.{both, first_fails, later_fails, held, broken, held_fails, raised}
use Rattle.lw_delta.proofs.attributes.value.Goals as goal

pub returns-in_err-count-clause-fault : goal.returns-in_err-count-clause-fault
returns-in_err-count-clause-fault c = raised _ c.from_residual.result c.from_residual.ensures.1 (first_fails _ c.in_err-count.ensures.fault)

too_many : (count room other : ℕ) → room ≡ other → room < count → count ≤ other → ⊥
too_many count room other e more within = omega (arith, e, more, within)

pub returns-then-count-room_behind-clause-fault : goal.returns-then-count-room_behind-clause-fault
returns-then-count-room_behind-clause-fault c = later_fails _ c.in_ok-count.ensures.found (broken _ (λ within. too_many c.in_ok-count.count c.room_behind.result _ c.room_behind.ensures c.if-count-room_behind.true within))

pub returns-clause-found : goal.returns-clause-found
returns-clause-found c =
    let room = subst (λ (n : ℕ). c.in_ok-count.count ≤ n) c.room_behind.ensures c.if-count-room_behind.false in
    IfOk-weaker c.text.result _ _ (λ x f. both _ c.in_ok-count.ensures.found (held _ room f)) c.text.ensures.found

pub returns-clause-fault : goal.returns-clause-fault
returns-clause-fault c =
    let room = subst (λ (n : ℕ). c.in_ok-count.count ≤ n) c.room_behind.ensures c.if-count-room_behind.false in
    IfErr-weaker c.text.result _ _ (λ x f. later_fails _ c.in_ok-count.ensures.found (held_fails _ room f)) c.text.ensures.fault
