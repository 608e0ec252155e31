use Rattle.std.proofs.Common.{[], refl, sym, subst, inl, inr}
use Rattle.std.proofs.lemmas.Result.{err_from_is_err_and}
use Rattle.lw_delta.specs.Unread.{Unread, IsLeft}
use Rattle.lw_delta.proofs.Answering.{apart, walked_spelled, walked_again, none_spelled, some_spelled}
use Rattle.lw_delta.proofs.reading.read_walked.Goals as goal

pub returns-in_err-walked-clause-read : goal.returns-in_err-walked-clause-read
returns-in_err-walked-clause-read c =
    let p = err_from_is_err_and c.from_residual.result c.from_residual.ensures.1 in
    rw (p.1, p.2) (inr c.in_err-walked.ensures.fault)

pub returns-in_err-walked-clause-empty : goal.returns-in_err-walked-clause-empty
returns-in_err-walked-clause-empty c = λ d s none. absurd (apart c.args.bytes.now d _ s c.in_err-walked.ensures.fault)

pub slots-requires : goal.slots-requires
slots-requires c = let w = c.in_ok-walked.ensures.found in (w.ss, subst (λ (u : Unread). IsLeft u w.ss) (sym c.of.ensures) w.found)

pub returns-in_err-slots-clause-read : goal.returns-in_err-slots-clause-read
returns-in_err-slots-clause-read c =
    let p = err_from_is_err_and c.from_residual-in_err-slots.result c.from_residual-in_err-slots.ensures.1 in
    rw (p.1, p.2) (inl (refl, record { clock = c.in_ok-walked.walked.clock; slots = c.in_ok-walked.ensures.found.ss }, walked_spelled _ _ c.in_ok-walked.ensures.found))

pub returns-in_err-slots-clause-empty : goal.returns-in_err-slots-clause-empty
returns-in_err-slots-clause-empty c = λ d s none. absurd (some_spelled _ _ c.in_ok-walked.ensures.found c.if-walked-eq0.false d s none)

pub returns-then-walked-eq0-clause-read : goal.returns-then-walked-eq0-clause-read
returns-then-walked-eq0-clause-read c = rw c.new-slots.ensures.items (none_spelled _ _ c.in_ok-walked.ensures.found c.if-walked-eq0.true)

pub returns-clause-read : goal.returns-clause-read
returns-clause-read c =
    let slots = c.in_ok-slots.slots.items in
    walked_again _ _ c.in_ok-walked.ensures.found slots [] (subst (λ (u : Unread). IsLeft u slots) c.of.ensures c.in_ok-slots.ensures)
