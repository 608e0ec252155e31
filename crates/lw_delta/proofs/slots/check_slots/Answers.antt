use Rattle.std.proofs.Common.{ℕ, ◌+◌, subst, ◌++◌, ◌∷◌, sym, ap, ◌∙◌, arith}
use Rattle.std.proofs.lemmas.List.{length-append}
use Rattle.std.proofs.Common.{[]}
use Rattle.std.specs.Option.{option_copied}
use Rattle.lw_delta.specs.inner.Lent.{NextAt, lent_slot}
use Rattle.lw_delta.proofs.Takes.{next_takes}
use Rattle.lw_delta.proofs.Parts.{walked_more, walked_end, walked_fails, raised}
use Rattle.lw_delta.proofs.slots.check_slots.Goals as goal

pub returns-in_err-next-clause-fault : goal.returns-in_err-next-clause-fault
returns-in_err-next-clause-fault c = raised _ c.from_residual.result c.from_residual.ensures.1 (walked_fails c.loop-next.invariant.1 c.in_err-next.ensures.fault)

pub returns-in_default-clause-found : goal.returns-in_default-clause-found
returns-in_default-clause-found c = (c.loop-next.invariant.0, walked_end c.loop-next.invariant.1 (subst (λ o. NextAt c.args.form c.args.clock (option_copied c.loop-next.after) c.loop-next.rest.now o c.in_ok-next.behind.now) c.in_default.is c.in_ok-next.ensures.found), c.loop-next.invariant.2)

pub loop-next-smaller : goal.loop-next-smaller
loop-next-smaller c = next_takes c.args.form c.args.clock (option_copied c.loop-next.after) c.loop-next.rest.now c.in_ok-next.next c.in_ok-next.behind.now c.in_ok-next.ensures.found

pub loop-next-preserved : goal.loop-next-preserved
loop-next-preserved c =
    let s = (subst (λ o. NextAt c.args.form c.args.clock (option_copied c.loop-next.after) c.loop-next.rest.now o c.in_ok-next.behind.now) c.in-Some.is c.in_ok-next.ensures.found) in
    (c.loop-next.invariant.0 ++ lent_slot c.in-Some.slot s.more ∷ [], walked_more c.loop-next.invariant.1 s.found, sym (length-append c.loop-next.invariant.0 (lent_slot c.in-Some.slot s.more ∷ []) ∙ ap (λ (n : ℕ). n + 1) (sym c.loop-next.invariant.2)), omega (arith, c.loop-next.invariant.3, next_takes c.args.form c.args.clock (option_copied c.loop-next.after) c.loop-next.rest.now c.in_ok-next.next c.in_ok-next.behind.now c.in_ok-next.ensures.found))
