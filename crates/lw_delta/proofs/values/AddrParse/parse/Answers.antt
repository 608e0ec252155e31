use Rattle.std.proofs.Common.{inl, inr}
use Rattle.std.proofs.lemmas.Result.{IfOk-weaker, IfErr-weaker}
use Rattle.lw_delta.proofs.Hosts.{at_family, at_family_fails}
use Rattle.lw_delta.proofs.Parts.{both, first_fails, later_fails, held, broken, held_fails, raised}
use Rattle.lw_delta.proofs.values.AddrParse.parse.Goals as goal

pub returns-in_err-family-clause-fault : goal.returns-in_err-family-clause-fault
returns-in_err-family-clause-fault c = raised _ c.from_residual.result c.from_residual.ensures.1 (first_fails _ c.in_err-family.ensures.fault)

pub returns-then-family-eq4-clause-found : goal.returns-then-family-eq4-clause-found
returns-then-family-eq4-clause-found c = IfOk-weaker c.v4.result _ _ (λ x f. both _ c.in_ok-family.ensures.found (held _ (inl c.if-family-eq4.true) (at_family _ 4 c.if-family-eq4.true f))) c.v4.ensures.found

pub returns-then-family-eq4-clause-fault : goal.returns-then-family-eq4-clause-fault
returns-then-family-eq4-clause-fault c = IfErr-weaker c.v4.result _ _ (λ x f. later_fails _ c.in_ok-family.ensures.found (held_fails _ (inl c.if-family-eq4.true) (at_family_fails _ 4 c.if-family-eq4.true f))) c.v4.ensures.fault

pub returns-then-family-eq6-clause-found : goal.returns-then-family-eq6-clause-found
returns-then-family-eq6-clause-found c = IfOk-weaker c.v6.result _ _ (λ x f. both _ c.in_ok-family.ensures.found (held _ (inr c.if-family-eq6.true) (at_family _ 6 c.if-family-eq6.true f))) c.v6.ensures.found

pub returns-then-family-eq6-clause-fault : goal.returns-then-family-eq6-clause-fault
returns-then-family-eq6-clause-fault c = IfErr-weaker c.v6.result _ _ (λ x f. later_fails _ c.in_ok-family.ensures.found (held_fails _ (inr c.if-family-eq6.true) (at_family_fails _ 6 c.if-family-eq6.true f))) c.v6.ensures.fault

pub returns-clause-fault : goal.returns-clause-fault
returns-clause-fault c = later_fails _ c.in_ok-family.ensures.found (broken _ (λ h. elim h [ inl e ↦ c.if-family-eq4.false e | inr e ↦ c.if-family-eq6.false e ]))
