use Rattle.std.proofs.Common.{refl}
use Rattle.std.proofs.lemmas.Result.{IfOk-weaker, IfErr-weaker}
use Rattle.lw_delta.proofs.Again.{behind_tag}
use Rattle.lw_delta.proofs.Parts.{both, first_fails, later_fails, raised}
use Rattle.lw_delta.proofs.parse.OptionParse.parse.Goals as goal

pub returns-in_err-present-clause-fault : goal.returns-in_err-present-clause-fault
returns-in_err-present-clause-fault g c = raised _ c.from_residual.result c.from_residual.ensures.1 (first_fails _ c.in_err-present.ensures.fault)

pub parse_if-requires : goal.parse_if-requires
parse_if-requires g c = λ k. ((refl, tt), λ again. behind_tag _ c.in_ok-present.ensures.found (c.requires again))

pub returns-clause-found : goal.returns-clause-found
returns-clause-found g c = IfOk-weaker c.parse_if.result _ _ (λ x f. both _ c.in_ok-present.ensures.found f) c.parse_if.ensures.found

pub returns-clause-fault : goal.returns-clause-fault
returns-clause-fault g c = IfErr-weaker c.parse_if.result _ _ (λ x f. later_fails _ c.in_ok-present.ensures.found f) c.parse_if.ensures.fault
