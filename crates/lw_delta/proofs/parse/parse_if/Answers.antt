use Rattle.std.proofs.Common.{refl}
use Rattle.lw_delta.proofs.Again.{set_found}
use Rattle.lw_delta.proofs.Parts.{not_there, there, there_fails, raised}
use Rattle.lw_delta.proofs.parse.parse_if.Goals as goal

pub returns-then-not-present-clause-found : goal.returns-then-not-present-clause-found
returns-then-not-present-clause-found g c = not_there _ c.if-not-present.true

pub parse-requires : goal.parse-requires
parse-requires g c = λ k. ((refl, tt), λ again. set_found c.if-not-present.false (c.requires again))

pub returns-in_err-value-clause-fault : goal.returns-in_err-value-clause-fault
returns-in_err-value-clause-fault g c = raised _ c.from_residual.result c.from_residual.ensures.1 (there_fails c.if-not-present.false c.in_err-value.ensures.fault)

pub returns-clause-found : goal.returns-clause-found
returns-clause-found g c = there c.if-not-present.false c.in_ok-value.ensures.found
