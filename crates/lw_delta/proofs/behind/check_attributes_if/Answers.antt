use Rattle.std.proofs.Common.{Some, None}
use Rattle.std.proofs.lemmas.Result.{IfOk-weaker, IfErr-weaker}
use Rattle.lw_delta.proofs.Parts.{not_there, there, there_fails}
use Rattle.lw_delta.proofs.behind.check_attributes_if.Goals as goal

pub returns-then-not-present-clause-found : goal.returns-then-not-present-clause-found
returns-then-not-present-clause-found c = (None, not_there _ c.if-not-present.true)

pub returns-clause-found : goal.returns-clause-found
returns-clause-found c = IfOk-weaker c.check_attributes.result _ _ (λ x f. (Some f.0, there c.if-not-present.false f.1)) c.check_attributes.ensures.found

pub returns-clause-fault : goal.returns-clause-fault
returns-clause-fault c = IfErr-weaker c.check_attributes.result _ _ (λ x f. there_fails c.if-not-present.false f) c.check_attributes.ensures.fault
