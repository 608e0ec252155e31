use Rattle.std.proofs.Common.{refl, Some, None}
use Rattle.std.proofs.lemmas.Result.{IfOk-weaker, IfErr-weaker}
use Rattle.lw_delta.proofs.Parts.{not_there, there, there_fails}
use Rattle.lw_delta.proofs.behind.ended_if.Goals as goal

pub returns-then-not-present-clause-found : goal.returns-then-not-present-clause-found
returns-then-not-present-clause-found c = (None, not_there _ c.if-not-present.true, refl)

pub returns-clause-found : goal.returns-clause-found
returns-clause-found c = IfOk-weaker c.parse.result _ _ (λ x f. (Some x.0, there c.if-not-present.false f, refl)) c.parse.ensures.found

pub returns-clause-fault : goal.returns-clause-fault
returns-clause-fault c = IfErr-weaker c.parse.result _ _ (λ x f. there_fails c.if-not-present.false f) c.parse.ensures.fault
