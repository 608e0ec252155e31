use Rattle.std.proofs.Common.{refl, ap, ◌∙◌}
use Rattle.std.proofs.Common.{Bool}
use Rattle.lw_reg.specs.Body.{Watching}
use Rattle.lw_delta.specs.Values.{watching_from}
use Rattle.lw_delta.proofs.Parts.{when_is, when_fails_is, refuted, raised}
use Rattle.lw_delta.proofs.Parts.{both, first_fails, later_fails, meant, held, broken, held_fails}
use Rattle.lw_delta.proofs.watches.watch.Goals as goal

pub returns-in_err-path-clause-fault : goal.returns-in_err-path-clause-fault
returns-in_err-path-clause-fault c = raised _ c.from_residual.result c.from_residual.ensures.1 (first_fails _ c.in_err-path.ensures.fault)

pub returns-in_err-token-clause-fault : goal.returns-in_err-token-clause-fault
returns-in_err-token-clause-fault c = raised _ c.from_residual-in_err-token.result c.from_residual-in_err-token.ensures.1 (later_fails _ c.in_ok-path.ensures.found (first_fails _ c.in_err-token.ensures.fault))

pub returns-in_err-flags-clause-fault : goal.returns-in_err-flags-clause-fault
returns-in_err-flags-clause-fault c = raised _ c.from_residual-in_err-flags.result c.from_residual-in_err-flags.ensures.1 (later_fails _ c.in_ok-path.ensures.found (later_fails _ c.in_ok-token.ensures.found (first_fails _ c.in_err-flags.ensures.fault)))

pub returns-then-not-is_within-clause-fault : goal.returns-then-not-is_within-clause-fault
returns-then-not-is_within-clause-fault c = later_fails _ c.in_ok-path.ensures.found (later_fails _ c.in_ok-token.ensures.found (later_fails _ c.in_ok-flags.ensures.found (broken _ (refuted c.if-not-is_within.ensures))))

pub returns-in_err-accept-clause-fault : goal.returns-in_err-accept-clause-fault
returns-in_err-accept-clause-fault c = raised _ c.from_residual-in_err-accept.result c.from_residual-in_err-accept.ensures.1 (later_fails _ c.in_ok-path.ensures.found (later_fails _ c.in_ok-token.ensures.found (later_fails _ c.in_ok-flags.ensures.found (held_fails _ (c.if-not-is_within.ensures.0 refl) (first_fails _ (when_fails_is _ c.is_set.ensures c.in_err-accept.ensures.fault))))))

pub returns-clause-found : goal.returns-clause-found
returns-clause-found c = both _ c.in_ok-path.ensures.found (both _ c.in_ok-token.ensures.found (both _ c.in_ok-flags.ensures.found (held _ (c.if-not-is_within.ensures.0 refl) (both _ (when_is _ c.is_set.ensures c.in_ok-accept.ensures.found) (meant _ (ap (λ (w : Watching). (c.in_ok-path.path, w)) (c.watching-watching.ensures ∙ ap (λ (b : Bool). watching_from c.in_ok-token.token b c.in_ok-accept.accept) c.is_set-2.ensures)))))))
