use Rattle.std.proofs.Common.{refl}
use Rattle.lw_delta.proofs.Again.{behind, front}
use Rattle.lw_delta.proofs.Grammar.{stamp_decided}
use Rattle.lw_delta.proofs.Parts.{both, first_fails, later_fails, given, raised}
use Rattle.lw_delta.proofs.parse.Tuple2StampParse.parse.Goals as goal

pub returns-in_err-stamp-clause-fault : goal.returns-in_err-stamp-clause-fault
returns-in_err-stamp-clause-fault g c = raised _ c.from_residual.result c.from_residual.ensures.1 (first_fails _ c.in_err-stamp.ensures.fault)

pub parse-requires : goal.parse-requires
parse-requires g c = λ k. ((refl, tt), λ again. front _ (behind _ (stamp_decided c.args.clock) c.in_ok-stamp.ensures.found (c.requires again)))

pub returns-in_err-value-clause-fault : goal.returns-in_err-value-clause-fault
returns-in_err-value-clause-fault g c = raised _ c.from_residual-in_err-value.result c.from_residual-in_err-value.ensures.1 (later_fails _ c.in_ok-stamp.ensures.found (first_fails _ c.in_err-value.ensures.fault))

pub returns-clause-found : goal.returns-clause-found
returns-clause-found g c = both _ c.in_ok-stamp.ensures.found (both _ c.in_ok-value.ensures.found given)
