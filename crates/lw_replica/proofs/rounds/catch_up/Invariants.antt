use Rattle.std.proofs.Common.{◌≡◌}
use Rattle.lw_replica.specs.Parts.{IsReplica}
use Rattle.lw_replica.proofs.Catching.{Caught}
use Rattle.lw_replica.proofs.rounds.catch_up.Given as goal

abbrev pub invariant-loop-page : goal.invariant-loop-page
invariant-loop-page g l = record {
  caught : Caught (g.G.DeltaLog.calls l.initial.log) l.initial.state (g.G.DeltaLog.calls l.log) l.state l.own;
  sequence : l.state.sequence ≡ l.initial.state.sequence;
  replica : IsReplica (g.G.DeltaLog.calls l.initial.log) l.initial.state → IsReplica (g.G.DeltaLog.calls l.log) l.state;
}
