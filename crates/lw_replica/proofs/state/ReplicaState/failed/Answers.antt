use Rattle.lw_replica.proofs.Covering.{written_anew}
use Rattle.lw_replica.proofs.state.ReplicaState.failed.Goals as goal

pub returns-then-eq-clause-covering : goal.returns-then-eq-clause-covering
returns-then-eq-clause-covering c = λ asked covering. record { written = written_anew asked _ _ _ covering.written; up_to = λ f. absurd cc }
