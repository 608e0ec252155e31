use Rattle.lw_delta.proofs.Shortest.{written_is_shortest, written_is_alone}
use Rattle.lw_delta.proofs.Typed.{written_again}
use Rattle.lw_delta.proofs.laws.written_deltas_are_shortest.Goals as goal

pub returns-clause-spelling : goal.returns-clause-spelling
returns-clause-spelling c = written_again

pub returns-clause-shortest : goal.returns-clause-shortest
returns-clause-shortest c = written_is_shortest

pub returns-clause-alone : goal.returns-clause-alone
returns-clause-alone c = written_is_alone
