use Rattle.std.proofs.Common.{sym, ap}
use Rattle.lw_node.specs.Node.{NodeContent}
use Rattle.lw_replica.proofs.Merging.{written_new}
use Rattle.lw_replica.proofs.state.ReplicaState.new.Goals as goal

pub returns-clause-replica : goal.returns-clause-replica
returns-clause-replica c = λ asked.
    let change = ap (λ (n : NodeContent). n.table.count.change) c.new-2.ensures in
    record {
      covering = record { written = written_new asked c.new-2.result c.args.start.number c.new-2.ensures; up_to = λ t. sym change };
      number = sym (ap (λ (n : NodeContent). n.number) c.new-2.ensures);
      floor = c.requires;
    }
