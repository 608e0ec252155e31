use Rattle.lw_stamp.specs.Moment.{ms_of}
use Rattle.lw_node.specs.Calls.{issuer_at}
use Rattle.lw_node.specs.Effects.{ObserveMeans}
use Rattle.lw_node.specs.Node.{marks_in}
use Rattle.lw_node.proofs.StepLemmas.{observed_next, done_sent}
use Rattle.lw_node.proofs.node.Node.observe_twice.Goals as goal

pub command_twice-requires : goal.command_twice-requires
command_twice-requires c = observed_next c.args.self.now (ms_of c.args.now) c.args.id c.args.path c.args.accept c.args.mid c.decide_observe-command.result _ c.clock-clock.ensures.value c.clock-clock.ensures.within c.decide_observe-command.ensures

pub returns-clause-sent : goal.returns-clause-sent
returns-clause-sent c = λ known is.
    done_sent (ObserveMeans (issuer_at c.args.self.now (ms_of c.args.now)) (marks_in c.args.self.now.table.state known) c.args.id c.args.path c.args.accept c.args.mid) c.args.self.now c.command_twice.new.self c.decide_observe-command.result c.command_twice.result.0 (c.decide_observe-command.ensures known is) c.command_twice.ensures.done
