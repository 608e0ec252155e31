use Rattle.lw_stamp.specs.Moment.{ms_of}
use Rattle.lw_node.specs.Calls.{issuer_at}
use Rattle.lw_node.specs.Effects.{CancelMeans}
use Rattle.lw_node.specs.Node.{marks_in}
use Rattle.lw_node.proofs.StepLemmas.{cancelled_next, done_sent}
use Rattle.lw_node.proofs.node.Node.cancel_twice.Goals as goal

pub command_twice-requires : goal.command_twice-requires
command_twice-requires c = cancelled_next c.args.self.now (ms_of c.args.now) c.args.token c.args.mid c.decide_cancel-command.result _ c.clock-clock.ensures.value c.clock-clock.ensures.within c.decide_cancel-command.ensures

pub returns-clause-sent : goal.returns-clause-sent
returns-clause-sent c = λ known is.
    done_sent (CancelMeans (issuer_at c.args.self.now (ms_of c.args.now)) (marks_in c.args.self.now.table.state known) c.args.token c.args.mid) c.args.self.now c.command_twice.new.self c.decide_cancel-command.result c.command_twice.result.0 (c.decide_cancel-command.ensures known is) c.command_twice.ensures.done
