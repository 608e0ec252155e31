use Rattle.lw_node.specs.Node.{marks_in}
use Rattle.lw_node.proofs.StepLemmas.{take_twice_steps}
use Rattle.lw_node.proofs.node.Node.act_twice.Goals as goal

pub returns-in-Take-clause-step : goal.returns-in-Take-clause-step
returns-in-Take-clause-step c = λ known is.
    take_twice_steps c.args.self.now c.take_twice.new.self (marks_in c.args.self.now.table.state known) c.in-Take.now c.in-Take.from c.as_slice.result.now c.in-Take.bytes c.as_slice.ensures c.args.call.now c.in-Take.is c.take_twice.result c.both-first.result.0 c.both-first.ensures.first (c.take_twice.ensures.taken known is) c.take_twice.ensures.unchanged c.take_twice.ensures.silent
