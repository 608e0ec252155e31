use Rattle.std.proofs.Common.{rules, subst}
use Rattle.lw_stamp.specs.Moment.{ms_of}
use Rattle.lw_reg.specs.Reading.{shown_in}
use Rattle.lw_reg.specs.Showing.{ShownOf}
use Rattle.lw_node.specs.Node.{NodeContent}
use Rattle.lw_node.proofs.node.Node.by_endpoint.Goals as goal

pub returns-clause-read : goal.returns-clause-read
returns-clause-read c = subst (λ (n : NodeContent). ShownOf (shown_in n.table.state) (ms_of c.args.now) c.args.endpoint.now c.by_endpoint.result) c.self.view_is c.by_endpoint.ensures.read

pub returns-clause-marks : goal.returns-clause-marks
returns-clause-marks c = search rules
