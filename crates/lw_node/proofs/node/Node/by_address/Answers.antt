use Rattle.std.proofs.Common.{subst}
use Rattle.lw_stamp.specs.Moment.{ms_of}
use Rattle.lw_reg.specs.Reading.{shown_in}
use Rattle.lw_table.specs.LookUps.{ByAddress}
use Rattle.lw_node.specs.Node.{NodeContent}
use Rattle.lw_node.proofs.node.Node.by_address.Goals as goal

pub returns-clause-read : goal.returns-clause-read
returns-clause-read c = subst (λ (n : NodeContent). ByAddress (shown_in n.table.state) (ms_of c.args.now) c.args.address c.by_address.result) c.self.view_is c.by_address.ensures.read
