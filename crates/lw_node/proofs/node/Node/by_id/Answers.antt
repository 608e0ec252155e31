use Rattle.std.proofs.Common.{subst}
use Rattle.lw_stamp.specs.Moment.{ms_of}
use Rattle.lw_reg.specs.Reading.{shown_in}
use Rattle.lw_table.specs.LookUps.{ById}
use Rattle.lw_node.specs.Node.{NodeContent}
use Rattle.lw_node.proofs.node.Node.by_id.Goals as goal

pub returns-clause-read : goal.returns-clause-read
returns-clause-read c = subst (λ (n : NodeContent). ById (shown_in n.table.state) (ms_of c.args.now) c.args.id c.by_id.result) c.self.view_is c.by_id.ensures.read
