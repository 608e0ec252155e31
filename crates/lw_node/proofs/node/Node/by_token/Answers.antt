use Rattle.std.proofs.Common.{subst}
use Rattle.lw_stamp.specs.Moment.{ms_of}
use Rattle.lw_reg.specs.Reading.{shown_in}
use Rattle.lw_table.specs.LookUps.{ByToken}
use Rattle.lw_node.specs.Node.{NodeContent}
use Rattle.lw_node.proofs.node.Node.by_token.Goals as goal

pub returns-clause-read : goal.returns-clause-read
returns-clause-read c = subst (λ (n : NodeContent). ByToken (shown_in n.table.state) (ms_of c.args.now) c.args.token c.by_token.result) c.self.view_is c.by_token.ensures.read
