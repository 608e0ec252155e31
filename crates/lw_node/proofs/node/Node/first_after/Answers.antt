use Rattle.std.proofs.Common.{subst}
use Rattle.lw_stamp.specs.Moment.{ms_of}
use Rattle.lw_reg.specs.Reading.{shown_in}
use Rattle.lw_table.specs.Answers.{FirstAfter, after_text}
use Rattle.lw_node.specs.Node.{NodeContent}
use Rattle.lw_node.proofs.node.Node.first_after.Goals as goal

pub returns-clause-read : goal.returns-clause-read
returns-clause-read c = subst (λ (n : NodeContent). FirstAfter (shown_in n.table.state) (ms_of c.args.now) (after_text c.args.after) c.first_after.result) c.self.view_is c.first_after.ensures.read
