use Rattle.std.proofs.Common.{subst}
use Rattle.std.specs.Option.{option_map}
use Rattle.lw_stamp.specs.Moment.{ms_of}
use Rattle.lw_reg.specs.Reading.{shown_in}
use Rattle.lw_table.specs.Answers.{after_text}
use Rattle.lw_table.specs.LookUps.{ExpiredAfter}
use Rattle.lw_node.specs.Node.{NodeContent}
use Rattle.lw_node.proofs.node.Node.expired_after.Goals as goal

pub returns-clause-read : goal.returns-clause-read
returns-clause-read c = subst (λ (n : NodeContent). ExpiredAfter (shown_in n.table.state) (ms_of c.args.now) (after_text c.args.after) (option_map (λ x. (x.0.now, x.1)) c.expired_after.result)) c.self.view_is c.expired_after.ensures.read
