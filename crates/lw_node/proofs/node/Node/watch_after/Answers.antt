use Rattle.std.proofs.Common.{subst}
use Rattle.std.specs.Option.{option_copied}
use Rattle.lw_stamp.specs.Moment.{ms_of}
use Rattle.lw_reg.specs.Reading.{shown_in}
use Rattle.lw_table.specs.LookUps.{WatchOfIdAfter}
use Rattle.lw_node.specs.Node.{NodeContent}
use Rattle.lw_node.proofs.node.Node.watch_after.Goals as goal

pub returns-clause-read : goal.returns-clause-read
returns-clause-read c = subst (λ (n : NodeContent). WatchOfIdAfter (shown_in n.table.state) (ms_of c.args.now) c.args.id (option_copied c.args.after) c.watch_after.result) c.self.view_is c.watch_after.ensures.read
