use Rattle.std.proofs.Common.{rules}
use Rattle.lw_fleet.proofs.replaying.sent_message.Goals as goal

pub returns-in-Sent-Ok : goal.returns-in-Sent-Ok
returns-in-Sent-Ok c = search rules
