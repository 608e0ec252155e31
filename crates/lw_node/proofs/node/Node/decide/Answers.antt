use Rattle.std.proofs.Common.{refl}
use Rattle.lw_stamp.specs.Moment.{ms_of}
use Rattle.lw_node.specs.Calls.{issuer_at}
use Rattle.lw_node.specs.Node.{marks_in}
use Rattle.lw_node.proofs.Messages.{decides_malformed}
use Rattle.lw_node.proofs.node.Node.decide.Goals as goal

pub returns-in_ok-malformed-in_default-clause-meaning : goal.returns-in_ok-malformed-in_default-clause-meaning
returns-in_ok-malformed-in_default-clause-meaning c known is =
    decides_malformed (issuer_at c.args.self.now (ms_of c.args.now)) (marks_in c.args.self.now.table.state known) c.args.from c.args.bytes.now c.in-Err.fault _ c.reply.result
    ((c.in-Err.ensures.faults c.in-Err.fault c.in_default.not-NoMemory).0 refl) c.in_ok-malformed-in_default.ensures.reply c.reply.ensures
