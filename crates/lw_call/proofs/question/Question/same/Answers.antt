use Rattle.std.proofs.Common.{rules}
use Rattle.lw_call.proofs.question.Question.same.Goals as goal

pub returns-then-same_stamp : goal.returns-then-same_stamp
returns-then-same_stamp c = search rules
