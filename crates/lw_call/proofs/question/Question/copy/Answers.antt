use Rattle.std.proofs.Common.{sym}
use Rattle.lw_call.proofs.question.Question.copy.Goals as goal

pub returns-in-WatchAfter-clause-value : goal.returns-in-WatchAfter-clause-value
returns-in-WatchAfter-clause-value c = sym c.in-WatchAfter.is
