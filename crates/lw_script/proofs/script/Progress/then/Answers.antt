use Rattle.std.proofs.Common.{subst}
use Rattle.lw_script.specs.inner.Progress.{IsRead}
use Rattle.lw_script.proofs.ScriptLemmas.{continued, read_bad, full_more}
use Rattle.lw_script.proofs.script.Progress.then.Goals as goal

pub returns-in-Read-clause-read : goal.returns-in-Read-clause-read
returns-in-Read-clause-read c = λ lines are. continued c.in-Read.script c.args.line.now c.then.result c.then.ensures.read lines (subst (λ p. IsRead p lines) c.in-Read.is are)

pub returns-in-Read-clause-bad : goal.returns-in-Read-clause-bad
returns-in-Read-clause-bad c = λ lines are. read_bad c.in-Read.script c.args.line.now c.then.result c.then.ensures.bad lines (subst (λ p. IsRead p lines) c.in-Read.is are)

pub returns-in-Full-clause-read : goal.returns-in-Full-clause-read
returns-in-Full-clause-read c = λ lines are. full_more c.args.line.now lines (subst (λ p. IsRead p lines) c.in-Full.is are) (c.is_event.ensures.0 c.if-is_event.true)
