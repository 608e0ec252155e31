use Rattle.lw_crew.specs.Continues.{Continues}
use Rattle.lw_crew.proofs.work.do_jobs.Given as goal

abbrev pub invariant-loop-turn : goal.invariant-loop-turn
invariant-loop-turn g l = Continues l.initial.pass l.pass
