use Rattle.lw_crew.proofs.Back.{one_back}
use Rattle.lw_crew.proofs.work.+work_in_turn.Goals as goal

pub returns-clause-all : goal.returns-clause-all
returns-clause-all g t c = one_back c.args.passes.items _ c.work_in_turn-all.result.items _ c.in-Some.pass _ c.in-Some.ensures.items c.work_in_turn-all.ensures.all c.do_jobs.ensures c.push_reserved.ensures.items
