use Rattle.lw_crew.proofs.Continue.{distinct_after}
use Rattle.lw_crew.proofs.serving.run.Goals as goal

pub returns-clause-distinct : goal.returns-clause-distinct
returns-clause-distinct g c = distinct_after _ _ c.work_all-passes.ensures c.requires.distinct
