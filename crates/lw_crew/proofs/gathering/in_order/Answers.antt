use Rattle.std.proofs.Common.{◌∙◌, ap, None, Some}
use Rattle.std.proofs.lemmas.Option.{slice_get-get_or}
use Rattle.lw_crew.proofs.Slots.{taken_more, has_job}
use Rattle.lw_crew.proofs.gathering.in_order.Goals as goal

pub loop-job-preserved : goal.loop-job-preserved
loop-job-preserved c = taken_more _ _ c.loop-job.all.items _ c.in-Some.done c.loop-job.invariant (slice_get-get_or _ _ None c.loop-job-test.true ∙ ap Some c.in-Some.is) c.in-Ok.ensures.items

pub returns-in_default-clause-err : goal.returns-in_default-clause-err
returns-in_default-clause-err c = (
  c.requires.clean,
  c.loop-job-test.true,
  c.requires.empty c.loop-job.job (slice_get-get_or _ _ None c.loop-job-test.true ∙ ap Some c.in_default.is),
  λ k l. let w = c.loop-job.invariant.full k l in has_job _ _ _ k w.0 c.requires w.1,
)
