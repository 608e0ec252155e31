use Rattle.std.proofs.lemmas.Slice.Zip.{either_empty_from_Zip}
use Rattle.lw_metrics.proofs.TextLemmas.{all_put}
use Rattle.lw_metrics.proofs.family.put_response_samples.Goals as goal

pub returns : goal.returns
returns c = all_put _ _ _ _ _ _ (either_empty_from_Zip _ c.next.new.self _ c.in-None.is c.next.ensures.steps) c.loop-status.invariant
