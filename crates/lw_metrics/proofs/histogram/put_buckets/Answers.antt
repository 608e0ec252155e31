use Rattle.std.proofs.lemmas.Slice.Zip.{either_empty_from_Zip}
use Rattle.lw_metrics.proofs.TextLemmas.{buckets_put}
use Rattle.lw_metrics.proofs.histogram.put_buckets.Goals as goal

pub returns : goal.returns
returns c =
    buckets_put (λ t. t.now) _ _ _ _ _ _ _
    (either_empty_from_Zip _ c.next.new.self _ c.in-None.is c.next.ensures.steps) c.loop-bound.invariant
