-- What is put so far, and behind it the buckets that are left, are all.
use Rattle.std.proofs.Common.{◌≡◌, ◌++◌, map, string_bytes}
use Rattle.std.specs.Iterator.Adapters.{zip_first, zip_second}
use Rattle.std.specs.List.{flat_map, zip}
use Rattle.std.specs.Slice.Iter.{iter_rest}
use Rattle.lw_metrics.specs.declared.metric.Metric.TheVariants.{AppendSeconds}
use Rattle.lw_metrics.specs.Exposition.{sample_text}
use Rattle.lw_metrics.specs.Families.{bound_texts, bucket_sample, sums}
use Rattle.lw_metrics.proofs.histogram.put_buckets.Given as goal

abbrev pub invariant-loop-bound : goal.invariant-loop-bound
invariant-loop-bound l =
    string_bytes l.text ++ flat_map (sample_text AppendSeconds) (map bucket_sample
    (zip (map (λ t. t.now) (iter_rest (zip_first l.bound-iterator))) (sums l.within (iter_rest (zip_second l.bound-iterator)))))
    ≡ string_bytes l.initial.text ++ flat_map (sample_text AppendSeconds) (map bucket_sample
    (zip bound_texts (sums 0 l.counts)))
