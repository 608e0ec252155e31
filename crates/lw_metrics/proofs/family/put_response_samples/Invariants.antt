-- What is put so far, and behind it the samples that are left, are all.
use Rattle.std.proofs.Common.{◌≡◌, ◌++◌, map, string_bytes}
use Rattle.std.specs.Iterator.Adapters.{zip_first, zip_second}
use Rattle.std.specs.List.{flat_map, zip}
use Rattle.std.specs.Slice.Iter.{iter_rest}
use Rattle.lw_metrics.specs.declared.metric.Metric.TheVariants.{Responses}
use Rattle.lw_metrics.specs.Exposition.{sample_text}
use Rattle.lw_metrics.specs.Families.{response_sample}
use Rattle.lw_metrics.specs.IoCounters.{statuses}
use Rattle.lw_metrics.proofs.family.put_response_samples.Given as goal

abbrev pub invariant-loop-status : goal.invariant-loop-status
invariant-loop-status l =
    string_bytes l.text ++ flat_map (sample_text Responses) (map response_sample (zip (iter_rest (zip_first l.status-iterator)) (iter_rest (zip_second l.status-iterator))))
    ≡ string_bytes l.initial.text ++ flat_map (sample_text Responses) (map response_sample (zip statuses l.numbers))
