-- What is put so far, and behind it the samples that are left, are all.
use Rattle.std.proofs.Common.{◌≡◌, ◌++◌, map, string_bytes}
use Rattle.std.specs.Iterator.Adapters.{zip_first, zip_second}
use Rattle.std.specs.List.{flat_map, zip}
use Rattle.std.specs.Slice.Iter.{iter_rest}
use Rattle.lw_metrics.specs.declared.metric.Metric.TheVariants.{Replies}
use Rattle.lw_metrics.specs.Exposition.{sample_text}
use Rattle.lw_metrics.specs.Families.{reply_sample}
use Rattle.lw_metrics.specs.ReplyCodes.{reply_codes}
use Rattle.lw_metrics.proofs.family.put_reply_samples.Given as goal

abbrev pub invariant-loop-code : goal.invariant-loop-code
invariant-loop-code l =
    string_bytes l.text ++ flat_map (sample_text Replies) (map reply_sample (zip (iter_rest (zip_first l.code-iterator)) (iter_rest (zip_second l.code-iterator))))
    ≡ string_bytes l.initial.text ++ flat_map (sample_text Replies) (map reply_sample (zip reply_codes l.numbers))
