-- What is put so far, and behind it what is left, are all.
use Rattle.std.proofs.Common.{◌≡◌, ◌++◌, string_bytes}
use Rattle.std.specs.Str.Iter.{chars_rest}
use Rattle.lw_metrics.specs.Exposition.{escaped}
use Rattle.lw_metrics.proofs.escaping.put_value.Given as goal

abbrev pub invariant-loop-character : goal.invariant-loop-character
invariant-loop-character l =
    string_bytes l.text ++ escaped (chars_rest l.character-iterator) ≡ string_bytes l.initial.text ++ escaped l.value
