use Rattle.std.proofs.Common.{◌==◌, length, take}
use Rattle.std.specs.List.{slice_split}
use Rattle.lw_script.specs.inner.Progress.{IsRead}
use Rattle.lw_script.proofs.script.read_lines.Given as goal

abbrev pub invariant-loop-place : goal.invariant-loop-place
invariant-loop-place l = IsRead l.progress (take (length l.yielded) (slice_split (λ byte. byte == 10) l.text))
