-- The lines so far are kept.
use Rattle.std.proofs.Common.{◌≡◌, length, map, take}
use Rattle.registry.specs.Run.{lines_of}
use Rattle.registry.proofs.running.lines.Given as goal

abbrev pub invariant-loop-line : goal.invariant-loop-line
invariant-loop-line l = map (λ line. line.now) l.lines.items ≡ take (length l.yielded) (lines_of l.input)
