-- The lines so far were taken, and what is printed of them was appended.
use Rattle.std.proofs.Common.{map, take}
use Rattle.registry.specs.Run.{TellsAll}
use Rattle.registry.proofs.running.take_lines.Given as goal

abbrev pub invariant-loop-place : goal.invariant-loop-place
invariant-loop-place g l =
    TellsAll l.initial.registry (take l.place (map (λ line. line.now) l.lines)) l.registry (g.W.Write.contents l.initial.writer) (g.W.Write.contents l.writer)
