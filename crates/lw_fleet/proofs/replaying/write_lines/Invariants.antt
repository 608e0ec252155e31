-- The lines of the outcomes so far were written.
use Rattle.std.proofs.Common.{take}
use Rattle.std.specs.Io.KnownBytes.{Appends}
use Rattle.lw_fleet.specs.Replay.{lines_text}
use Rattle.lw_fleet.proofs.replaying.write_lines.Given as goal

abbrev pub invariant-loop-outcome : goal.invariant-loop-outcome
invariant-loop-outcome g l =
    Appends (g.W.Write.contents l.initial.writer) (g.W.Write.contents l.writer) (lines_text l.world.messages (take l.outcome-index l.outcomes))
