use Rattle.std.specs.Prelude.{length}
use Rattle.lw_ground_tests.proofs.delta.told.Given as goal

abbrev pub decreases-loop-endpoint : goal.decreases-loop-endpoint
decreases-loop-endpoint g l = length l.reader.bytes
