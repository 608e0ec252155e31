use Rattle.std.proofs.Common.{◌≡◌, take}
use Rattle.lw_delta.specs.Writable.{IsBegun}
use Rattle.lw_ground_tests.proofs.delta.write.Given as goal

abbrev pub invariant-loop-entry : goal.invariant-loop-entry
invariant-loop-entry l = record {
  begun : IsBegun l.writer (take l.entry-index l.slots);
  clock : l.writer.clock ≡ l.clock;
}
