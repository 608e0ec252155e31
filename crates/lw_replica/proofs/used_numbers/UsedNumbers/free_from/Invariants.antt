use Rattle.std.proofs.Common.{ℕ, ◌<◌, ◌≤◌}
use Rattle.lw_replica.specs.Reading.{HasBit}
use Rattle.lw_replica.proofs.used_numbers.UsedNumbers.free_from.Given as goal

abbrev pub invariant-loop-number : goal.invariant-loop-number
invariant-loop-number l = (n : ℕ) → l.from ≤ n → n < l.number → HasBit l.self.bytes.value n

abbrev pub invariant-loop-number-2 : goal.invariant-loop-number-2
invariant-loop-number-2 l = record {
  above : (n : ℕ) → l.from ≤ n → n < 65536 → HasBit l.self.bytes.value n;
  below : (n : ℕ) → 1 ≤ n → n < l.number → HasBit l.self.bytes.value n;
}
