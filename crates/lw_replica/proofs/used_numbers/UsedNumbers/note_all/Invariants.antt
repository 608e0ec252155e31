use Rattle.std.proofs.Common.{◌≡◌, ℕ, ◌<◌, ◌≤◌, get_or, bit_or}
use Rattle.lw_replica.proofs.used_numbers.UsedNumbers.note_all.Given as goal

abbrev pub invariant-loop-i : goal.invariant-loop-i
invariant-loop-i l = record {
  done : (k : ℕ) → k < l.i → get_or l.self.bytes.value k 0 ≡ bit_or (get_or l.initial.self.bytes.value k 0) (get_or l.used_numbers k 0);
  left : (k : ℕ) → l.i ≤ k → get_or l.self.bytes.value k 0 ≡ get_or l.initial.self.bytes.value k 0;
}
