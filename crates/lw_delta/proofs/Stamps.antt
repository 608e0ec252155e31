-- Stamps at the front of bytes.
use Rattle.std.proofs.Common.{◌≡◌, ℕ, ◌<◌, ◌≤◌, List, arith}
use Rattle.lw_stamp.specs.declared.stamp.Stamp.{Stamp}
use Rattle.lw_stamp.specs.Stamp.{stamp_bytes}
use Rattle.lw_stamp.specs.StampBytes.{counter_in}
use Rattle.lw_stamp.proofs.StampLemmas.{spelled_counter}
use Rattle.lw_delta.specs.declared.fault.DeltaFault.TheVariants.{Range, ClockBelow}
use Rattle.lw_delta.specs.Part.{Found, Fails, bytes_of}
use Rattle.lw_delta.specs.Format.{stamp}
use Rattle.lw_delta.proofs.Parts.{both, later_fails, meant, held, broken, held_fails}

pub stamp_found : (clock : ℕ) (bytes block rest : List ℕ) (s : Stamp) → Found (bytes_of 8) bytes block rest → stamp_bytes s ≡ block → s.counter ≤ clock → Found (stamp clock) bytes s rest
stamp_found clock bytes block rest s f e within =
    let same : s.counter ≡ counter_in block = spelled_counter s block e in
    both _ f (held _ (omega (arith, same, s.in_range.0)) (held _ (omega (arith, same, within)) (meant _ e)))

pub stamp_zero : (clock : ℕ) (bytes block rest : List ℕ) → Found (bytes_of 8) bytes block rest → counter_in block ≡ 0 → Fails (stamp clock) bytes Range
stamp_zero clock bytes block rest f zero = later_fails _ f (broken _ (λ some. omega (arith, zero, some)))

pub stamp_above : (clock : ℕ) (bytes block rest : List ℕ) (s : Stamp) → Found (bytes_of 8) bytes block rest → stamp_bytes s ≡ block → clock < s.counter → Fails (stamp clock) bytes ClockBelow
stamp_above clock bytes block rest s f e above =
    let same : s.counter ≡ counter_in block = spelled_counter s block e in
    later_fails _ f (held_fails _ (omega (arith, same, s.in_range.0)) (broken _ (λ within. omega (arith, same, above, within))))
