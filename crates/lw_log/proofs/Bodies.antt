-- The body of a kind, or its fault.
use Rattle.std.proofs.Common.{◌≡◌, ◌≤◌, ℕ, List, ◌++◌, length, take, drop, sym, ap, ◌∙◌, subst}
use Rattle.std.proofs.lemmas.List.{take-append-drop, length-take-le}
use Rattle.lw_log.specs.declared.entry_fault.EntryFault.{EntryFault}
use Rattle.lw_log.specs.declared.entry_fault.EntryFault.TheVariants.{Magic, Newer, Truncated, Range, Trailing, Delta as DeltaFaults}
use Rattle.lw_log.specs.Entries.BodyContent.{Snapshot}
use Rattle.lw_log.specs.EntryFaults.{HoldsDelta, IsBodyFault}
use Rattle.lw_log.specs.inner.Reading.{IsBodyOf, IsDelta, IsDeltaFaultOf}

-- a fault of the delta that a body holds is one of the body
pub fault_in_delta : (kind : ℕ) (body delta : List ℕ) (f : EntryFault) → HoldsDelta kind body delta → IsDeltaFaultOf delta f → IsBodyFault kind body f
fault_in_delta kind body delta Magic holds h = h
fault_in_delta kind body delta Newer holds h = (delta, holds, h)
fault_in_delta kind body delta Truncated holds h = absurd h
fault_in_delta kind body delta Range holds h = absurd h
fault_in_delta kind body delta Trailing holds h = absurd h
fault_in_delta kind body delta (DeltaFaults f) holds h = (delta, holds, h.0, h.1)

-- the body of a snapshot is its numbers and its delta
pub snapshot_body : (kind : ℕ) (body used_numbers delta : List ℕ) → kind ≡ 2 → used_numbers ≡ take 8192 body → delta ≡ drop 8192 body → 8192 ≤ length body → IsDelta delta
    → IsBodyOf kind body (Snapshot used_numbers delta)
snapshot_body kind body used_numbers delta k n d long spelled = record {
  kind_is = sym k;
  written = sym (take-append-drop 8192 body) ∙ ap (λ (x : List ℕ). x ++ drop 8192 body) (sym n) ∙ ap (λ (x : List ℕ). used_numbers ++ x) (sym d);
  fits = ap length n ∙ length-take-le 8192 body long;
  spelled = λ own same. subst IsDelta same spelled;
}
