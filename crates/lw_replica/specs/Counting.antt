-- How many bytes stand in a log: those of the last snapshot, and those of the entries behind it.
use Rattle.std.specs.Prelude.{◌≡◌, ℕ, ◌+◌, ◌-◌, ◌^◌, ◌⊎◌, min, List, [], ◌∷◌, length, Bool, cond}
use Rattle.lw_log.specs.Calls.{LogCall}
use Rattle.lw_log.specs.Calls.LogCall.{Read, Wrote, Tried, Trimmed}
use Rattle.lw_log.specs.Entries.{BodyContent, EntryContent, IsEntry}
use Rattle.lw_log.specs.Entries.BodyContent.{Start, Delta, Snapshot}
use Rattle.lw_replica.specs.Replica.{ReplicaContent}

abbrev pub counted_by : ReplicaContent → ℕ × ℕ
counted_by replica = (replica.snapshot, replica.behind)

-- one entry more, of so many bytes; a count goes up to the last number of 64 bits
abbrev pub counted_with : BodyContent → ℕ → ℕ × ℕ → ℕ × ℕ
counted_with Start bytes counted = (counted.0, min (counted.1 + bytes) (2 ^ 64 - 1))
counted_with (Delta delta) bytes counted = (counted.0, min (counted.1 + bytes) (2 ^ 64 - 1))
counted_with (Snapshot used_numbers delta) bytes counted = (bytes, 0)

-- bytes that are no entry are not counted
abbrev pub CountsEntry : ℕ × ℕ → List ℕ → ℕ × ℕ → Type 0
CountsEntry old bytes new = ((e : EntryContent) × IsEntry bytes e × (new ≡ counted_with e.body (length bytes) old)) ⊎ (((e : EntryContent) → ¬ IsEntry bytes e) × (new ≡ old))

-- one after another
abbrev pub CountsEntries : ℕ × ℕ → List (List ℕ) → ℕ × ℕ → Type 0
CountsEntries old [] new = new ≡ old
CountsEntries old (e ∷ es) new = (mid : ℕ × ℕ) × CountsEntry old e mid × CountsEntries mid es new

-- where nobody else appends to the log, what it appends is not read again, and counts as it is appended
abbrev pub own_entries : Bool → List LogCall → List (List ℕ)
own_entries alone (Wrote p ∷ calls) = cond alone (p.1 ∷ []) []
own_entries alone [] = []
own_entries alone (Read from es ∷ calls) = []
own_entries alone (Tried e ∷ calls) = []
own_entries alone (Trimmed upto ∷ calls) = []
