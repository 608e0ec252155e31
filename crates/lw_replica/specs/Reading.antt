-- How a log is read to its end, and what its entries bring to a node.
use Rattle.std.specs.Prelude.{◌≡◌, ◌↔◌, ℕ, ◌<◌, ◌≤◌, ◌/◌, ◌%◌, ◌^◌, ◌⊎◌, List, [], ◌∷◌, ◌++◌, length, map, slice_index, Option, Some, Bool, cond}
use Rattle.lw_reg.specs.State.{State}
use Rattle.lw_delta.specs.Delta.{DeltaContent}
use Rattle.lw_node.specs.Exchange.{Merged}
use Rattle.lw_node.specs.Node.{NodeContent}
use Rattle.lw_log.specs.Calls.{LogCall, Placed}
use Rattle.lw_log.specs.Calls.LogCall.{Read, Wrote, Tried, Trimmed}
use Rattle.lw_log.specs.Entries.{BodyContent, EntryContent, IsEntry, BringsDelta}
use Rattle.lw_log.specs.Entries.BodyContent.{Start, Delta, Snapshot}
use Rattle.lw_log.specs.EntryFaults.{IsNewer}
use Rattle.lw_log.specs.Known.{Has}

-- ---- pages
-- the position of the last of these entries, or where there is none the one before
abbrev pub place_read : Option (ℕ × ℕ) → List Placed → Option (ℕ × ℕ)
place_read after [] = after
place_read after (e ∷ es) = place_read (Some e.0) es

abbrev pub bytes_of : List Placed → List (List ℕ)
bytes_of es = map (λ e. e.1) es

-- Pages, read one after another from a position on. A page of fewer than 256 entries is the last.
abbrev pub AreReadToTheEnd : Option (ℕ × ℕ) → List LogCall → Type 0
AreReadToTheEnd after [] = ⊥
AreReadToTheEnd after (Read from es ∷ []) = (from ≡ after) × (length es < 256)
AreReadToTheEnd after (Read from es ∷ call ∷ calls) = (from ≡ after) × (256 ≤ length es) × AreReadToTheEnd (place_read after es) (call ∷ calls)
AreReadToTheEnd after (Wrote p ∷ calls) = ⊥
AreReadToTheEnd after (Tried e ∷ calls) = ⊥
AreReadToTheEnd after (Trimmed upto ∷ calls) = ⊥

-- nothing but readings
abbrev pub AreReads : List LogCall → Type 0
AreReads [] = Unit {0}
AreReads (Read from es ∷ calls) = AreReads calls
AreReads (Wrote p ∷ calls) = ⊥
AreReads (Tried e ∷ calls) = ⊥
AreReads (Trimmed p ∷ calls) = ⊥

-- the position of the last entry that was read, or where there is none the one before
abbrev pub last_read : Option (ℕ × ℕ) → List LogCall → Option (ℕ × ℕ)
last_read after [] = after
last_read after (Read from es ∷ calls) = last_read (place_read after es) calls
last_read after (Wrote p ∷ calls) = last_read after calls
last_read after (Tried e ∷ calls) = last_read after calls
last_read after (Trimmed upto ∷ calls) = last_read after calls

-- the entries that were read, in order
abbrev pub entries_in : List LogCall → List (List ℕ)
entries_in [] = []
entries_in (Read from es ∷ calls) = bytes_of es ++ entries_in calls
entries_in (Wrote p ∷ calls) = entries_in calls
entries_in (Tried e ∷ calls) = entries_in calls
entries_in (Trimmed upto ∷ calls) = entries_in calls

-- ---- deltas
-- the delta that the entry brings is merged whole; an entry that brings none changes nothing
abbrev pub MergesEntry : NodeContent → List ℕ → NodeContent → Type 0
MergesEntry old bytes new = ((d : DeltaContent) × BringsDelta bytes d × Merged old d.clock d.slots new) ⊎ (((d : DeltaContent) → ¬ BringsDelta bytes d) × (new ≡ old))

-- one after another
abbrev pub MergesEntries : NodeContent → List (List ℕ) → NodeContent → Type 0
MergesEntries old [] new = new ≡ old
MergesEntries old (e ∷ es) new = (mid : NodeContent) × MergesEntry old e mid × MergesEntries mid es new

-- ---- how far it has read
-- what each of the entries brings is at or below what is known
abbrev pub KnowsAll : ℕ × State → List (List ℕ) → Type 0
KnowsAll known [] = Unit {0}
KnowsAll known (e ∷ es) = Has known e × KnowsAll known es

-- How the position moves with what was asked. A reading is asked for from there on, and the position is behind those of its
-- first entries that are known: all of them, or fewer where one could not be merged. An own entry moves it where nobody else
-- appends to the log.
abbrev pub ReadsOn : Bool → ℕ × State → Option (ℕ × ℕ) → List LogCall → Option (ℕ × ℕ) → Type 0
ReadsOn alone known from [] upto = upto ≡ from
ReadsOn alone known from (Read after es ∷ calls) upto =
    (taken left : List Placed) × (es ≡ taken ++ left) × (after ≡ from) × KnowsAll known (bytes_of taken) × ReadsOn alone known (place_read from taken) calls upto
ReadsOn alone known from (Wrote p ∷ calls) upto = ReadsOn alone known (cond alone (Some p.0) from) calls upto
ReadsOn alone known from (Tried e ∷ calls) upto = ReadsOn alone known from calls upto
ReadsOn alone known from (Trimmed p ∷ calls) upto = ReadsOn alone known from calls upto

-- ---- entries that a replica goes on from
-- it is of no newer format, and a delta that it brings is one of the fleet
pub record IsGood (fleet : Option (List ℕ)) (bytes : List ℕ) : Type 0 where
  pub known : ¬ IsNewer bytes
  pub of_fleet : (d : DeltaContent) (brings : BringsDelta bytes d) → fleet ≡ Some brings.entry.fleet

abbrev pub AreGood : Option (List ℕ) → List (List ℕ) → Type 0
AreGood fleet [] = Unit {0}
AreGood fleet (e ∷ es) = IsGood fleet e × AreGood fleet es

-- ---- numbers
-- the bit of a number in those that starts have had: eight numbers a byte, the least first
abbrev pub HasBit : List ℕ → ℕ → Type 0
HasBit used_numbers number = (slice_index used_numbers (number / 8) / 2 ^ (number % 8)) % 2 ≡ 1

abbrev pub TellsOf : ℕ → BodyContent → Type 0
TellsOf number Start = ⊥
TellsOf number (Delta delta) = ⊥
TellsOf number (Snapshot used_numbers delta) = HasBit used_numbers number

-- the entry tells that a start has had the number: it is of that start, or a snapshot with its bit
abbrev pub Meets : ℕ → List ℕ → Type 0
Meets number bytes = (e : EntryContent) × IsEntry bytes e × ((e.number ≡ number) ⊎ TellsOf number e.body)

-- some entry tells of the number
abbrev pub IsMet : ℕ → List (List ℕ) → Type 0
IsMet number [] = ⊥
IsMet number (e ∷ es) = Meets number e ⊎ IsMet number es

-- the numbers of which the entries tell have got their bits, and no others
abbrev pub AreNoted : List ℕ → List (List ℕ) → List ℕ → Type 0
AreNoted old entries new = (n : ℕ) → HasBit new n ↔ (HasBit old n ⊎ IsMet n entries)

-- the entry is of the start with this number and tag
abbrev pub IsOf : ℕ → ℕ → List ℕ → Type 0
IsOf number tag bytes = (e : EntryContent) × IsEntry bytes e × (e.number ≡ number) × (e.tag ≡ tag)

-- no entry tells of the number
abbrev pub IsFree : ℕ → List (List ℕ) → Type 0
IsFree number [] = Unit {0}
IsFree number (e ∷ es) = (¬ Meets number e) × IsFree number es

-- the first entry that tells of the number is of the start with this tag
abbrev pub IsTakenFirst : ℕ → ℕ → List (List ℕ) → Type 0
IsTakenFirst number tag [] = ⊥
IsTakenFirst number tag (e ∷ es) = IsOf number tag e ⊎ ((¬ Meets number e) × IsTakenFirst number tag es)

-- it is of that start, or no entry tells of the number
abbrev pub HoldsNumber : ℕ → ℕ → List (List ℕ) → Type 0
HoldsNumber number tag es = IsTakenFirst number tag es ⊎ IsFree number es
