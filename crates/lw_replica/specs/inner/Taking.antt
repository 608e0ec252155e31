-- What a replica takes from entries, and judges of them.
use Rattle.std.specs.Prelude.{◌≡◌, ◌≢◌, ℕ, ◌≤◌, List, [], ◌∷◌, ◌++◌, ◌⊎◌, length, Option, Some, None, Bool, true, false}
use Rattle.lw_delta.specs.Delta.{DeltaContent, IsSpelling}
use Rattle.lw_node.specs.Exchange.{known_by}
use Rattle.lw_log.specs.Calls.{LogCall, Placed, place_of}
use Rattle.lw_log.specs.Calls.LogCall.{Read, Wrote, Tried, Trimmed}
use Rattle.lw_log.specs.Entries.{BodyContent, EntryContent, IsEntry, HasDelta, BringsDelta}
use Rattle.lw_log.specs.EntryFaults.{IsNewer}
use Rattle.lw_log.specs.declared.entry.FleetId.{FleetId}
use Rattle.lw_replica.specs.declared.state.ReplicaState.{ReplicaState}
use Rattle.lw_replica.specs.Reading.{MergesEntries, AreGood, AreNoted, IsFree, IsOf, IsTakenFirst, KnowsAll, Meets, ReadsOn, bytes_of, place_read}
use Rattle.lw_replica.specs.declared.fault.ReplicaFault.{ReplicaFault}
use Rattle.lw_replica.specs.declared.fault.ReplicaFault.TheVariants.{AnotherFleet, LogNewer, NoMemory}
use Rattle.lw_replica.specs.Counting.{CountsEntries}
use Rattle.lw_replica.specs.Fleets.{TellFleets}
use Rattle.lw_replica.specs.Refusals.{HasAnother, HasNewer, IsOfAnother}
use Rattle.lw_replica.specs.Own.{next_sequence}
use Rattle.lw_replica.specs.Parts.{fleet_of, used_numbers_of}
use Rattle.lw_replica.specs.inner.ReplicaState.{counted_in, fleet_told_in}

-- no entry brings a delta
abbrev pub AreBare : List (List ℕ) → Type 0
AreBare [] = Unit {0}
AreBare (e ∷ es) = ((d : DeltaContent) → ¬ BringsDelta e d) × AreBare es

-- what is taken from entries, one after another
pub record Takes (old : ReplicaState) (entries : List (List ℕ)) (new : ReplicaState) : Type 0 where
  pub merged : MergesEntries old.node entries new.node
  pub good : AreGood (fleet_of new) entries
  pub settled : old.settled ≡ true → (new.settled ≡ true) × (new.fleet ≡ old.fleet)
  pub unsettled : new.settled ≡ false → AreBare entries
  pub durable : new.durable ≡ old.durable
  pub written : old.durable ≡ false → new.written ≡ old.written
  pub sequence : new.sequence ≡ old.sequence
  pub used_numbers : AreNoted (used_numbers_of old) entries (used_numbers_of new)
  pub counted : CountsEntries (counted_in old) entries (counted_in new)
  pub told : TellFleets (fleet_told_in old) entries (fleet_told_in new)

-- ---- what is not taken
-- a delta of this fleet was not merged: another was told, or there is no memory
abbrev pub IsNotMerged : ReplicaState → FleetId → ReplicaFault → Type 0
IsNotMerged s fleet fault = ((fault ≡ AnotherFleet) × (s.settled ≡ true) × (s.fleet ≢ Some fleet)) ⊎ (fault ≡ NoMemory)

-- the entry is newer, or brings a delta of another fleet than was told, or there is no memory
abbrev pub IsNotTaken : ReplicaState → List ℕ → ReplicaFault → Type 0
IsNotTaken s bytes fault =
    ((fault ≡ LogNewer) × IsNewer bytes)
    ⊎ (((fault ≡ AnotherFleet) × (s.settled ≡ true) × IsOfAnother (fleet_of s) bytes) ⊎ (fault ≡ NoMemory))

-- so is one of these entries
abbrev pub AreNotTaken : ReplicaState → List (List ℕ) → ReplicaFault → Type 0
AreNotTaken s es fault =
    ((fault ≡ LogNewer) × HasNewer es)
    ⊎ (((fault ≡ AnotherFleet) × (s.settled ≡ true) × HasAnother (fleet_of s) es) ⊎ (fault ≡ NoMemory))

-- the entry of an option for the number: its own, another's, or none that tells of it
abbrev pub IsJudgedEntry : ℕ → ℕ → List ℕ → Option Bool → Type 0
IsJudgedEntry number tag bytes (Some true) = IsOf number tag bytes
IsJudgedEntry number tag bytes (Some false) = Unit {0}
IsJudgedEntry number tag bytes None = ¬ Meets number bytes

abbrev pub IsJudgedPage : ℕ → ℕ → List (List ℕ) → Option Bool → Type 0
IsJudgedPage number tag es (Some true) = IsTakenFirst number tag es
IsJudgedPage number tag es (Some false) = Unit {0}
IsJudgedPage number tag es None = IsFree number es

-- after some pages: it has claimed its number before, or its own start was the first, or none was there
abbrev pub IsJudged : Bool → ℕ → ℕ → List (List ℕ) → Bool → Type 0
IsJudged true number tag es own = own ≡ true
IsJudged false number tag es true = IsTakenFirst number tag es
IsJudged false number tag es false = IsFree number es

-- ---- pages
-- full pages, read one after another from a position to another
abbrev pub ArePages : Option (ℕ × ℕ) → List LogCall → Option (ℕ × ℕ) → Type 0
ArePages after [] upto = upto ≡ after
ArePages after (Read from es ∷ calls) upto = (from ≡ after) × (256 ≤ length es) × ArePages (place_read after es) calls upto
ArePages after (Wrote p ∷ calls) upto = ⊥
ArePages after (Tried e ∷ calls) upto = ⊥
ArePages after (Trimmed p ∷ calls) upto = ⊥

-- the position is behind the first entries of a page, each of which is known
pub record IsBehind (old : ReplicaState) (page : List Placed) (new : ReplicaState) : Type 0 where
  pub taken : List Placed
  pub left : List Placed
  pub is : page ≡ taken ++ left
  pub known : KnowsAll (known_by new.node) (bytes_of taken)
  pub read_to : place_of new.read_to ≡ place_read (place_of old.read_to) taken

-- it has read on with these calls, or is to read from the first entry
abbrev pub IsReadBy : ReplicaState → List LogCall → ReplicaState → Type 0
IsReadBy old more new = (place_of new.read_to ≡ None) ⊎ ReadsOn old.alone (known_by new.node) (place_of old.read_to) more (place_of new.read_to)

-- ---- entries that are written
-- the body's delta is spelled
abbrev pub IsSpelt : BodyContent → Type 0
IsSpelt body = (delta : List ℕ) → HasDelta body delta → (d : DeltaContent) × IsSpelling delta d

-- the bytes are an entry of this start, in a fleet, with a body
pub record IsEntryOf (s : ReplicaState) (fleet : List ℕ) (body : BodyContent) (bytes : List ℕ) : Type 0 where
  pub entry : EntryContent
  pub is : IsEntry bytes entry
  pub number : entry.number ≡ s.start.number
  pub tag : entry.tag ≡ s.start.tag
  pub sequence_is : entry.sequence ≡ next_sequence s.sequence
  pub fleet_is : entry.fleet ≡ fleet
  pub body_is : entry.body ≡ body
