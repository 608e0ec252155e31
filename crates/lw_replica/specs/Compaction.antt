-- How a replica has its log go on from all that its node knows.
use Rattle.std.specs.Prelude.{◌≡◌, ℕ, ◌<◌, ◌*◌, ◌⊎◌, List, [], ◌∷◌, ◌++◌, Some, None, true, false}
use Rattle.lw_node.specs.Exchange.{IsDeltaSince, known_by}
use Rattle.lw_log.specs.Calls.{LogCall, Placed, Calls}
use Rattle.lw_log.specs.Calls.LogCall.{Wrote, Tried, Trimmed}
use Rattle.lw_log.specs.Entries.BodyContent.{Snapshot}
use Rattle.lw_replica.specs.Counting.{CountsEntries, counted_by, own_entries}
use Rattle.lw_replica.specs.Fleets.{TellFleets, told_in}
use Rattle.lw_replica.specs.Replica.{ReplicaContent, IsCoveredBy, IsSameStart, Stays}
use Rattle.lw_replica.specs.Own.{IsOwnIn, IsReadOn, NumbersOn}
use Rattle.lw_replica.specs.Reading.{AreReads, AreReadToTheEnd, entries_in, last_read, AreGood, AreNoted, HoldsNumber, MergesEntries}
use Rattle.lw_replica.specs.Rounds.{place_after}

-- ---- when it is due
-- more than 16 MiB, and more than four times the bytes of the snapshot
abbrev pub IsLarge : ℕ → ℕ → Type 0
IsLarge snapshot behind = (16 * 1024 * 1024 < behind) × (4 * snapshot < behind)

abbrev pub IsCompactionDue : ReplicaContent → Type 0
IsCompactionDue replica = (replica.claimed ≡ true) × IsLarge replica.snapshot replica.behind

-- ---- what it writes
-- an entry with all that the node knows, and the numbers that starts have had
abbrev pub IsOwnSnapshot : ReplicaContent → List ℕ → Type 0
IsOwnSnapshot replica bytes = (delta : List ℕ) × IsDeltaSince replica.node 0 delta × IsOwnIn replica (Snapshot replica.used_numbers delta) bytes

-- positions rise by the first and then by the second number
abbrev pub StandsBefore : ℕ × ℕ → ℕ × ℕ → Type 0
StandsBefore a b = (a.0 < b.0) ⊎ ((a.0 ≡ b.0) × (a.1 < b.1))

-- what stands up to the position goes behind the append, where the entry itself stands behind it
abbrev pub LetsGo : Placed → ℕ × ℕ → List LogCall → Type 0
LetsGo p upto calls = (StandsBefore upto p.0 × (calls ≡ Wrote p ∷ Trimmed upto ∷ [])) ⊎ ((¬ StandsBefore upto p.0) × (calls ≡ Wrote p ∷ []))

-- All that the node knows is appended, and then goes what was read. Nothing is written where no entry was read that tells of
-- a fleet.
abbrev pub IsRenewed : ReplicaContent → List LogCall → ReplicaContent → List LogCall → Type 0
IsRenewed old pages new calls =
    ((calls ≡ []) × ((last_read old.read_to pages ≡ None) ⊎ (new.fleet ≡ None)))
    ⊎ ((p : Placed) × (upto : ℕ × ℕ) × LetsGo p upto calls × IsOwnSnapshot new p.1 × (last_read old.read_to pages ≡ Some upto) × (new.durable ≡ true) × IsCoveredBy new.calls (known_by new.node))

-- The log is read to its end and merged; all that the node knows is appended; and then goes what was read.
pub record IsCompacted (old new : ReplicaContent) : Type 0 where
  pub pages : List LogCall
  pub wrote : List LogCall
  pub asked : Calls old.calls new.calls (pages ++ wrote)
  pub start : IsSameStart old new
  pub sequence : NumbersOn old.sequence (pages ++ wrote) new.sequence
  pub claimed : new.claimed ≡ old.claimed
  pub read : AreReadToTheEnd old.read_to pages
  pub read_to : new.read_to ≡ place_after old.alone (last_read old.read_to pages) wrote
  pub good : AreGood new.fleet (entries_in pages)
  pub told : TellFleets (told_in old) (entries_in pages) (told_in new)
  pub holds : old.claimed ≡ false → HoldsNumber new.node.number new.tag (entries_in pages)
  pub merged : MergesEntries old.node (entries_in pages) new.node
  pub used_numbers : AreNoted old.used_numbers (entries_in pages) new.used_numbers
  pub counted : CountsEntries (counted_by old) (entries_in pages ++ own_entries old.alone wrote) (counted_by new)
  pub renewed : IsRenewed old pages new wrote

-- ---- also where it fails
-- what was read goes only after an append that returned, only where it stands before what was appended, and only where the log
-- was read to its end
abbrev pub IsRenewing : ReplicaContent → List LogCall → ReplicaContent → List LogCall → Type 0
IsRenewing old pages new [] = Unit {0}
IsRenewing old pages new (Tried e ∷ []) = AreReadToTheEnd old.read_to pages × IsOwnSnapshot new e
IsRenewing old pages new (Wrote p ∷ []) = AreReadToTheEnd old.read_to pages × IsOwnSnapshot new p.1
IsRenewing old pages new (Wrote p ∷ Trimmed upto ∷ []) = AreReadToTheEnd old.read_to pages × IsOwnSnapshot new p.1 × (last_read old.read_to pages ≡ Some upto) × StandsBefore upto p.0
IsRenewing old pages new _ = ⊥

-- and the replica knows what it knew, and is behind no entry that it does not know
pub record Compacts (old new : ReplicaContent) : Type 0 where
  pub pages : List LogCall
  pub more : List LogCall
  pub asked : Calls old.calls new.calls (pages ++ more)
  pub reads : AreReads pages
  pub renewing : IsRenewing old pages new more
  pub stays : Stays old new
  pub read_on : IsReadOn old (pages ++ more) new
