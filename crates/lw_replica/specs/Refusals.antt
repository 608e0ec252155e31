-- What a replica has read where it answers that it may not go on over its log.
use Rattle.std.specs.Prelude.{◌≡◌, ◌≢◌, ℕ, ◌⊎◌, List, [], ◌∷◌, Option, Some, true}
use Rattle.lw_delta.specs.Delta.{DeltaContent}
use Rattle.lw_log.specs.Calls.{LogCall, Calls}
use Rattle.lw_log.specs.Entries.{BringsDelta}
use Rattle.lw_log.specs.EntryFaults.{IsNewer}
use Rattle.lw_replica.specs.declared.fault.ReplicaFault.{ReplicaFault}
use Rattle.lw_replica.specs.declared.fault.ReplicaFault.TheVariants.{Log, AnotherFleet, LogCut, LogNewer}
use Rattle.lw_replica.specs.declared.fault.ReplicaFault.TheVariants.{NumberTaken, NumbersEnded, ClockAhead, NoMemory}
use Rattle.lw_replica.specs.Replica.{ReplicaContent}
use Rattle.lw_replica.specs.Reading.{entries_in}

-- some entry is of a newer format, or has a delta of one
abbrev pub HasNewer : List (List ℕ) → Type 0
HasNewer [] = ⊥
HasNewer (e ∷ es) = IsNewer e ⊎ HasNewer es

-- the entry brings a delta of another fleet
abbrev pub IsOfAnother : Option (List ℕ) → List ℕ → Type 0
IsOfAnother fleet bytes = (d : DeltaContent) × (brings : BringsDelta bytes d) × (fleet ≢ Some brings.entry.fleet)

abbrev pub HasAnother : Option (List ℕ) → List (List ℕ) → Type 0
HasAnother fleet [] = ⊥
HasAnother fleet (e ∷ es) = IsOfAnother fleet e ⊎ HasAnother fleet es

-- what the entries say where this is the fault of a round or a compaction; three are faults of a beginning alone
abbrev pub IsRefused : ReplicaContent → List (List ℕ) → ReplicaFault → Type 0
IsRefused replica es LogNewer = HasNewer es
IsRefused replica es AnotherFleet = (replica.settled ≡ true) × HasAnother replica.fleet es
IsRefused replica es (Log fault) = Unit {0}
IsRefused replica es NumberTaken = Unit {0}
IsRefused replica es NoMemory = Unit {0}
IsRefused replica es LogCut = ⊥
IsRefused replica es NumbersEnded = ⊥
IsRefused replica es ClockAhead = ⊥

-- it has read an entry that says so
pub record Refuses (old new : ReplicaContent) (fault : ReplicaFault) : Type 0 where
  pub more : List LogCall
  pub asked : Calls old.calls new.calls more
  pub why : IsRefused new (entries_in more) fault
