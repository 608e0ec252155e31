-- What a first look has seen of entries.
use Rattle.std.specs.Prelude.{◌≡◌, ◌≢◌, ℕ, ◌⊎◌, List, [], ◌∷◌, true, false}
use Rattle.lw_log.specs.Entries.{BodyContent, EntryContent}
use Rattle.lw_log.specs.Entries.BodyContent.{Start, Delta, Snapshot}
use Rattle.lw_replica.specs.declared.fault.ReplicaFault.{ReplicaFault}
use Rattle.lw_replica.specs.declared.fault.ReplicaFault.TheVariants.{Log, AnotherFleet, LogCut, LogNewer}
use Rattle.lw_replica.specs.declared.fault.ReplicaFault.TheVariants.{NumberTaken, NumbersEnded, ClockAhead, NoMemory}
use Rattle.lw_replica.specs.declared.looking.FirstLook.{FirstLook}
use Rattle.lw_replica.specs.Beginning.{BeginsLog, HasSnapshot}
use Rattle.lw_replica.specs.Reading.{AreNoted}

abbrev pub IsFirstBody : BodyContent → ℕ → Type 0
IsFirstBody Start sequence = sequence ≡ 1
IsFirstBody (Delta delta) sequence = ⊥
IsFirstBody (Snapshot used_numbers delta) sequence = ⊥

abbrev pub IsFirst : EntryContent → Type 0
IsFirst e = IsFirstBody e.body e.sequence

abbrev pub IsAllBody : BodyContent → Type 0
IsAllBody Start = ⊥
IsAllBody (Delta delta) = ⊥
IsAllBody (Snapshot used_numbers delta) = Unit {0}

abbrev pub IsAll : EntryContent → Type 0
IsAll e = IsAllBody e.body

abbrev pub HasBeginning : List (List ℕ) → Type 0
HasBeginning [] = ⊥
HasBeginning (e ∷ es) = BeginsLog e ⊎ HasSnapshot (e ∷ es)

-- the faults of a first look
abbrev pub IsLookFault : ReplicaFault → Type 0
IsLookFault LogCut = Unit {0}
IsLookFault (Log fault) = Unit {0}
IsLookFault NoMemory = Unit {0}
IsLookFault AnotherFleet = ⊥
IsLookFault LogNewer = ⊥
IsLookFault NumberTaken = ⊥
IsLookFault NumbersEnded = ⊥
IsLookFault ClockAhead = ⊥

-- these entries were seen
pub record HasSeen (es : List (List ℕ)) (look : FirstLook) : Type 0 where
  pub none : look.any ≡ false → es ≡ []
  pub some : look.any ≡ true → es ≢ []
  pub whole : look.whole ≡ true → HasBeginning es
  pub used_numbers : AreNoted [] es look.used_numbers.bytes.value
