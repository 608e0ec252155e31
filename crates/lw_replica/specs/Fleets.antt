-- Which fleet the entries of a log tell.
use Rattle.std.specs.Prelude.{◌≡◌, ℕ, ◌⊎◌, List, [], ◌∷◌, Option, Some, None, Bool, true, false}
use Rattle.lw_log.specs.Entries.{BodyContent, EntryContent, IsEntry}
use Rattle.lw_log.specs.Entries.BodyContent.{Start, Delta, Snapshot}
use Rattle.lw_replica.specs.Replica.{ReplicaContent}

-- whether a delta has told it, and the fleet
abbrev pub told_in : ReplicaContent → Bool × Option (List ℕ)
told_in replica = (replica.settled, replica.fleet)

-- the first start tells it, where no delta has
abbrev pub told_first : Bool → Option (List ℕ) → List ℕ → Option (List ℕ)
told_first true known fleet = known
told_first false (Some known) fleet = Some known
told_first false None fleet = Some fleet

-- and a delta tells it for good
abbrev pub told_by : BodyContent → List ℕ → Bool × Option (List ℕ) → Bool × Option (List ℕ)
told_by Start fleet told = (told.0, told_first told.0 told.1 fleet)
told_by (Delta delta) fleet told = (true, Some fleet)
told_by (Snapshot used_numbers delta) fleet told = (true, Some fleet)

-- bytes that are no entry tell nothing
abbrev pub TellsFleet : Bool × Option (List ℕ) → List ℕ → Bool × Option (List ℕ) → Type 0
TellsFleet old bytes new =
    ((e : EntryContent) × IsEntry bytes e × (new ≡ told_by e.body e.fleet old))
    ⊎ (((e : EntryContent) → ¬ IsEntry bytes e) × (new ≡ old))

-- one after another
abbrev pub TellFleets : Bool × Option (List ℕ) → List (List ℕ) → Bool × Option (List ℕ) → Type 0
TellFleets old [] new = new ≡ old
TellFleets old (e ∷ es) new = (mid : Bool × Option (List ℕ)) × TellsFleet old e mid × TellFleets mid es new
