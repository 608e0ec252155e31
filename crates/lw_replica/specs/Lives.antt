-- What a replica was asked, one call after another.
use Rattle.std.specs.Prelude.{◌≡◌, List, [], ◌∷◌}
use Rattle.lw_replica.specs.Compaction.{Compacts}
use Rattle.lw_replica.specs.Replica.{ReplicaContent, Stays}
use Rattle.lw_replica.specs.Own.{WritesOwn}

pub data Asked : Type 0 where
  Round : Asked
  Compaction : Asked

-- what each leaves, also where it fails
abbrev pub Leaves : ReplicaContent → Asked → ReplicaContent → Type 0
Leaves old Round new = WritesOwn old new
Leaves old Compaction new = Compacts old new

abbrev pub Lives : ReplicaContent → List Asked → ReplicaContent → Type 0
Lives first [] last = last ≡ first
Lives first (asked ∷ more) last = (mid : ReplicaContent) × Leaves first asked mid × Lives mid more last

abbrev pub ForgetsNothing : Type 0
ForgetsNothing = (first last : ReplicaContent) (asked : List Asked) → Lives first asked last → Stays first last
