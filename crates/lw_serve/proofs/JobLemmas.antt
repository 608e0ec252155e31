-- The merges of a delta and the sweeps of a round, node by node.
use Rattle.std.proofs.Common.{◌≡◌, ◌==◌, ℕ, ◌+◌, List, [], ◌∷◌, ◌++◌, refl, add-one, if◌then◌else◌}
use Rattle.lw_stamp.specs.declared.moment.Moment.{Moment}
use Rattle.lw_serve.specs.Jobs.{merge_of, merges_of, sweep_of, sweeps_of}

-- the merges at one node more
pub merges_more : (sender : ℕ) (delta : List ℕ) (n : ℕ) → merges_of sender delta (n + 1) ≡ merges_of sender delta n ++ (if (n + 1) == sender then [] else merge_of delta (n + 1) ∷ [])
merges_more sender delta n = rw add-one refl

-- the sweeps at one node more
pub sweeps_more : (now : Moment) (n : ℕ) → sweeps_of now (n + 1) ≡ sweeps_of now n ++ sweep_of now (n + 1) ∷ []
sweeps_more now n = rw add-one refl
