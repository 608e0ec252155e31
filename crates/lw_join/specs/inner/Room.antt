-- Room for a join of two maps.
use Rattle.std.specs.Prelude.{◌≡◌, ◌+◌, ◌≤◌, List, [], Option, Some, None, vec_len, vec_capacity}
use Rattle.std.specs.declared.cmp.Ordering.{Ordering}
use Rattle.std.specs.declared.vec.Vec.{Vec}
use Rattle.lw_join.specs.Entries.{missing}

-- the keys that are missing have room beside the others, or all together in another vector, which is empty
abbrev pub HasRoom : {K J Z : Type 0} → (K → K → Ordering) → Vec (K × J) Z → List (K × J) → Option (Vec (K × J) Z) → Type 0
HasRoom cmp into from None = vec_len into + missing cmp into.items from ≤ vec_capacity into
HasRoom cmp into from (Some room) = (room.items ≡ []) × (vec_len into + missing cmp into.items from ≤ vec_capacity room)
