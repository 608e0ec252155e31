-- Entries that a process has seen in its log.
use Rattle.std.specs.Prelude.{◌≡◌, ℕ, List, [], ◌∷◌, Option, Some}
use Rattle.lw_log.specs.Calls.{LogCall}
use Rattle.lw_log.specs.Known.{IsSeen}

-- the entry was seen, where it is known what was asked
abbrev pub IsSeenBy : Option (List LogCall) → List ℕ → Type 0
IsSeenBy asked bytes = (calls : List LogCall) → asked ≡ Some calls → IsSeen bytes calls

abbrev pub AreSeenBy : Option (List LogCall) → List (List ℕ) → Type 0
AreSeenBy asked [] = Unit {0}
AreSeenBy asked (e ∷ es) = IsSeenBy asked e × AreSeenBy asked es
