-- What a log covers by what a process has seen of it.
use Rattle.std.specs.Prelude.{◌≡◌, ℕ, ◌⊎◌, List, [], ◌∷◌, ◌++◌, map}
use Rattle.lw_reg.specs.State.{State}
use Rattle.lw_delta.specs.Delta.{DeltaContent}
use Rattle.lw_node.specs.Exchange.{IsBelow, known_from}
use Rattle.lw_log.specs.Calls.{LogCall, Placed}
use Rattle.lw_log.specs.Calls.LogCall.{Read, Wrote, Tried, Trimmed}
use Rattle.lw_log.specs.Entries.{BringsDelta}
use Rattle.lw_log.specs.Log.{IsAmong}

-- the entry stands in the log, as the process has seen
abbrev pub IsSeen : List ℕ → List LogCall → Type 0
IsSeen e [] = ⊥
IsSeen e (Read after es ∷ calls) = IsAmong e (map (λ p. p.1) es) ⊎ IsSeen e calls
IsSeen e (Wrote p ∷ calls) = (e ≡ p.1) ⊎ IsSeen e calls
IsSeen e (Tried own ∷ calls) = IsSeen e calls
IsSeen e (Trimmed upto ∷ calls) = IsSeen e calls

-- at or above the delta that the entry brings, if it brings one
abbrev pub Has : ℕ × State → List ℕ → Type 0
Has known bytes = (d : DeltaContent) → BringsDelta bytes d → IsBelow (known_from d) known

abbrev pub HasSeen : ℕ × State → List LogCall → Type 0
HasSeen reader calls = (e : List ℕ) → IsSeen e calls → Has reader e

-- The log covers what is known, by what the process has seen of it: whoever has these entries knows at least this.
abbrev pub IsCovered : List LogCall → ℕ × State → Type 0
IsCovered calls known = (reader : ℕ × State) → HasSeen reader calls → IsBelow known reader

-- what is covered stays so, whatever is asked next
abbrev pub SeenCovers : Type 0
SeenCovers = (calls more : List LogCall) (known : ℕ × State) → IsCovered calls known → IsCovered (calls ++ more) known

-- an entry that was appended, with what is covered already, brings all that is known
abbrev pub OwnAppendsCover : Type 0
OwnAppendsCover =
    (calls : List LogCall) (p : Placed) (d : DeltaContent) (known : ℕ × State) → BringsDelta p.1 d
    → ((reader : ℕ × State) → HasSeen reader calls → IsBelow (known_from d) reader → IsBelow known reader)
    → IsCovered (calls ++ Wrote p ∷ []) known
