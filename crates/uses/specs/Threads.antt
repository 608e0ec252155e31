-- What calls from threads come to.
use Rattle.std.specs.Prelude.{◌≡◌, ◌⊎◌, ℕ, List, [], ◌∷◌, Some, slice_get}
use Rattle.lw_call.specs.declared.call.Call.{Call}
use Rattle.lw_held.specs.declared.entry.Entry.{Entry}
use Rattle.lw_held.specs.declared.entry.Part.{Part}
use Rattle.lw_held.specs.declared.shelf.Shelf.{Shelf}
use Rattle.lw_held.specs.Agree.{IsPart}
use Rattle.lw_held.specs.History.{Leads}
use Rattle.lw_held.specs.Transcript.{Transcript, with_part}
use Rattle.lw_node.specs.Node.{NodeContent, fresh}

-- the pass is as it was, or has one part more: this call of the node, with an answer
abbrev pub IsAsked : ℕ → Call → Transcript → Transcript → Type 0
IsAsked node call old new =
    (new ≡ old) ⊎ ((place : ℕ) × (entry : Entry) × (entry.call ≡ call) × (new ≡ with_part old node place entry))

-- so are both
abbrev pub AreAsked : ℕ → Transcript × Call → Transcript × Call → List Transcript → Type 0
AreAsked node one other (first ∷ second ∷ []) = IsAsked node one.1 one.0 first × IsAsked node other.1 other.0 second
AreAsked node one other _ = ⊥

-- there is a legal history of a new node of that number, in which each answer that the passes have stands at its place
pub record Stand (node : ℕ) (passes : List Transcript) : Type 0 where
  pub journal : List Entry
  pub last : NodeContent
  pub legal : Leads (fresh node) journal last
  pub each : (i k : ℕ) (pass : Transcript) (part : Part) → IsPart passes i k pass part → part.node ≡ node → slice_get journal part.place ≡ Some part.entry

-- so it is at each shelf
abbrev pub AllStand : List Shelf → List Transcript → Type 0
AllStand shelves passes = (i : ℕ) (shelf : Shelf) → slice_get shelves i ≡ Some shelf → Stand shelf.number passes
