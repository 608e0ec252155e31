-- What settled passes are good for, and that histories which follow one another are one.
use Rattle.std.specs.Prelude.{◌≡◌, ℕ, ◌<◌, List, ◌++◌}
use Rattle.lw_node.specs.Node.{NodeContent}
use Rattle.lw_held.specs.declared.entry.Entry.{Entry}
use Rattle.lw_held.specs.declared.entry.Part.{Part}
use Rattle.lw_held.specs.Agree.{IsPart, IsSettled}
use Rattle.lw_held.specs.History.{Leads}
use Rattle.lw_held.specs.Transcript.{Transcript}

-- in settled passes, a pass's calls of a node stand in the node's history in the pass's own order
abbrev pub OwnOrder : Type 0
OwnOrder =
    (node : ℕ) (passes : List Transcript) → IsSettled node passes
    → (i j k : ℕ) (pass : Transcript) (earlier later : Part) → j < k → IsPart passes i j pass earlier → IsPart passes i k pass later → earlier.node ≡ node → later.node ≡ node
    → earlier.place < later.place

-- a history that begins where another ends goes on with it
abbrev pub HistoriesFollow : Type 0
HistoriesFollow = (first mid last : NodeContent) (earlier later : List Entry) → Leads first earlier mid → Leads mid later last → Leads first (earlier ++ later) last
