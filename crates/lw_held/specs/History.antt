-- Histories of a node, what stands behind a lock, a node with its journal, and what is cut off a journal.
use Rattle.std.specs.Prelude.{◌≡◌, ◌≢◌, ℕ, ◌+◌, List, [], ◌∷◌, ◌++◌, length}
use Rattle.lw_call.specs.declared.call.Call.{Call}
use Rattle.lw_node.specs.Node.{NodeContent, fresh}
use Rattle.lw_node.specs.Steps.{IsStep}
use Rattle.lw_held.specs.declared.entry.Entry.{Entry}

-- The entries are a legal history from one node to another: each reply is that of the node which the entries before left.
abbrev pub Leads : NodeContent → List Entry → NodeContent → Type 0
Leads old [] new = new ≡ old
Leads old (entry ∷ entries) new = (mid : NodeContent) × IsStep old entry.call entry.reply mid × Leads mid entries new

-- a node, the node before the first entry that is kept, the place of that entry, and the entries of all calls that were
-- made since
pub record HeldContent : Type 0 where
  pub node : NodeContent
  pub opening : NodeContent
  pub first : ℕ
  pub journal : List Entry

-- what begins at the place 0 has a new node as its opening
abbrev pub IsBegun : ℕ → NodeContent → Type 0
IsBegun first opening = first ≡ 0 → opening ≡ fresh opening.number

-- the journal is a legal history from the opening, and the node is where it leads; the first opening is a new node
abbrev pub IsLegal : HeldContent → Type 0
IsLegal held = Leads held.opening held.journal held.node × IsBegun held.first held.opening

-- entries that were cut off: the place of the first, the node before it, and the node after the last
pub record VolumeContent : Type 0 where
  pub first : ℕ
  pub opening : NodeContent
  pub entries : List Entry
  pub closing : NodeContent

-- there are entries, and they are a legal history from the opening to the closing; the first opening is a new node
abbrev pub IsVolume : VolumeContent → Type 0
IsVolume volume = (volume.entries ≢ []) × Leads volume.opening volume.entries volume.closing × IsBegun volume.first volume.opening

-- The journal is cut off: it stands in the volume, the opening is the node as it stands, and places go on.
pub record Cuts (old : HeldContent) (volume : VolumeContent) (new : HeldContent) : Type 0 where
  pub volume_is : volume ≡ record { first = old.first; opening = old.opening; entries = old.journal; closing = old.node }
  pub new_is : new ≡ record { node = old.node; opening = old.node; first = old.first + length old.journal; journal = [] }

-- A call is made: the journal is longer by the entry with this pass, number and call, and with the reply that the node
-- gives; its place is the first place and the length of the journal before.
pub record Enters (old : HeldContent) (pass number : ℕ) (call : Call) (entry : Entry) (place : ℕ) (new : HeldContent) : Type 0 where
  pub place_is : place ≡ old.first + length old.journal
  pub journal_is : new.journal ≡ old.journal ++ entry ∷ []
  pub pass_is : entry.pass ≡ pass
  pub number_is : entry.number ≡ number
  pub call_is : entry.call ≡ call
  pub step : IsStep old.node call entry.reply new.node
  pub opening_is : new.opening ≡ old.opening
  pub first_is : new.first ≡ old.first
