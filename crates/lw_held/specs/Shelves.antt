-- Lists of shelves and of passes, and what is known of a call behind a lock.
use Rattle.std.specs.Prelude.{◌≡◌, ℕ, ◌+◌, ◌<◌, List, [], length, Some, slice_get}
use Rattle.lw_call.specs.declared.call.Call.{Call}
use Rattle.lw_held.specs.declared.entry.Entry.{Entry}
use Rattle.lw_held.specs.declared.shelf.Shelf.{Shelf}
use Rattle.lw_held.specs.declared.shelf.Unsettled.{Unsettled}
use Rattle.lw_held.specs.Agree.{Fails, IsSettledWith}
use Rattle.lw_held.specs.History.{HeldContent, VolumeContent, IsLegal, Enters, Cuts}
use Rattle.lw_held.specs.Transcript.{Transcript, with_part}

-- the shelves are numbered from 1, in order
abbrev pub AreInOrder : List Shelf → Type 0
AreInOrder shelves = (i : ℕ) (shelf : Shelf) → slice_get shelves i ≡ Some shelf → shelf.number ≡ i + 1

-- the passes are numbered from 0, in order, and no call was made with them
abbrev pub AreNew : List Transcript → Type 0
AreNew passes = (i : ℕ) (pass : Transcript) → slice_get passes i ≡ Some pass → pass ≡ record { number = i; parts = [] }

-- the call is made of some node with a legal history, which may have any number
abbrev pub IsAnswered : ℕ → ℕ → Call → Entry → ℕ → Type 0
IsAnswered pass number call entry place = (old : HeldContent) × (new : HeldContent) × IsLegal old × Enters old pass number call entry place new

-- the pass has one part more: the answer at the place that is given, of the node of the number
abbrev pub GivesPart : Transcript → Transcript → ℕ → Call → ℕ → Type 0
GivesPart old new node call place =
    (entry : Entry) × IsAnswered old.number (length old.parts) call entry place × (new ≡ with_part old node place entry)

-- the volume is what was cut off the journal of some node with a legal history, which may have any number
abbrev pub IsCutOff : VolumeContent → Type 0
IsCutOff volume = (old : HeldContent) × (new : HeldContent) × IsLegal old × Cuts old volume new

-- each volume's node is that of a shelf
abbrev pub HaveShelves : List Shelf → List VolumeContent → Type 0
HaveShelves shelves volumes = (i : ℕ) (volume : VolumeContent) → slice_get volumes i ≡ Some volume → (k : ℕ) × (shelf : Shelf) × (slice_get shelves k ≡ Some shelf) × (shelf.number ≡ volume.opening.number)

-- the passes' parts are legal histories of the nodes of the shelves, which have the volumes
abbrev pub AreSettled : List Shelf → List VolumeContent → List Transcript → Type 0
AreSettled shelves volumes passes = (i : ℕ) (shelf : Shelf) → slice_get shelves i ≡ Some shelf → IsSettledWith shelf.number volumes passes

-- Some node with a legal history, taken for that of the number, fails at the place beside the volumes. A node of another
-- number fails at place 0, whatever the passes are: so at place 0 this says nothing of the journal.
abbrev pub FailsAt : ℕ → List VolumeContent → List Transcript → ℕ → Type 0
FailsAt node volumes passes place = (held : HeldContent) × IsLegal held × Fails node volumes held passes place

-- The node that is named is that of a shelf, and some node with a legal history, taken for it, fails at the place, which
-- says nothing of the journal where the place is 0. The passes' parts are legal histories of the nodes of all shelves
-- before it, which have the volumes.
pub record IsUnsettled (shelves : List Shelf) (volumes : List VolumeContent) (passes : List Transcript) (unsettled : Unsettled) : Type 0 where
  pub i : ℕ
  pub shelf : Shelf
  pub is : slice_get shelves i ≡ Some shelf
  pub node_is : unsettled.node ≡ shelf.number
  pub before : (j : ℕ) (earlier : Shelf) → j < i → slice_get shelves j ≡ Some earlier → IsSettledWith earlier.number volumes passes
  pub fails : FailsAt unsettled.node volumes passes unsettled.place
