-- When the transcripts of passes are a journal, and the volumes that were cut off it.
use Rattle.std.specs.Prelude.{◌≡◌, ℕ, ◌+◌, ◌<◌, ◌≤◌, List, ◌++◌, length, Option, Some, None, slice_get, ◌⊎◌}
use Rattle.lw_node.specs.Node.{NodeContent, fresh}
use Rattle.lw_held.specs.declared.entry.Entry.{Entry}
use Rattle.lw_held.specs.declared.entry.Part.{Part}
use Rattle.lw_held.specs.History.{HeldContent, VolumeContent, Leads}
use Rattle.lw_held.specs.Transcript.{Transcript}

-- no two passes have one number
abbrev pub AreDistinct : List Transcript → Type 0
AreDistinct passes = (i j : ℕ) (one other : Transcript) → slice_get passes i ≡ Some one → slice_get passes j ≡ Some other → one.number ≡ other.number → i ≡ j

-- part k of the pass at place i
pub record IsPart (passes : List Transcript) (i k : ℕ) (pass : Transcript) (part : Part) : Type 0 where
  pub pass_is : slice_get passes i ≡ Some pass
  pub part_is : slice_get pass.parts k ≡ Some part

-- the part is for that node and place
abbrev pub IsOf : ℕ → ℕ → Part → Type 0
IsOf node place part = (part.node ≡ node) × (part.place ≡ place)

-- all parts for the node before part k have lesser places
abbrev pub IsInOrder : ℕ → List Part → ℕ → ℕ → Type 0
IsInOrder node parts k place = (j : ℕ) (part : Part) → j < k → slice_get parts j ≡ Some part → part.node ≡ node → part.place < place

-- The entry's pass holds it as a part for that node and place: it has the part, and its earlier parts for the node
-- have lesser places.
pub record IsHeld (node : ℕ) (passes : List Transcript) (place : ℕ) (entry : Entry) : Type 0 where
  pub i : ℕ
  pub k : ℕ
  pub pass : Transcript
  pub part : Part
  pub is : IsPart passes i k pass part
  pub of : IsOf node place part
  pub same : part.entry ≡ entry
  pub own : pass.number ≡ entry.pass
  pub order : IsInOrder node pass.parts k place

-- ---- one list of entries
-- The journal's entry at the place is one that its pass holds there, and no transcript has a further part for that node
-- and place, past the journal's end too.
pub record IsFine (node : ℕ) (journal : List Entry) (passes : List Transcript) (place : ℕ) : Type 0 where
  pub held : (entry : Entry) → slice_get journal place ≡ Some entry → IsHeld node passes place entry
  pub alone : (i k j l : ℕ) (one other : Transcript) (part further : Part) → IsPart passes i k one part → IsOf node place part → IsPart passes j l other further → IsOf node place further → (i ≡ j) × (k ≡ l)
  pub within : (i k : ℕ) (pass : Transcript) (part : Part) → IsPart passes i k pass part → IsOf node place part → place < length journal

-- P holds of all numbers, or of each below the first of which it does not
abbrev pub IsFirstBreak : (ℕ → Type 0) → Option ℕ → Type 0
IsFirstBreak P None = (p : ℕ) → P p
IsFirstBreak P (Some p) = (¬ P p) × ((q : ℕ) → q < p → P q)

-- The passes' parts for the node have the places from 0 on, each once and in the order of their pass, and put by place
-- their entries are a legal history of the node.
pub record IsSettled (node : ℕ) (passes : List Transcript) : Type 0 where
  pub journal : List Entry
  pub last : NodeContent
  pub legal : Leads (fresh node) journal last
  pub fine : (place : ℕ) → IsFine node journal passes place

-- ---- a journal and its volumes
-- the place after the last entry
abbrev pub end_of : VolumeContent → ℕ
end_of piece = piece.first + length piece.entries

-- the piece has an entry for the place
abbrev pub Covers : VolumeContent → ℕ → Type 0
Covers piece place = (piece.first ≤ place) × (place < end_of piece)

-- this is the entry for the place, where the first of the entries is for that place
abbrev pub IsEntryAt : ℕ → List Entry → ℕ → Entry → Type 0
IsEntryAt first entries place entry = (k : ℕ) × (place ≡ first + k) × (slice_get entries k ≡ Some entry)

-- the journal as a piece of the node's entries, whose closing is the node
abbrev pub journal_of : HeldContent → VolumeContent
journal_of held = record { first = held.first; opening = held.opening; entries = held.journal; closing = held.node }

-- the volume at place i is one of the node
abbrev pub IsVolumeOf : ℕ → List VolumeContent → ℕ → VolumeContent → Type 0
IsVolumeOf node volumes i volume = (slice_get volumes i ≡ Some volume) × (volume.opening.number ≡ node)

-- The history has the volume: some entries before it lead from a new node to its opening, its entries are next, from its
-- first place on, and some entries behind lead on from its closing.
pub record HasVolume (node : ℕ) (journal : List Entry) (last : NodeContent) (volume : VolumeContent) : Type 0 where
  pub before : List Entry
  pub behind : List Entry
  pub journal_is : journal ≡ before ++ volume.entries ++ behind
  pub first_is : volume.first ≡ length before
  pub opens : Leads (fresh node) before volume.opening
  pub leads : Leads volume.opening volume.entries volume.closing
  pub closes : Leads volume.closing behind last

-- The passes are settled, and the history has each volume of the node.
pub record IsSettledWith (node : ℕ) (volumes : List VolumeContent) (passes : List Transcript) : Type 0 where
  pub settled : IsSettled node passes
  pub has : (i : ℕ) (volume : VolumeContent) → IsVolumeOf node volumes i volume → HasVolume node settled.journal settled.last volume

-- the pieces of the node's entries: its journal, and the volumes that are of the node
abbrev pub IsPiece : ℕ → List VolumeContent → HeldContent → Option ℕ → VolumeContent → Type 0
IsPiece node volumes held None piece = piece ≡ journal_of held
IsPiece node volumes held (Some i) piece = IsVolumeOf node volumes i piece

-- what begins at the place 0 has a new node as its opening, and what begins where a volume ends has the closing of that
pub record IsLinked (node : ℕ) (volumes : List VolumeContent) (first : ℕ) (opening : NodeContent) : Type 0 where
  pub begins : first ≡ 0 → opening ≡ fresh node
  pub goes_on : (i : ℕ) (before : VolumeContent) → IsVolumeOf node volumes i before → end_of before ≡ first → opening ≡ before.closing

-- below the journal's first place one volume of the node has an entry for the place, and from there on none has
pub record IsCoveredOnce (node : ℕ) (volumes : List VolumeContent) (first place : ℕ) : Type 0 where
  pub single : (i j : ℕ) (one other : VolumeContent) → IsVolumeOf node volumes i one → IsVolumeOf node volumes j other → Covers one place → Covers other place → i ≡ j
  pub behind : (i : ℕ) (volume : VolumeContent) → IsVolumeOf node volumes i volume → Covers volume place → place < first
  pub whole : place < first → (i : ℕ) × (volume : VolumeContent) × IsVolumeOf node volumes i volume × Covers volume place

-- what begins at the place is linked to what is before it
abbrev pub AreLinked : ℕ → List VolumeContent → HeldContent → ℕ → Type 0
AreLinked node volumes held place = (w : Option ℕ) (piece : VolumeContent) → IsPiece node volumes held w piece → piece.first ≡ place → IsLinked node volumes piece.first piece.opening

-- at the place the pieces are laid end to end
abbrev pub IsLaid : ℕ → List VolumeContent → HeldContent → ℕ → Type 0
IsLaid node volumes held place = IsCoveredOnce node volumes held.first place × AreLinked node volumes held place

-- Each entry for the place, of the journal or of a volume of the node, is one that its pass holds there; no transcript has
-- a further part for that node and place, and none where there is no entry; and the pieces are laid end to end.
pub record IsFineIn (node : ℕ) (volumes : List VolumeContent) (held : HeldContent) (passes : List Transcript) (place : ℕ) : Type 0 where
  pub told : (w : Option ℕ) (piece : VolumeContent) (entry : Entry) → IsPiece node volumes held w piece → IsEntryAt piece.first piece.entries place entry → IsHeld node passes place entry
  pub alone : (i k j l : ℕ) (one other : Transcript) (part further : Part) → IsPart passes i k one part → IsOf node place part → IsPart passes j l other further → IsOf node place further → (i ≡ j) × (k ≡ l)
  pub within : (i k : ℕ) (pass : Transcript) (part : Part) → IsPart passes i k pass part → IsOf node place part → (w : Option ℕ) × (piece : VolumeContent) × IsPiece node volumes held w piece × Covers piece place
  pub laid : IsLaid node volumes held place

-- the held node is of the number, and each place is fine
abbrev pub Agrees : ℕ → List VolumeContent → HeldContent → List Transcript → Type 0
Agrees node volumes held passes = (held.node.number ≡ node) × ((place : ℕ) → IsFineIn node volumes held passes place)

-- the held node is of another number, and the place 0; or the place is the least that is not fine
abbrev pub Fails : ℕ → List VolumeContent → HeldContent → List Transcript → ℕ → Type 0
Fails node volumes held passes place =
    ((¬ (held.node.number ≡ node)) × (place ≡ 0))
    ⊎ ((held.node.number ≡ node) × IsFirstBreak (IsFineIn node volumes held passes) (Some place))
