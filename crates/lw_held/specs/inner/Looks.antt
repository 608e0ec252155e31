-- What is known of the places after some parts of a transcript were looked at.
use Rattle.std.specs.Prelude.{◌≡◌, ◌⊎◌, ℕ, ◌<◌, ◌≤◌, List, length, Option, Some, None, slice_get, min, max}
use Rattle.lw_held.specs.declared.entry.Entry.{Entry}
use Rattle.lw_held.specs.declared.entry.Part.{Part}
use Rattle.lw_held.specs.declared.agreeing.Look.{Look}
use Rattle.lw_held.specs.Agree.{IsOf, IsInOrder, IsFirstBreak, IsEntryAt, IsPiece, IsVolumeOf, Covers, IsLaid, end_of}
use Rattle.lw_held.specs.History.{HeldContent, VolumeContent}
use Rattle.lw_held.specs.Transcript.{Transcript}

-- a piece of the node's entries has that of the part at its place
abbrev pub IsThere : ℕ → List VolumeContent → HeldContent → Part → Type 0
IsThere node volumes held part = (w : Option ℕ) × (piece : VolumeContent) × IsPiece node volumes held w piece × IsEntryAt piece.first piece.entries part.place part.entry

-- volume i is of the node, and has the entry of the part at its place
abbrev pub HasPart : ℕ → List VolumeContent → Part → ℕ → Type 0
HasPart node volumes part i = (volume : VolumeContent) × IsVolumeOf node volumes i volume × IsEntryAt volume.first volume.entries part.place part.entry

-- part k is in a piece, and after the parts before it
abbrev pub Fits : ℕ → List VolumeContent → HeldContent → List Part → ℕ → Part → Type 0
Fits node volumes held parts k part = IsThere node volumes held part × IsInOrder node parts k part.place

-- of the first n parts, those for the node and place fit
abbrev pub FitBelow : ℕ → List VolumeContent → HeldContent → List Part → ℕ → ℕ → Type 0
FitBelow node volumes held parts n place = (k : ℕ) (part : Part) → k < n → slice_get parts k ≡ Some part → IsOf node place part → Fits node volumes held parts k part

-- the place is above the greatest one so far
abbrev pub IsAfter : Option ℕ → ℕ → Type 0
IsAfter None place = Unit {0}
IsAfter (Some before) place = before < place

-- the greatest place of the first n parts for the node
abbrev pub IsLast : ℕ → List Part → ℕ → Option ℕ → Type 0
IsLast node parts n None = (j : ℕ) (part : Part) → j < n → slice_get parts j ≡ Some part → part.node ≡ node → ⊥
IsLast node parts n (Some place) =
    ((j : ℕ) × (part : Part) × (j < n) × (slice_get parts j ≡ Some part) × IsOf node place part)
    × ((j : ℕ) (part : Part) → j < n → slice_get parts j ≡ Some part → part.node ≡ node → part.place ≤ place)

-- the lesser of two places, of which either may be none
abbrev pub lesser_of : Option ℕ → Option ℕ → Option ℕ
lesser_of None place = place
lesser_of (Some p) None = Some p
lesser_of (Some p) (Some q) = Some (min p q)

-- the greater of two places, of which the first may be none
abbrev pub greater_of : Option ℕ → ℕ → Option ℕ
greater_of None place = Some place
greater_of (Some before) place = Some (max before place)

-- the least place at which one of the first n parts does not fit, and the greatest place of them
pub record Knows (node : ℕ) (volumes : List VolumeContent) (held : HeldContent) (parts : List Part) (n : ℕ) (look : Look) : Type 0 where
  pub least : IsFirstBreak (FitBelow node volumes held parts n) look.least
  pub last : IsLast node parts n look.last

-- what one more part adds: nothing where it is for another node; else its place, also as one that fails where it does
-- not fit
abbrev pub Looks : ℕ → List VolumeContent → HeldContent → Part → Look → Look → Type 0
Looks node volumes held part old new =
    ((¬ (part.node ≡ node)) × (new ≡ old))
    ⊎ (((part.node ≡ node) × IsThere node volumes held part × IsAfter old.last part.place × (new ≡ record { least = old.least; last = greater_of old.last part.place }))
    ⊎ ((part.node ≡ node) × (¬ (IsThere node volumes held part × IsAfter old.last part.place)) × (new ≡ record { least = lesser_of old.least (Some part.place); last = greater_of old.last part.place })))

-- the entry is of the pass, and the part of its number is for that node and place
abbrev pub Has : ℕ → ℕ → Entry → Transcript → Type 0
Has node place entry pass = (pass.number ≡ entry.pass) × (part : Part) × (slice_get pass.parts entry.number ≡ Some part) × IsOf node place part

-- one of the first n transcripts has it
abbrev pub HasBelow : ℕ → ℕ → Entry → List Transcript → ℕ → Type 0
HasBelow node place entry passes n = (i : ℕ) × (pass : Transcript) × (i < n) × (slice_get passes i ≡ Some pass) × Has node place entry pass

-- the pass of the entry for the place has a part for it
abbrev pub IsTold : ℕ → ℕ → List Entry → List Transcript → ℕ → Type 0
IsTold node first entries passes place = (entry : Entry) → IsEntryAt first entries place entry → HasBelow node place entry passes (length passes)

-- the journal, or one of the first n volumes, if it is of the node
abbrev pub IsPieceBelow : ℕ → List VolumeContent → HeldContent → ℕ → Option ℕ → VolumeContent → Type 0
IsPieceBelow node volumes held n None piece = IsPiece node volumes held None piece
IsPieceBelow node volumes held n (Some i) piece = (i < n) × IsVolumeOf node volumes i piece

-- so it is in each of these pieces
abbrev pub AllToldBelow : ℕ → List VolumeContent → HeldContent → List Transcript → ℕ → ℕ → Type 0
AllToldBelow node volumes held passes n place = (w : Option ℕ) (piece : VolumeContent) → IsPieceBelow node volumes held n w piece → IsTold node piece.first piece.entries passes place

-- the parts of the first n passes for the node and place fit
abbrev pub AllFitBelow : ℕ → List VolumeContent → HeldContent → List Transcript → ℕ → ℕ → Type 0
AllFitBelow node volumes held passes n place = (i : ℕ) (pass : Transcript) → i < n → slice_get passes i ≡ Some pass → FitBelow node volumes held pass.parts (length pass.parts) place

-- ---- how the pieces are laid
-- the first volume of the node that has the place, of those from number `start` on; where none is found, none has it
abbrev pub IsFirstFrom : ℕ → List VolumeContent → ℕ → ℕ → Option ℕ → Type 0
IsFirstFrom node volumes place start None = (j : ℕ) (volume : VolumeContent) → start ≤ j → IsVolumeOf node volumes j volume → Covers volume place → ⊥
IsFirstFrom node volumes place start (Some i) =
    (start ≤ i) × ((volume : VolumeContent) × IsVolumeOf node volumes i volume × Covers volume place)
    × ((j : ℕ) (volume : VolumeContent) → start ≤ j → j < i → IsVolumeOf node volumes j volume → Covers volume place → ⊥)

-- the volume is of the node, and begins or ends there
abbrev pub IsEndOf : ℕ → VolumeContent → ℕ → Type 0
IsEndOf node volume place = (volume.opening.number ≡ node) × ((place ≡ volume.first) ⊎ (place ≡ end_of volume))

-- Of the places that are not laid the least is one of these: 0, the journal's first, and where one of the first n
-- volumes of the node begins or ends.
abbrev pub IsTurn : ℕ → List VolumeContent → HeldContent → ℕ → ℕ → Type 0
IsTurn node volumes held n place =
    (place ≡ 0) ⊎ ((place ≡ held.first)
    ⊎ ((i : ℕ) × (volume : VolumeContent) × (i < n) × (slice_get volumes i ≡ Some volume) × IsEndOf node volume place))

-- it is laid, if it is such a place
abbrev pub TurnIsLaid : ℕ → List VolumeContent → HeldContent → ℕ → ℕ → Type 0
TurnIsLaid node volumes held n place = IsTurn node volumes held n place → IsLaid node volumes held place
