-- Which bytes are a delta, and what is first wrong in those that are none.
use Rattle.std.specs.Prelude.{◌≡◌, ℕ, ◌⊎◌, List, [], ◌∷◌}
use Rattle.lw_reg.specs.declared.slot.Slot.{Slot}
use Rattle.lw_delta.specs.declared.fault.DeltaFault.{DeltaFault}
use Rattle.lw_delta.specs.declared.fault.DeltaFault.TheVariants.{Trailing}
use Rattle.lw_delta.specs.declared.form.Form.{Form}
use Rattle.lw_delta.specs.Form.{magic_of}
use Rattle.lw_delta.specs.Part.{Found, Fails}
use Rattle.lw_delta.specs.Format.{delta}
use Rattle.lw_delta.specs.Writing.{Begins}

-- the sender's clock, and slots by endpoint
pub record DeltaContent : Type 0 where
  pub clock : ℕ
  pub slots : List (List ℕ × Slot)

-- the bytes are a delta, and nothing stands behind it
abbrev pub IsSpelling : List ℕ → DeltaContent → Type 0
IsSpelling bytes d = Found delta bytes (d.clock, d.slots) []

-- the bytes are a delta of this format
abbrev pub IsSpellingIn : Form → List ℕ → DeltaContent → Type 0
IsSpellingIn form bytes d = Begins (magic_of form) bytes × IsSpelling bytes d

-- a whole delta, and a byte behind it
abbrev pub HasTrailing : List ℕ → Type 0
HasTrailing bytes = (d : ℕ × List (List ℕ × Slot)) × (b : ℕ) × (rest : List ℕ) × Found delta bytes d (b ∷ rest)

-- the first fault of bytes that are no delta; want of memory is none
abbrev pub IsFault : List ℕ → DeltaFault → Type 0
IsFault bytes fault = Fails delta bytes fault ⊎ ((fault ≡ Trailing) × HasTrailing bytes)
