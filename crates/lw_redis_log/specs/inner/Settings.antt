-- A text that begins with a part.
use Rattle.std.specs.Prelude.{◌≡◌, ℕ, List, ◌++◌}

abbrev pub BeginsWith : List ℕ → List ℕ → Type 0
BeginsWith part text = (after : List ℕ) × (text ≡ part ++ after)
