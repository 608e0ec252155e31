-- Parts of a field of a line.
use Rattle.std.specs.Prelude.{◌≡◌, ℕ, List}

-- all that is left of a line
abbrev pub IsRest : List ℕ → List ℕ → Type 0
IsRest rest text = text ≡ rest
