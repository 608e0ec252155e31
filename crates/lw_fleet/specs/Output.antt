-- What is written, and what a writer has taken of it.
use Rattle.std.specs.Prelude.{◌++◌, ℕ, List}
use Rattle.std.specs.Fmt.{decimal}

-- a number between two texts
abbrev pub numbered : List ℕ → ℕ → List ℕ → List ℕ
numbered before number after = before ++ (decimal number ++ after)
