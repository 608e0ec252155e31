-- Words of a line, written one after another.
use Rattle.std.specs.Prelude.{◌≡◌, ℕ, List, ◌++◌, length, take, OnOk, Result}

-- the bytes are added, on a refusal perhaps only the first of them
pub record Puts {E : Type 0} (r : Result (Unit {0}) E) (old new bytes : List ℕ) : Type 0 where
  pub ok : OnOk r (new ≡ old ++ bytes)
  pub kept : take (length old) new ≡ old
