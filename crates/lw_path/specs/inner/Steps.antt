-- Parts of the text of a path.
use Rattle.std.specs.Prelude.{ℕ, List}
use Rattle.std.specs.List.{before_first, after_first}
use Rattle.lw_path.specs.PathText.{is_slash, HasSlash}

-- a number stands before the first slash, and the others behind it
pub record IsSlashed {A B : Type 0} (P : A → List ℕ → Type 0) (Q : B → List ℕ → Type 0) (first : A) (others : B)
    (text : List ℕ) : Type 0 where
  pub parted : HasSlash text
  pub first_is : P first (before_first is_slash text)
  pub others_are : Q others (after_first is_slash text)
