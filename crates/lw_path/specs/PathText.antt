-- The text of a path (LwM2M 1.1 Core, section 7.1), with numbers in decimal.
use Rattle.std.specs.Prelude.{◌≡◌, ◌<◌, ◌==◌, ℕ, Bool, List, [], ◌∷◌, length}
use Rattle.std.specs.Fmt.{decimal}
use Rattle.std.specs.List.{position_or_len, before_first, after_first}
use Rattle.lw_reg.specs.declared.path.Path.{Path}
use Rattle.lw_reg.specs.Path.{path_numbers}

-- the number is below the limit, and the text is how it is printed
pub record IsNumber (limit n : ℕ) (text : List ℕ) : Type 0 where
  pub fits : n < limit
  pub printed : text ≡ decimal n

-- a number of a path
abbrev pub IsStep : ℕ → List ℕ → Type 0
IsStep n text = IsNumber 65535 n text

abbrev pub is_slash : ℕ → Bool
is_slash byte = byte == 47

-- the text has a slash
abbrev pub HasSlash : List ℕ → Type 0
HasSlash text = position_or_len is_slash text < length text

-- numbers with a slash between each two
abbrev pub IsSteps : List ℕ → List ℕ → Type 0
IsSteps [] text = ⊥
IsSteps (n ∷ []) text = IsStep n text
IsSteps (n ∷ m ∷ ms) text = HasSlash text × IsStep n (before_first is_slash text) × IsSteps (m ∷ ms) (after_first is_slash text)

-- `/` and a number, once for each number of the path
pub record IsPath (path : Path) (text : List ℕ) : Type 0 where
  pub rest : List ℕ
  pub slash : text ≡ 47 ∷ rest
  pub steps : IsSteps (path_numbers path) rest
