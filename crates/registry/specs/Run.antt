-- What is printed of a whole input.
use Rattle.std.specs.Prelude.{◌≡◌, ◌==◌, ◌++◌, ℕ, List, [], ◌∷◌, Option, IfSome}
use Rattle.std.specs.Io.KnownBytes.{Appends}
use Rattle.std.specs.List.{slice_split}
use Rattle.registry.specs.declared.registry.Registry.{Registry}
use Rattle.registry.specs.Fleet.{AreFleets}
use Rattle.registry.specs.Steps.{IsNew, TakesLine}

-- the lines between line feeds
abbrev pub lines_of : List ℕ → List (List ℕ)
lines_of input = slice_split (λ byte. byte == 10) input

-- the lines are taken in turn, and this is printed of them
abbrev pub Tells : Registry → List (List ℕ) → List ℕ → Registry → Type 0
Tells old [] text new = (text ≡ []) × (new ≡ old)
Tells old (line ∷ lines) text new =
    (first : List ℕ) × (mid : Registry) × (rest : List ℕ) × TakesLine old line first mid × Tells mid lines rest new × (text ≡ first ++ rest)

-- a line is taken, and what is printed of it is appended
abbrev pub TellsLine : Registry → List ℕ → Registry → Option (List ℕ) → Option (List ℕ) → Type 0
TellsLine old line new before after = (text : List ℕ) × TakesLine old line text new × Appends before after text

-- the lines are taken in turn, and what is printed of them is appended
abbrev pub TellsAll : Registry → List (List ℕ) → Registry → Option (List ℕ) → Option (List ℕ) → Type 0
TellsAll old lines new before after = (text : List ℕ) × Tells old lines text new × Appends before after text

-- the text is what the lines of the input come to at two new nodes, and the fleet after the last
pub record IsPrinted (input text : List ℕ) : Type 0 where
  pub first : Registry
  pub last : Registry
  pub told : List ℕ
  pub fleets : List ℕ
  pub is_new : IsNew first
  pub tells : Tells first (lines_of input) told last
  pub are_fleets : AreFleets last fleets
  pub text_is : text ≡ told ++ fleets

-- it is appended
abbrev pub Prints : Option (List ℕ) → Option (List ℕ) → Option (List ℕ) → Type 0
Prints input before after = IfSome input (λ bytes. (text : List ℕ) × IsPrinted bytes text × Appends before after text)
