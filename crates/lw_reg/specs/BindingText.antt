-- A binding is 1 to 8 letters (LwM2M 1.1 Core, section 6.2.1: the Register parameter `b`).
use Rattle.std.specs.Prelude.{◌≡◌, ℕ, ◌-◌, ◌≤◌, IsTrue, List, ◌++◌, length, replicate, nat_lt}
use Rattle.std.specs.Char.{is_ascii_uppercase}
use Rattle.std.specs.List.{list_all, take_while}

-- one to eight letters A to Z
pub record IsBindingText (text : List ℕ) : Type 0 where
  pub some : 1 ≤ length text
  pub most : length text ≤ 8
  pub letters : IsTrue (list_all is_ascii_uppercase text)

-- the characters before the first zero
abbrev pub text_in : List ℕ → List ℕ
text_in letters = take_while (λ c. nat_lt 0 c) letters

-- a binding's text, and zeros up to eight
pub record IsPadded (letters : List ℕ) : Type 0 where
  pub text : IsBindingText (text_in letters)
  pub zeros : letters ≡ text_in letters ++ replicate (8 - length (text_in letters)) 0
