-- Characters of one byte that leave a state as it is.
use Rattle.std.specs.Prelude.{◌≡◌, ℕ, Bool, false, ◌&&◌, nat_le, List, ◌∷◌, ◌++◌, ◌+◌, length}
use Rattle.lw_link.specs.declared.state.State.{State}
use Rattle.lw_link.specs.declared.state.State.TheVariants.{Start, Target, Closed, Comma, Semicolon, Name, Equals, Word, Quotation, Backslash, Stop}
use Rattle.lw_link.specs.Characters.{is_target_char, is_name_char, is_plain_char, is_quoted_char, Each}

-- the character is of one byte, and leaves the state as it is
abbrev pub keeps : State → ℕ → Bool
keeps Target c = is_target_char c
keeps Name c = is_name_char c
keeps Word c = is_plain_char c
keeps Quotation c = nat_le c 126 && is_quoted_char c
keeps Start c = false
keeps Closed c = false
keeps Comma c = false
keeps Semicolon c = false
keeps Equals c = false
keeps Backslash c = false
keeps Stop c = false

-- so many characters are passed, each of which the state keeps
pub record Passes (state : State) (old new : List ℕ) (count : ℕ) : Type 0 where
  pub run : List ℕ
  pub old_is : old ≡ run ++ new
  pub count_is : count ≡ length run
  pub kept : Each (keeps state) run

-- `,` and a link without attributes stand at the front, with so many characters
pub record HasLink (chars : List ℕ) (count : ℕ) : Type 0 where
  pub target : List ℕ
  pub rest : List ℕ
  pub chars_are : chars ≡ 44 ∷ 60 ∷ (target ++ 62 ∷ rest)
  pub count_is : count ≡ length target + 3
  pub kept : Each (keeps Target) target

-- they are passed, behind the end of a link
pub record PassesLink (state : State) (old new : List ℕ) (count : ℕ) : Type 0 where
  pub state_is : state ≡ Closed
  pub target : List ℕ
  pub old_is : old ≡ 44 ∷ 60 ∷ (target ++ 62 ∷ new)
  pub count_is : count ≡ length target + 3
  pub kept : Each (keeps Target) target
