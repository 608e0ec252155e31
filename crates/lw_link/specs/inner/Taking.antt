-- What a part of a list takes of the characters that are left: what the characters before it hold is what
-- the part says, before what the characters behind it hold.
use Rattle.std.specs.Prelude.{◌≡◌, ◌≢◌, ℕ, true, List, [], ◌∷◌, ◌++◌}
use Rattle.lw_link.specs.declared.style.Style.TheVariants.{Any}
use Rattle.lw_link.specs.declared.state.State.{State}
use Rattle.lw_link.specs.declared.state.State.TheVariants.{Start, Target, Closed, Comma, Semicolon, Name, Equals, Word, Quotation, Backslash, Stop}
use Rattle.lw_link.specs.declared.link.Attr.{Attr}
use Rattle.lw_link.specs.declared.link.AttrValue.{AttrValue}
use Rattle.lw_link.specs.declared.link.AttrValue.TheVariants.{Absent}
use Rattle.lw_link.specs.Link.{LinkContent}
use Rattle.lw_link.specs.inner.Machine.{Rest, read_on, next_state}

-- a state that lasts for the characters of one text
abbrev pub HoldsText : State → Type 0
HoldsText Target = Unit {0}
HoldsText Name = Unit {0}
HoldsText Word = Unit {0}
HoldsText Start = ⊥
HoldsText Closed = ⊥
HoldsText Comma = ⊥
HoldsText Semicolon = ⊥
HoldsText Equals = ⊥
HoldsText Quotation = ⊥
HoldsText Backslash = ⊥
HoldsText Stop = ⊥

-- the next character is none of the state's
abbrev pub IsLeft : State → List ℕ → Type 0
IsLeft state [] = Unit {0}
IsLeft state (c ∷ cs) = next_state Any state c ≢ state

-- the next character is no `;`
abbrev pub IsPastAttrs : List ℕ → Type 0
IsPastAttrs [] = Unit {0}
IsPastAttrs (c ∷ cs) = c ≢ 59

-- the next character is no space
abbrev pub IsPastSpaces : List ℕ → Type 0
IsPastSpaces [] = Unit {0}
IsPastSpaces (c ∷ cs) = c ≢ 32

-- more text before what has begun
abbrev pub with_text : List ℕ → Rest → Rest
with_text text r = record { whole = r.whole; text = text ++ r.text; value = r.value; attrs = r.attrs; links = r.links }

-- a text that has ended
abbrev pub ended_text : List ℕ → Rest → Rest
ended_text text r = record { whole = r.whole; text = text; value = Absent; attrs = r.attrs; links = r.links }

abbrev pub with_whole_attr : Attr → Rest → Rest
with_whole_attr attr r = record { whole = r.whole; text = []; value = Absent; attrs = attr ∷ r.attrs; links = r.links }

-- the characters of a text, as far as the state lasts
pub record TakesText (state : State) (text old new : List ℕ) : Type 0 where
  pub same : read_on Any state old ≡ with_text text (read_on Any state new)
  pub left : IsLeft state new

-- a text between quotes, and the last quote
abbrev pub TakesQuoted : List ℕ → List ℕ → List ℕ → Type 0
TakesQuoted text old new = read_on Any Quotation old ≡ ended_text text (read_on Any Closed new)

-- what stands behind a name
pub record TakesValue (value : AttrValue) (old new : List ℕ) : Type 0 where
  pub text : (read_on Any Name old).text ≡ []
  pub value_is : (read_on Any Name old).value ≡ value
  pub whole : (read_on Any Name old).whole ≡ (read_on Any Closed new).whole
  pub attrs : (read_on Any Name old).attrs ≡ (read_on Any Closed new).attrs
  pub links : (read_on Any Name old).links ≡ (read_on Any Closed new).links

-- an attribute, behind `;`
abbrev pub TakesAttr : Attr → List ℕ → List ℕ → Type 0
TakesAttr attr old new = read_on Any Semicolon old ≡ with_whole_attr attr (read_on Any Closed new)

-- all attributes of a link
pub record TakesAttrs (attrs : List Attr) (old new : List ℕ) : Type 0 where
  pub attrs_are : (read_on Any Closed old).attrs ≡ attrs
  pub links : (read_on Any Closed old).links ≡ (read_on Any Closed new).links
  pub whole : (read_on Any Closed new).whole ≡ true
  pub past : IsPastAttrs new

-- a link, behind `,`
pub record TakesLink (link : LinkContent) (old new : List ℕ) : Type 0 where
  pub links : (read_on Any Comma old).links ≡ link ∷ (read_on Any Closed new).links
  pub whole : (read_on Any Closed new).whole ≡ true
  pub past : IsPastAttrs new
