-- Which characters spell which links (a profile of RFC 6690, section 2): relations by cases, apart from
-- reading and printing. In the style Any they are the whole grammar, and in the style Printed what printing
-- gives: no spaces, and a backslash before `"` and `\` alone. The texts of a link are the UTF-8 of their
-- characters.
use Rattle.std.specs.Prelude.{◌≡◌, ℕ, true, ◌⊎◌, List, [], ◌∷◌, ◌++◌, encode_utf8_all}
use Rattle.lw_link.specs.declared.style.Style.{Style}
use Rattle.lw_link.specs.declared.link.Attr.{Attr}
use Rattle.lw_link.specs.declared.link.AttrValue.{AttrValue}
use Rattle.lw_link.specs.declared.link.AttrValue.TheVariants.{Absent, Plain, Quoted}
use Rattle.lw_link.specs.Link.{LinkContent}
use Rattle.lw_link.specs.Characters.{Each, is_target_char, is_name_char, is_plain_char, is_quoted_char, is_escaped_char, is_space}

-- the characters begin with an item of a quoted value, which stands for c: c itself, or a backslash and c
abbrev pub IsItem : Style → List ℕ → ℕ → List ℕ → Type 0
IsItem style chars c rest =
    ((chars ≡ c ∷ rest) × (is_quoted_char c ≡ true)) ⊎ ((chars ≡ 92 ∷ c ∷ rest) × (is_escaped_char style c ≡ true))

-- the characters are items, one after another, which stand for these
abbrev pub AreItems : Style → List ℕ → List ℕ → Type 0
AreItems style chars [] = chars ≡ []
AreItems style chars (c ∷ items) = (rest : List ℕ) × IsItem style chars c rest × AreItems style rest items

-- the characters behind an attribute's name: nothing; `=` and a plain value, one or more characters; `=`
-- and a quoted value, items between two `"`
abbrev pub IsValue : Style → List ℕ → AttrValue → Type 0
IsValue style chars Absent = chars ≡ []
IsValue style chars (Plain text) =
    (first : ℕ) × (more : List ℕ) × (chars ≡ 61 ∷ first ∷ more) × Each is_plain_char (first ∷ more) × (text ≡ encode_utf8_all (first ∷ more))
IsValue style chars (Quoted text) =
    (front items : List ℕ) × (chars ≡ 61 ∷ 34 ∷ (front ++ 34 ∷ [])) × AreItems style front items × (text ≡ encode_utf8_all items)

-- an attribute: a name of one or more characters, and its value
pub record IsAttr (style : Style) (chars : List ℕ) (attr : Attr) : Type 0 where
  pub first : ℕ
  pub more : List ℕ
  pub rest : List ℕ
  pub chars_are : chars ≡ first ∷ (more ++ rest)
  pub name_chars : Each is_name_char (first ∷ more)
  pub name_is : attr.name ≡ encode_utf8_all (first ∷ more)
  pub value_is : IsValue style rest attr.value

-- attributes, each behind `;` and spaces
abbrev pub AreAttrs : Style → List ℕ → List Attr → Type 0
AreAttrs style chars [] = chars ≡ []
AreAttrs style chars (attr ∷ attrs) =
    (gap front rest : List ℕ) × (chars ≡ 59 ∷ (gap ++ (front ++ rest))) × Each (is_space style) gap × IsAttr style front attr × AreAttrs style rest attrs

-- a link: its target between `<` and `>`, and its attributes
pub record IsLink (style : Style) (chars : List ℕ) (link : LinkContent) : Type 0 where
  pub front : List ℕ
  pub rest : List ℕ
  pub chars_are : chars ≡ 60 ∷ (front ++ 62 ∷ rest)
  pub target_chars : Each is_target_char front
  pub target_is : link.target ≡ encode_utf8_all front
  pub attrs_are : AreAttrs style rest link.attrs

-- further links, each behind `,` and spaces
abbrev pub AreMore : Style → List ℕ → List LinkContent → Type 0
AreMore style chars [] = chars ≡ []
AreMore style chars (link ∷ links) =
    (gap front rest : List ℕ) × (chars ≡ 44 ∷ (gap ++ (front ++ rest))) × Each (is_space style) gap × IsLink style front link × AreMore style rest links

-- a list: a link, and any number of further ones
abbrev pub IsList : Style → List ℕ → List LinkContent → Type 0
IsList style chars [] = ⊥
IsList style chars (link ∷ links) =
    (front rest : List ℕ) × (chars ≡ front ++ rest) × IsLink style front link × AreMore style rest links
