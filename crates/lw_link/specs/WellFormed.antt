-- Which links the grammar allows (a profile of RFC 6690, section 2).
use Rattle.std.specs.Prelude.{◌≡◌, ℕ, ◌≤◌, Bool, List, length, IsUtf8, chars}
use Rattle.std.specs.List.{AllByRecursion}
use Rattle.lw_link.specs.declared.link.Attr.{Attr}
use Rattle.lw_link.specs.declared.link.AttrValue.{AttrValue}
use Rattle.lw_link.specs.declared.link.AttrValue.TheVariants.{Absent, Plain, Quoted}
use Rattle.lw_link.specs.Link.{LinkContent}
use Rattle.lw_link.specs.Characters.{Each, is_target_char, is_name_char, is_plain_char, is_shown}
use Rattle.lw_link.specs.Printing.{printing}

-- the bytes are a text, and each of its characters passes the test
abbrev pub IsTextOf : (ℕ → Bool) → List ℕ → Type 0
IsTextOf test text = IsUtf8 text × Each test (chars text)

-- a plain value has a character; a quoted one has any characters that are shown
abbrev pub IsGoodValue : AttrValue → Type 0
IsGoodValue Absent = Unit {0}
IsGoodValue (Plain text) = IsTextOf is_plain_char text × (1 ≤ length text)
IsGoodValue (Quoted text) = IsTextOf is_shown text

-- a name has a character
abbrev pub IsGoodAttr : Attr → Type 0
IsGoodAttr attr = (IsTextOf is_name_char attr.name × (1 ≤ length attr.name)) × IsGoodValue attr.value

abbrev pub IsGoodLink : LinkContent → Type 0
IsGoodLink link = IsTextOf is_target_char link.target × AllByRecursion IsGoodAttr link.attrs

-- 1 to 256 links that the grammar allows
pub record AreWellFormed (links : List LinkContent) : Type 0 where
  pub some : 1 ≤ length links
  pub within : length links ≤ 256
  pub each : AllByRecursion IsGoodLink links

-- the bytes are the printing of 1 to 256 links that the grammar allows
abbrev pub IsPrinting : List ℕ → Type 0
IsPrinting bytes = (links : List LinkContent) × AreWellFormed links × (bytes ≡ printing links)
