-- Percent-encoding (RFC 3986, section 2.1): `%` and two hex digits of either case stand for a byte.
use Rattle.std.specs.Prelude.{◌≡◌, ◌≤◌, ◌+◌, ℕ, List, length, slice_index}
use Rattle.std.specs.Char.{IsAsciiHexdigit}
use Rattle.std.specs.Str.{IsUtf8}
use Rattle.percent_encoding.specs.Percent.{percent_sign, percent_decode}
use Rattle.lw_reg.specs.declared.path.Path.{Path}
use Rattle.lw_path.specs.PathText.{IsPath}

-- two hex digits follow each `%`; past the end of the text a 0 is seen, which is no digit
abbrev pub IsPercentEncoded : List ℕ → Type 0
IsPercentEncoded text = (i : ℕ) → slice_index text i ≡ percent_sign
    → IsAsciiHexdigit (slice_index text (i + 1)) × IsAsciiHexdigit (slice_index text (i + 2))

-- the text stands for the name, which is in UTF-8 (RFC 3629)
pub record IsDecoded (name text : List ℕ) : Type 0 where
  pub encoded : IsPercentEncoded text
  pub decoded : name ≡ percent_decode text
  pub utf8 : IsUtf8 name

-- it stands for a name of 252 bytes at most, as an endpoint has
pub record IsShort (name text : List ℕ) : Type 0 where
  pub decoded : IsDecoded name text
  pub most : length name ≤ 252

-- it stands for the text of a path
pub record IsPathEncoded (path : Path) (text : List ℕ) : Type 0 where
  pub decoded : IsDecoded (percent_decode text) text
  pub spelled : IsPath path (percent_decode text)
