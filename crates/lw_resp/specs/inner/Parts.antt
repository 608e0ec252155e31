-- Parts of words.
use Rattle.std.specs.Prelude.{◌≡◌, ◌≢◌, ◌≤◌, ◌==◌, ◌||◌, ℕ, Bool, List, [], ◌∷◌, ◌++◌, length, All}
use Rattle.std.specs.Fmt.{decimal}
use Rattle.std.specs.List.{flat_map}
use Rattle.lw_resp.specs.Bytes.{crlf, count_line, bulk_bytes}
use Rattle.lw_resp.specs.Words.{IsLineText, IsBulk}
use Rattle.lw_resp.specs.Reading.{IsMalformed}
use Rattle.lw_resp.specs.declared.lines.Line.{Line}
use Rattle.lw_resp.specs.declared.lines.Line.TheVariants.{Whole, Returned, Begun, Broken}

-- a byte of the end of a line
abbrev pub is_end : ℕ → Bool
is_end byte = (byte == 13) || (byte == 10)

-- a text and the end of a line
abbrev pub ended : List ℕ → List ℕ
ended text = text ++ crlf

-- a number and the end of a line
abbrev pub number_ended : ℕ → List ℕ
number_ended number = decimal number ++ crlf

abbrev pub IsLine : List ℕ → Line → Type 0
IsLine bytes (Whole text rest) = IsLineText text.now × (bytes ≡ text.now ++ (13 ∷ 10 ∷ rest.now))
IsLine bytes (Returned text) = IsLineText text.now × (bytes ≡ text.now ++ (13 ∷ []))
IsLine bytes (Begun text) = IsLineText text.now × (bytes ≡ text.now)
IsLine bytes Broken = IsMalformed IsLineText ended bytes

-- these bytes
abbrev pub AreThese : List ℕ → List ℕ → Type 0
AreThese these bytes = bytes ≡ these

abbrev pub as_they_are : List ℕ → List ℕ
as_they_are bytes = bytes

-- a content of this length
abbrev pub HasLength : ℕ → List ℕ → Type 0
HasLength count content = length content ≡ count

-- so many values of a kind
pub record AreMany {A : Type 0} (Is : A → Type 0) (number : ℕ) (values : List A) : Type 0 where
  pub many : length values ≡ number
  pub each : All Is values

-- a bulk string behind its `$`
abbrev pub bulk_ended : List ℕ → List ℕ
bulk_ended content = number_ended (length content) ++ (content ++ crlf)

-- there is a first byte, and it is not this one
pub record BeginsOther (byte : ℕ) (bytes : List ℕ) : Type 0 where
  pub first : ℕ
  pub others : List ℕ
  pub is : bytes ≡ first ∷ others
  pub other : first ≢ byte

abbrev pub IsAtMost : ℕ → ℕ → Type 0
IsAtMost most number = number ≤ most
