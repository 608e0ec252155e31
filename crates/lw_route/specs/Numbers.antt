-- Numbers of a query.
use Rattle.std.specs.Prelude.{◌≡◌, ◌<◌, ◌≤◌, ◌^◌, ℕ, List}
use Rattle.std.specs.Fmt.{decimal}
use Rattle.std.specs.Int.{w64, to_be_bytes}
use Rattle.hex.specs.Hex.{encode_lower}

-- the number is below the end, and the text is how it is printed: in decimal, without leading zeros
pub record IsNumber (end n : ℕ) (text : List ℕ) : Type 0 where
  pub fits : n < end
  pub printed : text ≡ decimal n

-- a number of entries, from 1 to 256
pub record IsLimit (limit : ℕ) (text : List ℕ) : Type 0 where
  pub some : 1 ≤ limit
  pub number : IsNumber 257 limit text

-- a number of 64 bits
abbrev pub IsSince : ℕ → List ℕ → Type 0
IsSince since text = IsNumber (2 ^ 64) since text

-- a number of 64 bits
abbrev pub IsFrom : ℕ → List ℕ → Type 0
IsFrom from text = IsNumber (2 ^ 64) from text

-- the number of a content format (RFC 7252, section 12.3)
abbrev pub IsAccept : ℕ → List ℕ → Type 0
IsAccept accept text = IsNumber (2 ^ 16) accept text

-- a number of 64 bits as 16 lower-case hex digits
pub record IsTag (tag : ℕ) (text : List ℕ) : Type 0 where
  pub fits : tag < 2 ^ 64
  pub printed : text ≡ encode_lower (to_be_bytes w64 tag)
