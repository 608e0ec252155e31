-- The fields of a line of a script, and what each spells. Numbers are decimal without leading zeros; an address is a
-- host and a port as in the authority of a URI (RFC 3986, section 3.2), bytes are in base 16 (RFC 4648, section 8).
use Rattle.std.specs.Prelude.{◌≡◌, ◌<◌, ◌≤◌, ◌^◌, ◌==◌, ℕ, Bool, List, [], ◌∷◌, length, Option, Some, None, Ok, codes}
use Rattle.std.specs.Fmt.{decimal}
use Rattle.std.specs.List.{position_or_len, before_first, after_first}
use Rattle.hex.specs.Hex.{decode_of}
use Rattle.lw_stamp.specs.declared.moment.Moment.{Moment}
use Rattle.lw_stamp.specs.declared.stamp.Stamp.{Stamp}
use Rattle.lw_stamp.specs.Moment.{ms_of}
use Rattle.lw_stamp.specs.Stamp.{id_of}
use Rattle.lw_reg.specs.declared.addr.Addr.{Addr}
use Rattle.lw_reg.specs.Addr.{addr_text, IsAddr}

-- the number is below the limit, and the text is how it is printed
pub record IsNumber (limit n : ℕ) (text : List ℕ) : Type 0 where
  pub fits : n < limit
  pub printed : text ≡ decimal n

-- a number of 16 bits
abbrev pub IsShort : ℕ → List ℕ → Type 0
IsShort n text = IsNumber (2 ^ 16) n text

abbrev pub IsMoment : Moment → List ℕ → Type 0
IsMoment moment text = IsNumber (2 ^ 48) (ms_of moment) text

pub record IsAddress (address : Addr) (text : List ℕ) : Type 0 where
  pub in_range : IsAddr address
  pub printed : text ≡ addr_text address

-- the identifier of a registration, or the token of an observation
abbrev pub IsId : Stamp → List ℕ → Type 0
IsId stamp text = text ≡ id_of stamp

-- the number of a content format, or `-` where there is none
abbrev pub IsAccept : Option ℕ → List ℕ → Type 0
IsAccept None text = text ≡ codes "-"
IsAccept (Some n) text = IsShort n text

-- bytes in hex digits of either case
abbrev pub IsHex : List ℕ → List ℕ → Type 0
IsHex bytes text = decode_of text ≡ Ok bytes

-- the name of an endpoint, which has a byte or more
pub record IsName (name text : List ℕ) : Type 0 where
  pub same : text ≡ name
  pub some : 1 ≤ length text

-- ---- fields in a row
abbrev pub is_space : ℕ → Bool
is_space byte = byte == 32

-- the text has a space
abbrev pub HasSpace : List ℕ → Type 0
HasSpace text = position_or_len is_space text < length text

-- a field stands before the first space, and the others behind it
pub record IsRow {A B : Type 0} (P : A → List ℕ → Type 0) (Q : B → List ℕ → Type 0) (values : A × B) (text : List ℕ) : Type 0 where
  pub parted : HasSpace text
  pub first : P values.0 (before_first is_space text)
  pub others : Q values.1 (after_first is_space text)

infixr 20 ◌␣◌
abbrev pub ◌␣◌ : {A B : Type 0} → (A → List ℕ → Type 0) → (B → List ℕ → Type 0) → A × B → List ℕ → Type 0
(P ␣ Q) values text = IsRow P Q values text
