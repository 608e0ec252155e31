-- The one text of an address: its host and port as in the authority of a URI (RFC 3986, section 3.2).
use Rattle.std.specs.Prelude.{◌≡◌, ℕ, false, ◌/◌, ◌%◌, ◌^◌, ◌<◌, List, [], ◌∷◌, ◌++◌, length, map, slice_index}
use Rattle.std.specs.Fmt.{decimal, digit_glyph}
use Rattle.std.specs.List.{join_with_byte}
use Rattle.lw_reg.specs.declared.addr.Addr.{Addr}
use Rattle.lw_reg.specs.declared.addr.Addr.TheVariants.{V4, V6}

-- two lower-case hex digits
abbrev pub hex_text : ℕ → List ℕ
hex_text byte = digit_glyph false (byte / 16) ∷ digit_glyph false (byte % 16) ∷ []

-- each two bytes as four hex digits
abbrev pub groups : List ℕ → List (List ℕ)
groups (a ∷ b ∷ bytes) = (hex_text a ++ hex_text b) ∷ groups bytes
groups _ = []

-- `a.b.c.d:port`, or `[g:g:g:g:g:g:g:g]:port`
abbrev pub addr_text : Addr → List ℕ
addr_text (V4 address port) = join_with_byte 46 (map decimal address) ++ (58 ∷ decimal port)
addr_text (V6 address port) = (91 ∷ join_with_byte 58 (groups address)) ++ (93 ∷ 58 ∷ decimal port)

-- bytes, and a port of 16 bits
pub record IsHost (size : ℕ) (address : List ℕ) (number : ℕ) : Type 0 where
  pub whole : length address ≡ size
  pub bytes : (k : ℕ) → slice_index address k < 2 ^ 8
  pub port : number < 2 ^ 16

abbrev pub IsAddr : Addr → Type 0
IsAddr (V4 address port) = IsHost 4 address port
IsAddr (V6 address port) = IsHost 16 address port
