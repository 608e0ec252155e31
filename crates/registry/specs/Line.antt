-- A line of the input: a moment in milliseconds, an address and a datagram in hex (RFC 4648, section 8), with a space
-- between each two.
use Rattle.std.specs.Prelude.{◌≡◌, ◌==◌, ◌<◌, ℕ, Bool, List, length, Ok}
use Rattle.std.specs.Fmt.{decimal}
use Rattle.std.specs.List.{position_or_len, before_first, after_first}
use Rattle.hex.specs.Hex.{decode_of}
use Rattle.lw_stamp.specs.declared.moment.Moment.{Moment}
use Rattle.lw_stamp.specs.Moment.{ms_of}
use Rattle.lw_reg.specs.declared.addr.Addr.{Addr}
use Rattle.lw_reg.specs.Addr.{addr_text, IsAddr}

abbrev pub is_space : ℕ → Bool
is_space byte = byte == 32

-- the text has a space
abbrev pub HasSpace : List ℕ → Type 0
HasSpace text = position_or_len is_space text < length text

-- the texts before the first space, between that and the next, and after it
pub record IsParted (line first second third : List ℕ) : Type 0 where
  pub parted : HasSpace line
  pub parted_again : HasSpace (after_first is_space line)
  pub first_is : first ≡ before_first is_space line
  pub second_is : second ≡ before_first is_space (after_first is_space line)
  pub third_is : third ≡ after_first is_space (after_first is_space line)

-- the texts spell the moment, the address and the datagram
pub record IsSpelled (now : Moment) (source : Addr) (datagram moment address digits : List ℕ) : Type 0 where
  pub moment_is : moment ≡ decimal (ms_of now)
  pub in_range : IsAddr source
  pub address_is : address ≡ addr_text source
  pub digits_are : decode_of digits ≡ Ok datagram

-- the line spells them
pub record IsReceived (now : Moment) (source : Addr) (datagram line : List ℕ) : Type 0 where
  pub moment : List ℕ
  pub address : List ℕ
  pub digits : List ℕ
  pub parted : IsParted line moment address digits
  pub spelled : IsSpelled now source datagram moment address digits
