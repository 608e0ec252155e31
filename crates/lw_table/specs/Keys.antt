-- By what the registration of a slot is found, beside its endpoint, while it is not removed.
use Rattle.std.specs.Prelude.{◌≡◌, Option, Some, None, Contains}
use Rattle.std.specs.declared.cmp.Ordering.{Ordering}
use Rattle.lw_stamp.specs.declared.stamp.Stamp.{Stamp}
use Rattle.lw_reg.specs.declared.slot.Slot.{Slot}
use Rattle.lw_reg.specs.Reading.{stamp_of, address_of, IsRemoved, tokens_in, watches_of}
use Rattle.lw_table.specs.declared.key.Key.{Key}
use Rattle.lw_table.specs.declared.key.Key.TheVariants.{Id, Address, Token}
use Rattle.lw_table.specs.contracts.key.KeyOrd.TheImpl as derived

-- the order of keys
abbrev pub key_cmp : Key → Key → Ordering
key_cmp = (derived.ghosts).cmp

-- its identifier is the stamp of the registration, its address the last write, its tokens those of the watches
-- that were not cancelled; what was removed has none of these
abbrev pub HasKey : Slot → Key → Type 0
HasKey slot (Id id) = (¬ IsRemoved slot) × (stamp_of slot ≡ id)
HasKey slot (Address address) = (at : Stamp) × (address_of slot ≡ Some (at, address))
HasKey slot (Token token) = Contains (tokens_in (watches_of slot)) token

abbrev pub OptionHasKey : Option Slot → Key → Type 0
OptionHasKey None key = ⊥
OptionHasKey (Some slot) key = HasKey slot key
