-- Which keys may come or go where a slot is joined to another.
use Rattle.std.specs.Prelude.{◌≡◌, ◌⊎◌, ◌++◌, ◌&&◌, Bool, true, false, List, [], ◌∷◌, map, Contains, Option, Some, None, if◌then◌else◌}
use Rattle.std.specs.Option.{option_eq}
use Rattle.lw_stamp.specs.declared.stamp.Stamp.{Stamp}
use Rattle.lw_join.specs.declared.or_gone.OrGone.{OrGone}
use Rattle.lw_join.specs.declared.or_gone.OrGone.TheVariants.{Here, Gone}
use Rattle.lw_reg.specs.declared.addr.Addr.{Addr}
use Rattle.lw_reg.specs.declared.body.Body.{Body}
use Rattle.lw_reg.specs.declared.path.Path.{Path}
use Rattle.lw_reg.specs.declared.slot.Slot.{Slot}
use Rattle.lw_reg.specs.Body.{Watching}
use Rattle.lw_reg.specs.Reading.{stamp_of, address_of, tokens_in, watches_of}
use Rattle.lw_reg.specs.Slot.{slot_join}
use Rattle.lw_table.specs.Keys.{HasKey, OptionHasKey}
use Rattle.lw_table.specs.inner.Keys.{token_in}
use Rattle.lw_stamp.specs.contracts.stamp.StampPartialEq.TheImpl as stamps
use Rattle.lw_reg.specs.contracts.addr.AddrPartialEq.TheImpl as addrs
use Rattle.lw_join.specs.Entries.{get as entry_of}
use Rattle.lw_reg.specs.Orders.{path_cmp}
use Rattle.lw_table.specs.declared.key.Key.{Key}
use Rattle.lw_table.specs.declared.key.Key.TheVariants.{Id, Address, Token}

-- ---- the keys of a slot
abbrev pub id_key : OrGone Body → Stamp → List Key
id_key Gone id = []
id_key (Here body) id = Id id ∷ []

abbrev pub address_key : Option (Stamp × Addr) → List Key
address_key None = []
address_key (Some write) = Address write.1 ∷ []

abbrev pub token_keys : List (Path × Watching) → List Key
token_keys watches = map Token (tokens_in watches)

abbrev pub keys_in : Slot → List Key
keys_in slot = (id_key slot.registration.value (stamp_of slot) ++ address_key (address_of slot)) ++ token_keys (watches_of slot)

-- the slot that the first two make, or the second alone
abbrev pub joined_with : Option Slot → Slot → Slot
joined_with None other = other
joined_with (Some old) other = slot_join old other

-- the list has each key that one of the slots has and the other lacks; before the first slot it has those of the
-- second alone
pub record HasKeyChanges (old : Option Slot) (other : Slot) (keys : List Key) : Type 0 where
  pub gained : (k : Key) → HasKey (joined_with old other) k → OptionHasKey old k ⊎ Contains keys k
  pub lost : (k : Key) → OptionHasKey old k → HasKey (joined_with old other) k ⊎ Contains keys k
  pub first : old ≡ None → (k : Key) → Contains keys k → HasKey other k

-- ---- what is listed
-- a token, if there is one
abbrev pub token_key : Option Stamp → List Key
token_key None = []
token_key (Some token) = Token token ∷ []

abbrev pub token_was : Option Watching → Option Stamp
token_was None = None
token_was (Some watching) = token_in watching

-- both, where they differ
abbrev pub differing_tokens : Option Stamp → Option Stamp → List Key
differing_tokens was is = if option_eq (stamps.ghosts).eq was is then [] else token_key was ++ token_key is

-- of each path that is watched in the second, the tokens where they differ
abbrev pub turned_tokens : List (Path × Watching) → List (Path × Watching) → List Key
turned_tokens old [] = []
turned_tokens old (entry ∷ entries) = differing_tokens (token_was (entry_of path_cmp old entry.0)) (token_in entry.1) ++ turned_tokens old entries

-- both addresses, where there is a second and they differ
abbrev pub differing : Addr → Addr → List Key
differing last address = if (addrs.ghosts).eq last address then [] else Address last ∷ Address address ∷ []

abbrev pub differing_addresses : Option (Stamp × Addr) → Option (Stamp × Addr) → List Key
differing_addresses old None = []
differing_addresses None (Some write) = Address write.1 ∷ []
differing_addresses (Some last) (Some write) = differing last.1 write.1

-- both are about one registration that neither removed
abbrev pub both_here : OrGone Body → OrGone Body → Bool
both_here Gone y = false
both_here (Here x) Gone = false
both_here (Here x) (Here y) = true

abbrev pub is_one : Slot → Slot → Bool
is_one old other = (stamps.ghosts).eq (stamp_of old) (stamp_of other) && both_here old.registration.value other.registration.value

abbrev pub turned : Slot → Slot → List Key
turned old other =
    if is_one old other then differing_addresses (address_of old) (address_of other) ++ turned_tokens (watches_of old) (watches_of other) else keys_in old ++ keys_in other

abbrev pub changes : Option Slot → Slot → List Key
changes None other = keys_in other
changes (Some old) other = turned old other
