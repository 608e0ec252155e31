-- Where the latest exchange of a source and a message ID stands.
use Rattle.std.specs.Prelude.{◌≡◌, ℕ, suc, ◌+◌, ◌<◌, ◌^◌, Bool, true, false, not, ◌&&◌, cond, List, [], ◌∷◌, length, Option, None, Some}
use Rattle.std.specs.declared.cmp.Ordering.{Ordering}
use Rattle.std.specs.Ordering.{nat_cmp, ordering_then, is_eq}
use Rattle.std.specs.Option.{option_or, option_map}
use Rattle.std.specs.Map.{lookup}
use Rattle.lw_stamp.specs.declared.moment.Moment.{Moment}
use Rattle.lw_reg.specs.declared.addr.Addr.{Addr}
use Rattle.lw_reg.specs.AddrOrder.{addr_by_parts}
use Rattle.lw_messaging.specs.declared.exchange.Exchange.{Exchange}
use Rattle.lw_messaging.specs.Header.{message_id}
use Rattle.lw_messaging.specs.Replies.{total_size, is_within, is_bounded}

-- a source and a message ID
abbrev pub Key : Type 0
Key = Addr × ℕ

abbrev pub key_cmp : Key → Key → Ordering
key_cmp a b = ordering_then (addr_by_parts a.0 b.0) (nat_cmp a.1 b.1)

abbrev pub key_of : Exchange → Key
key_of exchange = (exchange.from, message_id exchange.bytes)

-- the value at the key
abbrev pub value_at : List (Key × ℕ) → Key → Option ℕ
value_at entries key = lookup (λ k. is_eq (key_cmp key k)) entries

-- where the latest exchange of the key stands
abbrev pub latest_place : List Exchange → Key → Option ℕ
latest_place [] key = None
latest_place (x ∷ xs) key =
    option_or (option_map suc (latest_place xs key)) (cond (is_eq (key_cmp (key_of x) key)) (Some 0) None)

-- Under each key is the number of its latest exchange. The exchanges are numbered on from the first.
abbrev pub AreNumbered : List (Key × ℕ) → ℕ → List Exchange → Type 0
AreNumbered entries first exchanges = (key : Key) → value_at entries key ≡ option_map (λ place. first + place) (latest_place exchanges key)

pub record IsHeld (entries : List (Key × ℕ)) (first size : ℕ) (exchanges : List Exchange) : Type 0 where
  pub numbered : AreNumbered entries first exchanges
  pub size_is : size ≡ total_size exchanges
  pub last : first + length exchanges < 2 ^ 64

-- whether the oldest is too old, or all are too much
abbrev pub has_one_to_go : Moment → List Exchange → Bool
has_one_to_go now [] = false
has_one_to_go now (x ∷ xs) = not (is_within now x.moment && is_bounded (x ∷ xs))
