-- What is kept of the requests that were answered, and to which datagram a reply is sent again (RFC 7252, sections 4.2,
-- 4.3, 4.5 and 4.8.2). The exchanges are in the order in which they were kept, oldest first.
use Rattle.std.specs.Prelude.{◌≡◌, ℕ, ◌+◌, ◌*◌, ◌≤◌, Bool, cond, ◌&&◌, ◌==◌, nat_le, bytes_eq, List, [], ◌∷◌, ◌++◌, length, sum, map, Option, None, Some}
use Rattle.std.specs.Option.{option_or, option_and_then}
use Rattle.lw_stamp.specs.declared.moment.Moment.{Moment}
use Rattle.lw_stamp.specs.Moment.{ms_of}
use Rattle.lw_reg.specs.declared.addr.Addr.{Addr}
use Rattle.lw_reg.specs.AddrOrder.{same_addr}
use Rattle.lw_messaging.specs.declared.exchange.Exchange.{Exchange}
use Rattle.lw_messaging.specs.Header.{message_id}

-- EXCHANGE_LIFETIME, 247 seconds, in milliseconds (RFC 7252, section 4.8.2)
abbrev pub exchange_lifetime : ℕ
exchange_lifetime = 247000

-- how many exchanges are kept at most
abbrev pub max_exchanges : ℕ
max_exchanges = 65536

-- how many bytes of requests and replies are kept at most: 16 MiB
abbrev pub max_bytes : ℕ
max_bytes = 16777216

-- two moments are at most the lifetime of an exchange apart
abbrev pub is_within : Moment → Moment → Bool
is_within a b = nat_le (ms_of a) (ms_of b + exchange_lifetime) && nat_le (ms_of b) (ms_of a + exchange_lifetime)

-- the exchange has the source and the message ID, by which a message is known again (RFC 7252, section 4.5)
abbrev pub has_id : Addr → ℕ → Exchange → Bool
has_id from id exchange = same_addr exchange.from from && (message_id exchange.bytes == id)

-- the latest of the exchanges with the source and the message ID
abbrev pub latest_of : Addr → ℕ → List Exchange → Option Exchange
latest_of from id [] = None
latest_of from id (x ∷ xs) = option_or (latest_of from id xs) (cond (has_id from id x) (Some x) None)

-- What was replied to the datagram: what the latest exchange with its source and message ID has, if that has the same
-- bytes, and is not too old.
abbrev pub replied : Moment → Addr → List ℕ → List Exchange → Option (Option (List ℕ))
replied now from bytes exchanges =
    option_and_then (λ x. cond (is_within now x.moment && bytes_eq x.bytes bytes) (Some x.reply) None) (latest_of from (message_id bytes) exchanges)

abbrev pub length_of : Option (List ℕ) → ℕ
length_of None = 0
length_of (Some bytes) = length bytes

-- how many bytes an exchange has
abbrev pub size_of : Exchange → ℕ
size_of exchange = length exchange.bytes + length_of exchange.reply

abbrev pub total_size : List Exchange → ℕ
total_size [] = 0
total_size (x ∷ xs) = size_of x + total_size xs

-- the exchanges are within what is kept at most
pub record IsBounded (exchanges : List Exchange) : Type 0 where
  pub count : length exchanges ≤ max_exchanges
  pub size : total_size exchanges ≤ max_bytes

abbrev pub is_bounded : List Exchange → Bool
is_bounded exchanges = nat_le (length exchanges) max_exchanges && nat_le (total_size exchanges) max_bytes

-- the exchanges without the oldest, as many as are too old or too much
abbrev pub let_go : Moment → List Exchange → List Exchange
let_go now [] = []
let_go now (x ∷ xs) = cond (is_within now x.moment && is_bounded (x ∷ xs)) (x ∷ xs) (let_go now xs)
