-- When a datagram repeats a request that was answered (RFC 7252, section 4.5).
use Rattle.std.specs.Prelude.{◌≡◌, ℕ, ◌+◌, ◌≤◌, true, false, List, ◌∷◌, ◌++◌}
use Rattle.std.specs.List.{AllByRecursion}
use Rattle.lw_stamp.specs.declared.moment.Moment.{Moment}
use Rattle.lw_stamp.specs.Moment.{ms_of}
use Rattle.lw_reg.specs.declared.addr.Addr.{Addr}
use Rattle.lw_reg.specs.AddrOrder.{same_addr}
use Rattle.lw_messaging.specs.declared.exchange.Exchange.{Exchange}
use Rattle.lw_messaging.specs.Header.{message_id}
use Rattle.lw_messaging.specs.Replies.{exchange_lifetime, has_id}

-- The exchange has the source and the bytes of the datagram, and none behind it has this source and message ID. Its moment
-- is at most its lifetime away.
pub record IsRepeatOf (now : Moment) (from : Addr) (bytes : List ℕ) (exchanges : List Exchange) (exchange : Exchange) : Type 0 where
  pub before : List Exchange
  pub behind : List Exchange
  pub stands : exchanges ≡ before ++ exchange ∷ behind
  pub source : same_addr exchange.from from ≡ true
  pub same : exchange.bytes ≡ bytes
  pub not_late : ms_of now ≤ ms_of exchange.moment + exchange_lifetime
  pub not_early : ms_of exchange.moment ≤ ms_of now + exchange_lifetime
  pub latest : AllByRecursion (λ x. has_id from (message_id bytes) x ≡ false) behind
