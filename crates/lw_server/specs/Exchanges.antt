-- Which datagrams of a batch are taken, which are answered again, and what is kept of those that were answered (RFC
-- 7252, sections 4.2 and 4.5).
use Rattle.std.specs.Prelude.{◌≡◌, ℕ, ◌+◌, ◌-◌, ◌^◌, Bool, true, cond, not, ◌&&◌, bytes_eq, min, List, [], ◌∷◌, ◌++◌, filter_map, length, Option, None, Some, option_map}
use Rattle.std.specs.List.{list_any}
use Rattle.std.specs.Option.{is_none, option_flatten}
use Rattle.lw_stamp.specs.declared.moment.Moment.{Moment}
use Rattle.lw_reg.specs.declared.addr.Addr.{Addr}
use Rattle.lw_reg.specs.AddrOrder.{same_addr}
use Rattle.lw_udp.specs.declared.datagram.Datagram.{Datagram}
use Rattle.lw_messaging.specs.declared.exchange.Exchange.{Exchange}
use Rattle.lw_messaging.specs.Replies.{let_go, replied}
use Rattle.lw_messaging.specs.Header.{is_request}
use Rattle.lw_metrics.specs.Counting.{one_more}
use Rattle.lw_server.specs.declared.blocks.Handled.{Handled}
use Rattle.lw_server.specs.Blocks.{reply_of}

-- what was replied to the datagram, if it is a request that was answered before
abbrev pub replied_to : Moment → List Exchange → Datagram → Option (Option (List ℕ))
replied_to now kept datagram = cond (is_request datagram.bytes) (replied now datagram.from datagram.bytes kept) None

-- the two are one request that came twice
abbrev pub is_copy : Datagram → Datagram → Bool
is_copy a b = is_request a.bytes && same_addr b.from a.from && bytes_eq b.bytes a.bytes

-- it was not answered before, and is no copy of one before it in the batch
abbrev pub is_fresh : Moment → List Exchange → List Datagram → Datagram → Bool
is_fresh now kept before datagram = is_none (replied_to now kept datagram) && not (list_any (is_copy datagram) before)

-- those that are taken, after one more came
abbrev pub with_fresh : Moment → List Exchange → List Datagram → Datagram → List Datagram
with_fresh now kept before datagram = cond (is_fresh now kept before datagram) (before ++ datagram ∷ []) before

-- those that are taken, after further ones came
abbrev pub fresh_behind : Moment → List Exchange → List Datagram → List Datagram → List Datagram
fresh_behind now kept before [] = before
fresh_behind now kept before (d ∷ ds) = fresh_behind now kept (with_fresh now kept before d) ds

-- the datagrams of a batch that are taken
abbrev pub fresh_of : Moment → List Exchange → List Datagram → List Datagram
fresh_of now kept batch = fresh_behind now kept [] batch

-- where a reply is sent again, and its bytes
abbrev pub again_to : Moment → List Exchange → Datagram → Option (Addr × List ℕ)
again_to now kept datagram = option_map (λ reply. (datagram.from, reply)) (option_flatten (replied_to now kept datagram))

-- the replies that are sent again, in order
abbrev pub sent_again : Moment → List Exchange → List Datagram → List (Addr × List ℕ)
sent_again now kept batch = filter_map (again_to now kept) batch

-- how many datagrams were answered before or are copies, after a batch
abbrev pub with_duplicates : ℕ → List Datagram → List Datagram → ℕ
with_duplicates count batch fresh = min (count + (length batch - length fresh)) (2 ^ 64 - 1)

-- a request that was answered at the moment, as it came, with its reply, if it is owed one
abbrev pub exchange_of : Moment → Handled → Option Exchange
exchange_of now handled =
    cond (is_request handled.bytes) (Some (record { moment = now; from = handled.from; bytes = handled.bytes; reply = reply_of handled })) None

-- the requests that were answered, in order
abbrev pub exchanges_of : Moment → List Handled → List Exchange
exchanges_of now handled = filter_map (exchange_of now) handled

-- what is kept after one exchange after another was
abbrev pub kept_after : List Exchange → List Exchange → List Exchange
kept_after kept [] = kept
kept_after kept (x ∷ xs) = kept_after (let_go x.moment (kept ++ x ∷ [])) xs

-- The exchanges are kept, in order, as many as there is memory for, and it is known whether these are all.
pub record Keeps (old exchanges new : List Exchange) (is_all : Bool) : Type 0 where
  pub front : List Exchange
  pub left_out : List Exchange
  pub are : exchanges ≡ front ++ left_out
  pub kept : new ≡ kept_after old front
  pub all : is_all ≡ true → left_out ≡ []

-- how many turns had no memory for all that they answered, after one more
abbrev pub with_unkept : ℕ → Bool → ℕ
with_unkept count is_all = cond is_all count (one_more count)
