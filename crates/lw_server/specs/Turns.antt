-- What a turn of a server calls, and what it sends.
use Rattle.std.specs.Prelude.{◌≡◌, ◌-◌, ◌*◌, ◌++◌, ◌&&◌, not, ℕ, Bool, cond, List, [], map, replicate, filter_map, Option, option_map}
use Rattle.std.specs.List.{list_any}
use Rattle.std.specs.declared.alloc.Global.{Global}
use Rattle.std.specs.declared.vec.Vec.{Vec}
use Rattle.lw_stamp.specs.declared.moment.Moment.{Moment}
use Rattle.lw_stamp.specs.Moment.{ms_of}
use Rattle.lw_reg.specs.declared.addr.Addr.{Addr}
use Rattle.lw_udp.specs.declared.datagram.Datagram.{Datagram}
use Rattle.lw_call.specs.declared.call.Call.{Call}
use Rattle.lw_call.specs.declared.call.Call.TheVariants as calls
use Rattle.lw_call.specs.declared.reply.Reply.{Reply}
use Rattle.lw_replica.specs.Rounds.{IsRound}
use Rattle.lw_metrics.specs.Counting.{counted}
use Rattle.lw_server.specs.declared.blocks.Handled.{Handled}
use Rattle.lw_server.specs.Blocks.{Arrival, datagram_of, AreTaken, call_of, origin_of, answered_of, reply_of, lacks_block, with_blocks, AreHandled, GoOn}
use Rattle.lw_server.specs.Exchanges.{fresh_of, sent_again, exchanges_of, with_duplicates, with_unkept, Keeps}
use Rattle.lw_server.specs.Numbering.{counts_without_message_id, AreNumbered}
use Rattle.lw_server.specs.Server.{ServerContent}

-- how many registrations that have expired end in a turn at most
abbrev pub sweeps_a_turn : ℕ
sweeps_a_turn = 32

-- The messages that the store takes, at the moment. Behind them, where the replica has claimed its number, Sweeps at
-- the moment before.
abbrev pub calls_of : Moment → Moment → Bool → List Arrival → List Call
calls_of now before claimed arrivals = filter_map (call_of now) arrivals ++ cond claimed (replicate sweeps_a_turn (calls.Sweep before)) []

-- where something is sent, and its bytes
abbrev pub sent : Addr × Vec ℕ Global → Addr × List ℕ
sent send = (send.0, send.1.items)

-- where the reply goes, and its bytes, if there is one
abbrev pub send_of : Handled → Option (Addr × List ℕ)
send_of handled = option_map (λ reply. (handled.from, reply)) (reply_of handled)

-- the replies, in order
abbrev pub sends_of : List Handled → List (Addr × List ℕ)
sends_of handled = filter_map send_of handled

-- One round of the replica, which is counted, with what the store takes of the datagrams that are fresh. What is sent
-- are the replies to those that were answered before, those to blocks that are answered without the store, and those of
-- the round. The last two have their message IDs before they are kept, so a request that comes again gets the same
-- reply (RFC 7252, sections 4.4 and 4.5). The Sweeps are at the moment less the seconds that clocks may differ. What the
-- store is called for is at the host's moment; which request came before, and what is kept for how long, goes by the
-- clock that never goes back.
pub record IsTurn (old : ServerContent) (batch : List Datagram) (sends : List (Addr × List ℕ)) (new : ServerContent) : Type 0 where
  pub before : Moment
  pub arrivals : List Arrival
  pub replies : List Reply
  pub handled : List Handled
  pub numbered : List Handled
  pub is_all_kept : Bool
  pub before_is : ms_of before ≡ ms_of old.latest - 1000 * old.skew
  pub fresh : map datagram_of arrivals ≡ fresh_of old.steady old.kept batch
  pub bodies : AreTaken old.steady old.bodies arrivals new.bodies
  pub round : IsRound old.replica (calls_of old.latest before old.replica.claimed arrivals) replies new.replica
  pub answers : AreHandled (filter_map origin_of arrivals) replies handled
  pub numbers : AreNumbered old.steady old.ids (filter_map answered_of arrivals ++ handled) numbered new.ids
  pub without_message_id : new.without_message_id ≡ counts_without_message_id old.without_message_id
      (filter_map answered_of arrivals ++ handled) numbered
  pub sent : sends ≡ sent_again old.steady old.kept batch ++ sends_of numbered
  pub counts : new.tally ≡ counted old.tally (calls_of old.latest before old.replica.claimed arrivals) replies
  pub kept : Keeps old.kept (exchanges_of old.steady numbered) new.kept is_all_kept
  pub unkept : new.unkept ≡ with_unkept old.unkept (is_all_kept && not (list_any lacks_block numbered))
  pub duplicates : new.duplicates ≡ with_duplicates old.duplicates batch (fresh_of old.steady old.kept batch)
  pub blocks : new.blocks ≡ with_blocks old.blocks (filter_map answered_of arrivals) (filter_map origin_of arrivals)

-- The bodies are those before, or those after some of the datagrams that are fresh, from the first on.
abbrev pub GoesOn : ServerContent → List Datagram → ServerContent → Type 0
GoesOn old batch new = GoOn old.steady old.bodies (fresh_of old.steady old.kept batch) new.bodies
