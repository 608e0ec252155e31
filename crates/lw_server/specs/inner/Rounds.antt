-- A round with what the store takes of the datagrams of a turn.
use Rattle.std.specs.Prelude.{◌≡◌, ◌++◌, Bool, List, cond, replicate, []}
use Rattle.lw_stamp.specs.declared.moment.Moment.{Moment}
use Rattle.lw_call.specs.declared.call.Call.{Call}
use Rattle.lw_call.specs.declared.call.Call.TheVariants.{Sweep}
use Rattle.lw_call.specs.declared.reply.Reply.{Reply}
use Rattle.lw_replica.specs.Replica.{ReplicaContent}
use Rattle.lw_replica.specs.Rounds.{IsRound}
use Rattle.lw_metrics.specs.declared.tally.Tally.{Tally}
use Rattle.lw_metrics.specs.Counting.{counted}
use Rattle.lw_server.specs.declared.blocks.Handled.{Handled}
use Rattle.lw_server.specs.declared.blocks.Sorted.{Sorted}
use Rattle.lw_server.specs.Blocks.{AreHandled}
use Rattle.lw_server.specs.Turns.{sweeps_a_turn}

-- the calls, and behind them the Sweeps
abbrev pub all_calls : Moment → Bool → List Call → List Call
all_calls before claimed calls = calls ++ cond claimed (replicate sweeps_a_turn (Sweep before)) []

pub record ExecutesRound (before : Moment) (old : ReplicaContent) (tally : Tally) (sorted : Sorted)
    (handled : List Handled) (new : ReplicaContent) (counts : Tally) : Type 0 where
  pub replies : List Reply
  pub more : List Handled
  pub round : IsRound old (all_calls before old.claimed sorted.calls.items) replies new
  pub counted_are : counts ≡ counted tally (all_calls before old.claimed sorted.calls.items) replies
  pub handled_are : handled ≡ sorted.handled.items ++ more
  pub answers : AreHandled sorted.origins.items replies more
