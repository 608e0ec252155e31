-- The message IDs of replies that are not confirmable: the server's own (RFC 7252, section 4.4).
use Rattle.std.specs.Prelude.{◌≡◌, ℕ, ◌+◌, ◌-◌, ◌/◌, ◌%◌, ◌^◌, ◌==◌, min, Bool, false, if◌then◌else◌, List, [], ◌∷◌}
use Rattle.std.specs.Prelude.{Option, None, Some, option_map}
use Rattle.std.specs.List.{count_by}
use Rattle.std.specs.Option.{is_some}
use Rattle.lw_stamp.specs.declared.moment.Moment.{Moment}
use Rattle.lw_reg.specs.declared.addr.Addr.{Addr}
use Rattle.lw_messaging.specs.declared.message_ids.IdCounter.{IdCounter}
use Rattle.lw_messaging.specs.MessageIds.{allotted_to, counters_after, with_message_id}
use Rattle.lw_server.specs.declared.blocks.Handled.{Handled}
use Rattle.lw_server.specs.Blocks.{reply_of}

-- a message is non-confirmable: the type, in the two bits behind the version, is 1 (RFC 7252, section 3)
abbrev pub is_non_confirmable : List ℕ → Bool
is_non_confirmable [] = false
is_non_confirmable (first ∷ rest) = first / 16 % 4 == 1

-- What goes out in place of a message. The sender of a non-confirmable one gives it a message ID that is not used again
-- within EXCHANGE_LIFETIME; where none is free the message does not go out. Any other reply has the message ID of what
-- it answers (RFC 7252, section 4.4).
abbrev pub numbered : Moment → List IdCounter → Addr → List ℕ → Option (List ℕ)
numbered now counters to message =
    if is_non_confirmable message then option_map (λ id. with_message_id id message) (allotted_to counters now to)
    else Some message

abbrev pub numbered_reply : Moment → List IdCounter → Addr → Option (List ℕ) → Option (List ℕ)
numbered_reply now counters to None = None
numbered_reply now counters to (Some reply) = numbered now counters to reply

-- which message IDs are next behind it: those of the address go on where the reply is non-confirmable (RFC 7252,
-- section 4.4)
abbrev pub counters_behind : Moment → List IdCounter → Addr → Option (List ℕ) → List IdCounter
counters_behind now counters to None = counters
counters_behind now counters to (Some reply) = if is_non_confirmable reply then counters_after counters now to else
    counters

-- a datagram that is answered, and the same with the reply that goes out (RFC 7252, section 4.4)
pub record IsNumbered (now : Moment) (counters : List IdCounter) (old new : Handled) : Type 0 where
  pub from : new.from ≡ old.from
  pub bytes : new.bytes ≡ old.bytes
  pub lacks_block : new.lacks_block ≡ old.lacks_block
  pub reply : reply_of new ≡ numbered_reply now counters old.from (reply_of old)

-- one after another, each with the message IDs that those before it left (RFC 7252, section 4.4)
abbrev pub AreNumbered : Moment → List IdCounter → List Handled → List Handled → List IdCounter → Type 0
AreNumbered now counters [] [] last = last ≡ counters
AreNumbered now counters [] (new ∷ news) last = ⊥
AreNumbered now counters (old ∷ olds) [] last = ⊥
AreNumbered now counters (old ∷ olds) (new ∷ news) last =
    IsNumbered now counters old new × AreNumbered now (counters_behind now counters old.from (reply_of old)) olds news
    last

-- ---- counts
abbrev pub has_reply : Handled → Bool
has_reply handled = is_some handled.reply

-- how many replies did not go out since no message ID was free, after a turn
abbrev pub counts_without_message_id : ℕ → List Handled → List Handled → ℕ
counts_without_message_id count handled numbered =
    min (count + (count_by has_reply handled - count_by has_reply numbered)) (2 ^ 64 - 1)
