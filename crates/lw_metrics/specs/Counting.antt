-- What a round adds to a tally. A number stays at 2^64 - 1.
use Rattle.std.specs.Prelude.{ℕ, ◌+◌, ◌-◌, ◌^◌, ◌==◌, min, if◌then◌else◌, List, ◌∷◌, fold, position, replicate, slice_index, slice_set, Option, Some, None, Ok, Err}
use Rattle.lw_call.specs.Contents.{NoticeContent, TakenContent}
use Rattle.lw_call.specs.declared.call.Call.{Call}
use Rattle.lw_call.specs.declared.call.Call.TheVariants as calls
use Rattle.lw_call.specs.declared.merge_fault.MergeFault.TheVariants as merge_faults
use Rattle.lw_call.specs.declared.observe_fault.ObserveFault.TheVariants as observe_faults
use Rattle.lw_call.specs.declared.reply.Reply.{Reply}
use Rattle.lw_call.specs.declared.reply.Reply.TheVariants as replies
use Rattle.lw_metrics.specs.declared.tally.Tally.{Tally}
use Rattle.lw_metrics.specs.ReplyCodes.{reply_codes}

abbrev pub one_more : ℕ → ℕ
one_more n = min (n + 1) (2 ^ 64 - 1)

abbrev pub new_tally : Tally
new_tally = record {
  rounds = 0;
  datagrams = 0;
  replies = replicate 12 0;
  empty_replies = 0;
  unanswered = 0;
  notifications = 0;
  swept = 0;
  no_memory = 0;
}

-- each Take is of one datagram
abbrev pub with_call : Tally → Call → Tally
with_call tally (calls.Take now source bytes) = record tally { datagrams = one_more tally.datagrams }
with_call tally call = tally

-- the reply that has the code at this place
abbrev pub with_place : Tally → Option ℕ → Tally
with_place tally None = tally
with_place tally (Some place) =
    record tally { replies = slice_set tally.replies place (one_more (slice_index tally.replies place)) }

-- 0.00 is the code of an empty message
abbrev pub with_code : Tally → ℕ → Tally
with_code tally code =
    if code == 0
    then record tally { empty_replies = one_more tally.empty_replies }
    else with_place tally (position (λ known. known == code) reply_codes)

-- the code is the second byte of a message (RFC 7252, section 3)
abbrev pub with_bytes : Tally → List ℕ → Tally
with_bytes tally (first ∷ code ∷ rest) = with_code tally code
with_bytes tally bytes = tally

-- the datagram that is to be sent back, or none
abbrev pub with_answer : Tally → Option (List ℕ) → Tally
with_answer tally None = record tally { unanswered = one_more tally.unanswered }
with_answer tally (Some bytes) = with_bytes tally bytes

-- what a device tells of an observation, if it does
abbrev pub with_notice : Tally → Option NoticeContent → Tally
with_notice tally None = tally
with_notice tally (Some notice) = record tally { notifications = one_more tally.notifications }

abbrev pub with_taken : Tally → TakenContent → Tally
with_taken tally taken = with_notice (with_answer tally taken.reply) taken.notice

abbrev pub with_refused : Tally → Tally
with_refused tally = record tally { no_memory = one_more tally.no_memory }

-- what a call has given
abbrev pub with_reply : Tally → Reply → Tally
with_reply tally (replies.Take (Ok taken)) = with_taken tally taken
with_reply tally (replies.Sweep (Ok (Some id))) = record tally { swept = one_more tally.swept }
with_reply tally (replies.Take (Err refused)) = with_refused tally
with_reply tally (replies.Observe (Err observe_faults.NoMemory)) = with_refused tally
with_reply tally (replies.Cancel (Err observe_faults.NoMemory)) = with_refused tally
with_reply tally (replies.Send (Err refused)) = with_refused tally
with_reply tally (replies.Merge (Err (merge_faults.NoMemory joined))) = with_refused tally
with_reply tally (replies.Ask (Err refused)) = with_refused tally
with_reply tally reply = tally

-- a round, each of its calls, and what each of them has given
abbrev pub counted : Tally → List Call → List Reply → Tally
counted tally calls replies =
    fold with_reply (fold with_call (record tally { rounds = one_more tally.rounds }) calls) replies
