-- The line that `fleet replay` prints of what comes of an event: words with one space between each two, and a line feed.
use Rattle.std.specs.Prelude.{ℕ, List, [], ◌∷◌, ◌++◌, Option, Some, None, Result, Ok, Err, codes}
use Rattle.std.specs.Fmt.{decimal}
use Rattle.std.specs.List.{join_with_byte}
use Rattle.hex.specs.Hex.{encode_lower}
use Rattle.serde_json.specs.Written.{compact_text}
use Rattle.lw_stamp.specs.declared.stamp.Stamp.{Stamp}
use Rattle.lw_stamp.specs.Stamp.{id_of}
use Rattle.lw_reg.specs.Addr.{addr_text}
use Rattle.lw_delta.specs.declared.fault.DeltaFault.{DeltaFault}
use Rattle.lw_delta.specs.declared.fault.DeltaFault.TheVariants as delta_faults
use Rattle.lw_call.specs.declared.answer.Answer.{Answer}
use Rattle.lw_call.specs.declared.answer.Answer.TheVariants as answers
use Rattle.lw_call.specs.declared.clock_end.ClockEnd.{ClockEnd}
use Rattle.lw_call.specs.declared.merge_fault.MergeFault.{MergeFault}
use Rattle.lw_call.specs.declared.merge_fault.MergeFault.TheVariants as merge_faults
use Rattle.lw_call.specs.declared.observe_fault.ObserveFault.{ObserveFault}
use Rattle.lw_call.specs.declared.observe_fault.ObserveFault.TheVariants as observe_faults
use Rattle.lw_call.specs.Contents.{NoticeContent, TakenContent, OutgoingContent}
use Rattle.lw_world.specs.declared.outcome.Outcome.{Outcome}
use Rattle.lw_world.specs.declared.outcome.Outcome.TheVariants as outcomes
use Rattle.lw_json.specs.Answer.{reply_text}
use Rattle.lw_json.specs.Json.{registration_json, watch_json, stale_json, notice_json}

-- a word of its own
abbrev pub only : List ℕ → List (List ℕ)
only text = text ∷ []

abbrev pub no_memory : List (List ℕ)
no_memory = only (codes "no memory")

-- the notice, or a hyphen where there is none
abbrev pub notice_text : Option NoticeContent → List ℕ
notice_text None = codes "-"
notice_text (Some notice) = compact_text (notice_json notice)

abbrev pub taken_words : TakenContent → List (List ℕ)
taken_words taken = codes "taken" ∷ reply_text taken.reply ∷ notice_text taken.notice ∷ []

-- a request that is sent: its token, where it goes, and its bytes
abbrev pub sent_words : OutgoingContent → List (List ℕ)
sent_words outgoing = codes "sent" ∷ id_of outgoing.token ∷ addr_text outgoing.to ∷ encode_lower outgoing.bytes ∷ []

-- the request, or why none is sent
abbrev pub command_words : Result OutgoingContent ObserveFault → List (List ℕ)
command_words (Ok outgoing) = sent_words outgoing
command_words (Err observe_faults.NotFound) = codes "refused" ∷ codes "1" ∷ []
command_words (Err observe_faults.ClockEnd) = codes "refused" ∷ codes "2" ∷ []
command_words (Err observe_faults.NoMemory) = no_memory

-- the registration that has ended, or none, or why none ends
abbrev pub swept_words : Result (Option Stamp) ClockEnd → List (List ℕ)
swept_words (Ok (Some id)) = codes "swept" ∷ id_of id ∷ []
swept_words (Ok None) = only (codes "none")
swept_words (Err ended) = codes "refused" ∷ codes "1" ∷ []

abbrev pub found_text : Answer → List ℕ
found_text (answers.Registration None) = codes "none"
found_text (answers.Registration (Some shown)) = compact_text (registration_json shown)
found_text (answers.Watched None) = codes "none"
found_text (answers.Watched (Some found)) = compact_text (watch_json found.0 found.1)
found_text (answers.Expired None) = codes "none"
found_text (answers.Expired (Some found)) = compact_text (stale_json found.0 found.1)
found_text (answers.Changed number) = decimal number

-- by what bytes are no delta
abbrev pub fault_number : DeltaFault → ℕ
fault_number delta_faults.Magic = 1
fault_number delta_faults.Truncated = 2
fault_number delta_faults.Order = 3
fault_number delta_faults.Range = 4
fault_number delta_faults.Text = 5
fault_number delta_faults.ClockBelow = 6
fault_number delta_faults.Trailing = 7
fault_number delta_faults.NoMemory = 8

-- No message of a run is malformed.
abbrev pub delivery_words : Result ℕ MergeFault → List (List ℕ)
delivery_words (Ok joined) = codes "joined" ∷ decimal joined ∷ []
delivery_words (Err (merge_faults.Malformed fault)) = codes "malformed" ∷ decimal (fault_number fault) ∷ []
delivery_words (Err (merge_faults.NoMemory joined)) = no_memory

-- the words of an outcome; the bytes are those of the message, where it is one that was sent
abbrev pub outcome_words : Outcome → List ℕ → List (List ℕ)
outcome_words (outcomes.Taken (Ok taken)) bytes = taken_words taken
outcome_words (outcomes.Taken (Err refused)) bytes = no_memory
outcome_words (outcomes.Observed outcome) bytes = command_words outcome
outcome_words (outcomes.Cancelled outcome) bytes = command_words outcome
outcome_words (outcomes.Swept outcome) bytes = swept_words outcome
outcome_words (outcomes.Answered (Ok answer)) bytes = only (found_text answer)
outcome_words (outcomes.Answered (Err refused)) bytes = no_memory
outcome_words (outcomes.Sent (Ok sending)) bytes = codes "message" ∷ decimal sending.message ∷ decimal sending.change ∷ encode_lower bytes ∷ []
outcome_words (outcomes.Sent (Err refused)) bytes = no_memory
outcome_words (outcomes.Delivered outcome) bytes = delivery_words outcome
outcome_words outcomes.NoSuchNode bytes = only (codes "no node")
outcome_words outcomes.NoSuchMessage bytes = only (codes "no message")

abbrev pub outcome_text : Outcome → List ℕ → List ℕ
outcome_text outcome bytes = join_with_byte 32 (outcome_words outcome bytes) ++ 10 ∷ []
