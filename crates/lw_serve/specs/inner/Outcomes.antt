-- The reply to a job, found in a transcript.
use Rattle.std.specs.Prelude.{ℕ, List, Option, None, option_map, Ok}
use Rattle.lw_reg.specs.declared.addr.Addr.{Addr}
use Rattle.lw_call.specs.declared.call.Call.{Call}
use Rattle.lw_call.specs.declared.call.Call.TheVariants as calls
use Rattle.lw_call.specs.declared.reply.Reply.{Reply}
use Rattle.lw_call.specs.declared.reply.Reply.TheVariants as replies
use Rattle.lw_held.specs.declared.entry.Part.{Part}

-- where the reply to a datagram goes, and its bytes
abbrev pub reply_to : Call → Reply → Option (Addr × List ℕ)
reply_to (calls.Take now from bytes) (replies.Take (Ok taken)) = option_map (λ reply. (from, reply)) taken.reply
reply_to call reply = None

abbrev pub reply_in : Part → Option (Addr × List ℕ)
reply_in part = reply_to part.entry.call part.entry.reply
