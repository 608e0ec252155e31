use Rattle.std.proofs.Common.{◌≡◌, fold, take}
use Rattle.lw_metrics.specs.Counting.{with_reply}
use Rattle.lw_metrics.proofs.tally.Tally.count_replies.Given as goal

abbrev pub invariant-loop-reply : goal.invariant-loop-reply
invariant-loop-reply l = l.self ≡ fold with_reply l.initial.self (take l.reply-index l.replies)
