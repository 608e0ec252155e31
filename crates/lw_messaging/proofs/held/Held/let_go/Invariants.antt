-- The same are left of these as of all; and each step leaves fewer.
use Rattle.std.proofs.Common.{◌≡◌, length}
use Rattle.lw_messaging.specs.Replies.{let_go}
use Rattle.lw_messaging.proofs.held.Held.let_go.Given as goal

abbrev pub invariant-loop-now : goal.invariant-loop-now
invariant-loop-now l = let_go l.now l.self ≡ let_go l.now l.initial.self

abbrev pub decreases-loop-now : goal.decreases-loop-now
decreases-loop-now l = length l.self
