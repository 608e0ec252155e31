use Rattle.std.proofs.Common.{length, chars}
use Rattle.lw_link.specs.Characters.{is_plain_char}
use Rattle.lw_link.proofs.Checks.{IsSame}
use Rattle.lw_link.proofs.checking.is_plain.Given as goal

abbrev pub invariant-loop-c : goal.invariant-loop-c
invariant-loop-c l = IsSame is_plain_char l.scanner (chars l.text)

abbrev pub decreases-loop-c : goal.decreases-loop-c
decreases-loop-c l = length l.scanner
