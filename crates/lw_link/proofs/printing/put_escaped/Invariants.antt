use Rattle.std.proofs.Common.{◌≡◌, ◌++◌, chars, string_bytes, length}
use Rattle.lw_link.specs.Printing.{escaped_all}
use Rattle.lw_link.proofs.printing.put_escaped.Given as goal

abbrev pub invariant-loop-c : goal.invariant-loop-c
invariant-loop-c l = string_bytes l.out ++ escaped_all l.scanner ≡ string_bytes l.fn.out ++ escaped_all (chars l.text)

abbrev pub decreases-loop-c : goal.decreases-loop-c
decreases-loop-c l = length l.scanner
