use Rattle.std.proofs.Common.{◌≡◌, ◌≤◌, length, string_bytes}
use Rattle.lw_link.specs.declared.style.Style.TheVariants.{Any}
use Rattle.lw_link.specs.inner.Machine.{read_on}
use Rattle.lw_link.specs.inner.Taking.{with_text}
use Rattle.lw_link.proofs.reading.run_of.Given as goal

abbrev pub invariant-loop-c : goal.invariant-loop-c
invariant-loop-c l =
    (read_on Any l.fn.state l.fn.scanner ≡ with_text (string_bytes l.text) (read_on Any l.fn.state l.scanner))
    × (length l.scanner ≤ length l.fn.scanner)

abbrev pub decreases-loop-c : goal.decreases-loop-c
decreases-loop-c l = length l.scanner
