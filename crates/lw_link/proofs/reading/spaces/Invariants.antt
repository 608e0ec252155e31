use Rattle.std.proofs.Common.{◌≡◌, ◌≤◌, length}
use Rattle.lw_link.specs.declared.style.Style.TheVariants.{Any}
use Rattle.lw_link.specs.declared.state.State.TheVariants.{Comma, Semicolon}
use Rattle.lw_link.specs.inner.Machine.{read_on}
use Rattle.lw_link.proofs.reading.spaces.Given as goal

abbrev pub invariant-loop-scanner : goal.invariant-loop-scanner
invariant-loop-scanner l =
    (read_on Any Comma l.fn.scanner ≡ read_on Any Comma l.scanner)
    × (read_on Any Semicolon l.fn.scanner ≡ read_on Any Semicolon l.scanner)
    × (length l.scanner ≤ length l.fn.scanner)

abbrev pub decreases-loop-scanner : goal.decreases-loop-scanner
decreases-loop-scanner l = length l.scanner
