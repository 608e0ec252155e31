use Rattle.std.proofs.Common.{◌≤◌, length}
use Rattle.lw_link.proofs.Parts.{IsTakingAttrs}
use Rattle.lw_link.proofs.reading.attrs.Given as goal

abbrev pub invariant-loop-alloc : goal.invariant-loop-alloc
invariant-loop-alloc l = IsTakingAttrs l.fn.scanner l.scanner l.attrs.items × (length l.scanner ≤ length l.fn.scanner)

abbrev pub decreases-loop-alloc : goal.decreases-loop-alloc
decreases-loop-alloc l = length l.scanner
