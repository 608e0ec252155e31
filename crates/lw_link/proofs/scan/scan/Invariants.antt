use Rattle.std.proofs.Common.{◌≤◌, length}
use Rattle.lw_link.proofs.Scanned.{IsScanned}
use Rattle.lw_link.proofs.scan.scan.Given as goal

abbrev pub invariant-loop-c : goal.invariant-loop-c
invariant-loop-c l = IsScanned l.style l.text l.state l.links l.place l.scanner

abbrev pub decreases-loop-c : goal.decreases-loop-c
decreases-loop-c l = length l.scanner

abbrev pub invariant-loop-count : goal.invariant-loop-count
invariant-loop-count l = IsScanned l.style l.text l.state l.links l.place l.scanner × (length l.scanner ≤ length l.initial.scanner)

abbrev pub decreases-loop-count : goal.decreases-loop-count
decreases-loop-count l = length l.scanner
