-- What was read of the line is its front, and has room left.
use Rattle.std.proofs.Common.{◌+◌, ◌-◌, ◌≤◌, vec_len}
use Rattle.lw_fleet.specs.declared.input.TheConstants.{LONGEST}
use Rattle.lw_fleet.proofs.InputLemmas.{Begun}
use Rattle.lw_fleet.proofs.input.read_line.Given as goal

abbrev pub invariant-loop-line : goal.invariant-loop-line
invariant-loop-line g l = record {
  begun : Begun (g.R.Read.remaining l.initial.reader) (g.R.Read.remaining l.reader) l.line.items;
  fits : vec_len l.line ≤ LONGEST;
}

abbrev pub decreases-loop-line : goal.decreases-loop-line
decreases-loop-line g l = LONGEST + 1 - vec_len l.line
