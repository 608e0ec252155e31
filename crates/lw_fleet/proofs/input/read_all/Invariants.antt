-- What was read is the front of all bytes, and has room left.
use Rattle.std.proofs.Common.{◌+◌, ◌-◌, ◌≤◌, vec_len}
use Rattle.std.specs.Io.KnownBytes.{Consumes}
use Rattle.lw_fleet.specs.declared.input.TheConstants.{LONGEST}
use Rattle.lw_fleet.proofs.input.read_all.Given as goal

abbrev pub invariant-loop-bytes : goal.invariant-loop-bytes
invariant-loop-bytes g l = record {
  front : Consumes (g.R.Read.remaining l.initial.reader) (g.R.Read.remaining l.reader) l.bytes.items;
  fits : vec_len l.bytes ≤ LONGEST;
}

abbrev pub decreases-loop-bytes : goal.decreases-loop-bytes
decreases-loop-bytes g l = LONGEST + 1 - vec_len l.bytes
