use Rattle.lw_stamp.specs.Moment.{ms_of}
use Rattle.lw_reg.specs.Reading.{shown_in}
use Rattle.uses.proofs.Rising.{FoundSoFar}
use Rattle.uses.proofs.naming.names.Given as goal

abbrev pub invariant-loop : goal.invariant-loop
invariant-loop l = FoundSoFar (shown_in l.node.table.state) (ms_of l.now) l.names.items
