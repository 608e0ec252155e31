use Rattle.std.proofs.Common.{None}
use Rattle.lw_stamp.specs.Moment.{ms_of}
use Rattle.lw_reg.specs.Reading.{shown_in}
use Rattle.registry.specs.Walk.{AreMet}
use Rattle.registry.proofs.fleet.fleet.Given as goal

abbrev pub invariant-loop : goal.invariant-loop
invariant-loop l = AreMet (shown_in l.node.table.state) (ms_of l.now) None l.all.items
