use Rattle.std.proofs.Common.{◌≡◌, drop}
use Rattle.std.specs.Prelude.{find}
use Rattle.lw_stamp.specs.Moment.{ms_of}
use Rattle.lw_messaging.specs.Bodies.{continues}
use Rattle.lw_messaging.proofs.kept.begun.Given as goal

abbrev pub invariant-loop-body : goal.invariant-loop-body
invariant-loop-body l =
    find (continues (ms_of l.arrival.now) l.arrival.from l.options l.offset) l.bodies
    ≡ find (continues (ms_of l.arrival.now) l.arrival.from l.options l.offset) (drop l.body-index l.bodies)
