use Rattle.std.proofs.Common.{◌≡◌, take}
use Rattle.lw_log.specs.Calls.{placed, place_of}
use Rattle.lw_replica.specs.Reading.{place_read}
use Rattle.lw_replica.proofs.looking.last_place.Given as goal

abbrev pub invariant-loop-position : goal.invariant-loop-position
invariant-loop-position l = place_of l.after ≡ place_read (place_of l.fn.before) (placed (take l.position-index l.page))
