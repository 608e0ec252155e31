use Rattle.std.proofs.Common.{length}
use Rattle.std.specs.List.{slice_split}
use Rattle.lw_route.specs.Parameters.{is_ampersand}
use Rattle.lw_route.proofs.PartLemmas.{GoesOn}
use Rattle.lw_route.proofs.parameters.Parameters.read_parts.Given as goal

abbrev pub invariant-loop-part : goal.invariant-loop-part
invariant-loop-part l = (goal.iterator-loop-part).can_next l.part-iterator
    × (goal.iterator-loop-part).is_finite l.part-iterator
    × GoesOn l.form (slice_split is_ampersand l.parts) (length l.yielded) l.parameters
