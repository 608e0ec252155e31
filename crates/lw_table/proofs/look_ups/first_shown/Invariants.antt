use Rattle.lw_stamp.specs.Moment.{ms_of}
use Rattle.lw_table.specs.inner.Found.{view_cmp, view_with}
use Rattle.lw_table.proofs.PlaceLemmas.{IsWalked}
use Rattle.lw_table.proofs.look_ups.first_shown.Given as goal

-- of the places that were passed the least is found
abbrev pub invariant-loop-place : goal.invariant-loop-place
invariant-loop-place l =
    (goal.iterator-loop-place).can_next l.place-iterator × (goal.iterator-loop-place).is_finite l.place-iterator
    × IsWalked view_cmp (view_with (ms_of l.now)) l.rows l.keys l.fn.key l.place-iterator l.first
