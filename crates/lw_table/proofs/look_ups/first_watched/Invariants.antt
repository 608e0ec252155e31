use Rattle.lw_stamp.specs.Moment.{ms_of}
use Rattle.lw_reg.specs.Reading.{has_token}
use Rattle.lw_table.specs.declared.key.Key.TheVariants.{Token}
use Rattle.lw_table.specs.inner.Found.{watch_cmp, watch_with}
use Rattle.lw_table.proofs.PlaceLemmas.{IsWalked}
use Rattle.lw_table.proofs.look_ups.first_watched.Given as goal

-- of the places that were passed the least is found
abbrev pub invariant-loop-place : goal.invariant-loop-place
invariant-loop-place l =
    (goal.iterator-loop-place).can_next l.place-iterator × (goal.iterator-loop-place).is_finite l.place-iterator
    × IsWalked watch_cmp (watch_with (has_token l.token) (ms_of l.now)) l.rows l.keys (Token l.token) l.place-iterator l.first
