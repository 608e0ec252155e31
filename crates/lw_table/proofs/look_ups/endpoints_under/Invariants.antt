use Rattle.std.proofs.Common.{map}
use Rattle.lw_table.specs.inner.Rows.{IsFiledUnder}
use Rattle.lw_table.proofs.SinceLemmas.{Gathers}
use Rattle.lw_table.proofs.look_ups.endpoints_under.Given as goal

-- the endpoints that were taken, and those of the places that are left, are all
abbrev pub invariant-loop-place : goal.invariant-loop-place
invariant-loop-place l =
    (goal.iterator-loop-place).can_next l.place-iterator × (goal.iterator-loop-place).is_finite l.place-iterator
    × Gathers l.rows (map (λ x. x.now) l.endpoints.items) l.place-iterator (IsFiledUnder l.rows l.keys l.fn.key)
