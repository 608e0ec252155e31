use Rattle.std.proofs.Common.{List, ℕ}
use Rattle.lw_table.specs.Due.{OptionHasDue}
use Rattle.lw_table.specs.inner.Due.{KeepsKept}
use Rattle.lw_table.specs.Table.{slot_of}
use Rattle.lw_table.specs.inner.Rows.{row_at}
use Rattle.lw_table.proofs.DueLemmas.{due_count}
use Rattle.lw_table.proofs.lifts.raise_due.Given as goal

-- each due moment that was not after the deadline of its slot is not yet, and each endpoint is kept as before
abbrev pub invariant-loop-endpoint : goal.invariant-loop-endpoint
invariant-loop-endpoint l =
    ((e : List ℕ) → OptionHasDue l.initial.due e (slot_of (row_at l.rows e)) → OptionHasDue l.due e (slot_of (row_at l.rows e)))
    × KeepsKept l.initial.due l.due

abbrev pub decreases-loop-endpoint : goal.decreases-loop-endpoint
decreases-loop-endpoint l = due_count l.now l.due
