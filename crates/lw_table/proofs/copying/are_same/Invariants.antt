use Rattle.std.proofs.Common.{◌≡◌, ℕ, ◌<◌, Some, slice_get}
use Rattle.lw_table.specs.Rows.{name_of}
use Rattle.lw_table.specs.declared.rows.NamedRow.{NamedRow}
use Rattle.lw_table.specs.inner.Rows.{row_at}
use Rattle.lw_table.proofs.copying.are_same.Given as goal

-- the endpoint of each row that was passed has the same row in both
abbrev pub invariant-loop-named : goal.invariant-loop-named
invariant-loop-named l =
    (place : ℕ) (named : NamedRow) → slice_get l.rows.rows.items place ≡ Some named → place < l.named-index → row_at l.rows (name_of named) ≡ row_at l.others (name_of named)
