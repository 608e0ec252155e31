use Rattle.std.proofs.Common.{drop}
use Rattle.lw_table.specs.Rows.{IsRows}
use Rattle.lw_table.specs.inner.Copying.{KeysAll, NumbersAll}
use Rattle.lw_table.proofs.CopyLemmas.{AllDue, CopiedBut, names_in}
use Rattle.lw_table.proofs.copying.copies.Given as goal

-- each row that was passed is copied, and filed as it is
abbrev pub invariant-loop-named : goal.invariant-loop-named
invariant-loop-named l =
    IsRows l.rows × AllDue l.filed l.rows × KeysAll l.filed.keys l.rows × NumbersAll l.filed.numbers l.rows × CopiedBut l.original l.rows (names_in (drop l.named-index l.original.rows.items))
