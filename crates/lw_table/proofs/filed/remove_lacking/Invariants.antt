use Rattle.std.specs.Option.{option_copied}
use Rattle.lw_table.specs.Table.{slot_of}
use Rattle.lw_table.proofs.FiledLemmas.{Dropping}
use Rattle.lw_table.proofs.filed.remove_lacking.Given as goal

abbrev pub invariant-loop-key : goal.invariant-loop-key
invariant-loop-key l = Dropping l.place (slot_of (option_copied l.row)) l.keys l.initial.filed l.filed l.key-index
