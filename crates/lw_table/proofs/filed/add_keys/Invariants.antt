use Rattle.lw_table.proofs.FiledLemmas.{Adding}
use Rattle.lw_table.proofs.filed.add_keys.Given as goal

abbrev pub invariant-loop-key : goal.invariant-loop-key
invariant-loop-key l = Adding l.place l.keys l.initial.filed l.filed l.key-index
