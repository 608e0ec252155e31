use Rattle.std.proofs.Common.{◌≡◌, ◌++◌, drop}
use Rattle.lw_reg.specs.Reading.{watches_of}
use Rattle.lw_table.specs.inner.KeyChanges.{turned_tokens}
use Rattle.lw_table.proofs.key_changes.push_turned.Given as goal

abbrev pub invariant-loop-path : goal.invariant-loop-path
invariant-loop-path l = l.keys.items ++ turned_tokens (watches_of l.old) (drop l.path-index l.watches) ≡ l.initial.keys.items ++ turned_tokens (watches_of l.old) l.watches
