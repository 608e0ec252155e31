use Rattle.std.proofs.Common.{◌≡◌, ◌++◌}
use Rattle.lw_reg.proofs.WriteLemmas.{stamped_pairs}
use Rattle.lw_reg.proofs.atoms.written.Given as goal

-- the writes, and those of the pairs that are left, are all
abbrev pub invariant-loop-name : goal.invariant-loop-name
invariant-loop-name l = l.writes.items ++ stamped_pairs l.stamp l.name-iterator.rest.items ≡ stamped_pairs l.fn.stamp l.fn.attributes
