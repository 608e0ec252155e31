use Rattle.std.proofs.Common.{◌≡◌, ◌++◌, map, drop}
use Rattle.lw_node.specs.Effects.{segment}
use Rattle.lw_node.proofs.request.push_segments.Given as goal

abbrev pub invariant-loop-number : goal.invariant-loop-number
invariant-loop-number l = l.options.items ++ map segment (drop l.number-index l.numbers) ≡ l.initial.options.items ++ map segment l.numbers
