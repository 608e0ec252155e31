use Rattle.std.proofs.Common.{◌≡◌, ◌++◌, map, drop}
use Rattle.lw_messaging.specs.FetchMessages.{segment}
use Rattle.lw_messaging.proofs.fetch_messages.segments.Given as goal

abbrev pub invariant-loop-number : goal.invariant-loop-number
invariant-loop-number l = l.options.items ++ map segment (drop l.number-index l.numbers) ≡ map segment l.numbers
