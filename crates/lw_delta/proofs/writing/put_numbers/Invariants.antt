use Rattle.std.proofs.Common.{◌≡◌, ◌++◌, drop}
use Rattle.lw_delta.specs.Writing.{Begins, numbers_bytes}
use Rattle.lw_delta.proofs.writing.put_numbers.Given as goal

abbrev pub invariant-loop-number : goal.invariant-loop-number
invariant-loop-number l = record {
  written : l.out.items ++ numbers_bytes (drop l.number-index l.numbers) ≡ l.fn.out.items ++ numbers_bytes l.numbers;
  kept : Begins l.fn.out.items l.out.items;
}
