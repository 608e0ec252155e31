use Rattle.std.proofs.Common.{◌≡◌, take, length}
use Rattle.lw_delta.specs.Part.{Found}
use Rattle.lw_delta.specs.Format.{numbers}
use Rattle.lw_delta.proofs.watches.path_numbers.Given as goal

abbrev pub invariant-loop-n : goal.invariant-loop-n
invariant-loop-n l = record {
  found : Found (numbers l.n) l.bytes (take l.n l.numbers) l.rest;
  len : length l.numbers ≡ 4;
}
