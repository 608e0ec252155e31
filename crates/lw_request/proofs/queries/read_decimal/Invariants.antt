use Rattle.std.proofs.Common.{◌≡◌, ◌<◌, ◌^◌, take}
use Rattle.std.specs.List.{AllByRecursion}
use Rattle.lw_request.specs.Queries.{IsDigit, decimal_value}
use Rattle.lw_request.proofs.queries.read_decimal.Given as goal

abbrev pub invariant-loop-digit : goal.invariant-loop-digit
invariant-loop-digit l = record {
  value : l.number ≡ decimal_value (take l.digit-index l.digits);
  bound : l.number < 10 ^ l.digit-index;
  digits : AllByRecursion IsDigit (take l.digit-index l.digits);
}
