-- Results that are made twice.
use Rattle.std.specs.Prelude.{Result, Ok, Err}

-- ---- each of a pair, or the refusal of both
abbrev pub first_of : {T E : Type 0} → Result (T × T) E → Result T E
first_of (Ok pair) = Ok pair.0
first_of (Err refused) = Err refused

abbrev pub second_of : {T E : Type 0} → Result (T × T) E → Result T E
second_of (Ok pair) = Ok pair.1
second_of (Err refused) = Err refused
