-- What a step of reading comes to where memory may be refused.
use Rattle.std.specs.Prelude.{Result, Ok, Err}
use Rattle.lw_route.specs.declared.error.RouteError.{RouteError}
use Rattle.lw_route.specs.declared.fault.Fault.{Fault}
use Rattle.lw_route.specs.declared.fault.Fault.TheVariants as fault

-- the answer holds, if no memory was refused
abbrev pub IsAnswered : {V : Type 0} → (Result V RouteError → Type 0) → Result V Fault → Type 0
IsAnswered Answer (Ok value) = Answer (Ok value)
IsAnswered Answer (Err (fault.Route error)) = Answer (Err error)
IsAnswered Answer (Err fault.NoMemory) = Unit {0}
