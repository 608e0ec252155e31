-- The values of the Observe option in a request (RFC 7641, section 2).
use Rattle.std.specs.Prelude.{ℕ}
use Rattle.lw_node.specs.declared.request.Observe.{Observe}
use Rattle.lw_node.specs.declared.request.Observe.TheVariants.{Register, Deregister}

abbrev pub observe_number : Observe → ℕ
observe_number Register = 0
observe_number Deregister = 1
