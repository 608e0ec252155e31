-- The lines of the registrations so far were added.
use Rattle.std.proofs.Common.{◌≡◌, ◌++◌, take}
use Rattle.std.specs.Prelude.{string_bytes}
use Rattle.registry.specs.Fleet.{fleet_lines}
use Rattle.registry.proofs.fleet.fleet_text.Given as goal

abbrev pub invariant-loop-seen : goal.invariant-loop-seen
invariant-loop-seen l = string_bytes l.text ≡ l.head ++ fleet_lines (take l.seen-index l.seen-items)
