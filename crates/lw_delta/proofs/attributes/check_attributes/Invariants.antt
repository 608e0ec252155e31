use Rattle.std.proofs.Common.{◌≡◌, ◌+◌, ◌≤◌, ℕ, List, length}
use Rattle.std.specs.Option.{option_copied}
use Rattle.lw_join.specs.declared.last.Last.{Last}
use Rattle.lw_delta.specs.Format.{attribute}
use Rattle.lw_delta.proofs.Parts.{Walked}
use Rattle.lw_delta.proofs.attributes.check_attributes.Given as goal

abbrev pub invariant-loop-next : goal.invariant-loop-next
invariant-loop-next l = (es : List (List ℕ × Last (List ℕ))) × Walked (attribute l.clock) (λ a. a.0) l.bytes es (option_copied l.after) l.rest × (l.count ≡ length es) × (l.count + length l.rest ≤ length l.bytes)

abbrev pub decreases-loop-next : goal.decreases-loop-next
decreases-loop-next l = length l.rest
