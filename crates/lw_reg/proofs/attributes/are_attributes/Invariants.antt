use Rattle.std.proofs.Common.{ℕ, List, take}
use Rattle.std.specs.List.{AllByRecursion}
use Rattle.lw_reg.specs.Attribute.{IsAttribute}
use Rattle.lw_reg.proofs.attributes.are_attributes.Given as goal

abbrev pub invariant-loop-name : goal.invariant-loop-name
invariant-loop-name l = AllByRecursion (λ (a : List ℕ × List ℕ). IsAttribute a.0 a.1) (take l.name-index l.pairs)
