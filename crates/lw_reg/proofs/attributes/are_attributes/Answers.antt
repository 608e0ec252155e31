use Rattle.std.proofs.Common.{ℕ, List}
use Rattle.lw_reg.specs.Attribute.{IsAttribute}
use Rattle.lw_reg.proofs.AttributeLemmas.{each_next, same_attribute}
use Rattle.lw_reg.proofs.attributes.are_attributes.Goals as goal

pub loop-name-preserved : goal.loop-name-preserved
loop-name-preserved c =
    each_next (λ (a : List ℕ × List ℕ). IsAttribute a.0 a.1) c.args.pairs.now c.loop-name.name-index c.loop-name-item.result c.loop-name-test.true c.loop-name-item.is c.loop-name.invariant
    (same_attribute c.as_str.result.now c.as_str-in-loop-name.result.now _ _ c.as_str.ensures c.as_str-in-loop-name.ensures (c.is_attribute.ensures.0 c.if-not-is_attribute.false))
