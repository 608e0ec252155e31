use Rattle.std.proofs.Common.{◌≡◌, ◌∙◌, false, true, sym, subst}
use Rattle.lw_reg.specs.Slot.{slot_below}
use Rattle.lw_reg.specs.SlotLaws.{slot_laws}
use Rattle.lw_table.proofs.row.is_same_slot.Goals as goal

pub returns-then-le : goal.returns-then-le
returns-then-le c = (
  λ h. slot_laws.antisymmetric c.args.slot.now c.args.other.now (c.le.ensures.0 c.if-le.true) (c.le-then-le.ensures.0 h),
  λ same. c.le-then-le.ensures.1 (subst (λ s. slot_below s c.args.slot.now) same (slot_laws.reflexive c.args.slot.now)),
)

pub returns-else-le : goal.returns-else-le
returns-else-le c = (
  λ h. absurd (let bad : false ≡ true = sym c.if-le.false ∙ h in cc),
  λ same. c.le.ensures.1 (subst (slot_below c.args.slot.now) same (slot_laws.reflexive c.args.slot.now)),
)
