use Rattle.std.proofs.Common.{◌≡◌, ◌↔◌, Bool, true, false, refl, sym}
use Rattle.lw_due.specs.Knots.{entries_in}
use Rattle.lw_due.proofs.LeastLemmas.{any_due}
use Rattle.lw_due.proofs.knot.has.Goals as goal

-- two answers to one question
same_answer : (a b : Bool) (P : Type 0) → (a ≡ true) ↔ P → P ↔ (b ≡ true) → a ≡ b
same_answer true b P h k = sym (k.0 (h.0 refl))
same_answer false true P h k = h.1 (k.1 refl)
same_answer false false P h k = refl

pub returns-in-DueBy : goal.returns-in-DueBy
returns-in-DueBy c = rw c.in-DueBy.is (same_answer c.is_due.result _ _ c.is_due.ensures.least (any_due c.in-DueBy.now (entries_in c.args.tree.now) c.is_due.ensures.in_range))
