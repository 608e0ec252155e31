use Rattle.std.proofs.Common.{◌≡◌, ◌↔◌, true, sym, ◌∙◌, subst}
use Rattle.std.specs.Prelude.{IsTrue}
use Rattle.lw_stamp.specs.declared.stamp.Stamp.{Stamp}
use Rattle.lw_stamp.specs.contracts.stamp.StampPartialEq.TheImpl as stamps
use Rattle.lw_reg.specs.Reading.{IsRemoved}
use Rattle.lw_table.specs.Keys.{HasKey}
use Rattle.lw_table.proofs.KeyLemmas.{stamp_same, stamp_itself}
use Rattle.lw_table.proofs.key.has.Goals as goal

pub returns-then-not-is_removed : goal.returns-then-not-is_removed
returns-then-not-is_removed c =
    let here : IsRemoved c.args.slot.now → ⊥ = λ gone. let removed = c.is_removed.ensures.1 gone in absurd cc in
    subst (λ k. IsTrue c.eq.result ↔ HasKey c.args.slot.now k) (sym c.in-Id.is) (
      λ h. (here, sym c.stamp.ensures ∙ stamp_same c.stamp.result c.in-Id.id (sym c.eq.ensures ∙ h)),
      λ h. c.eq.ensures ∙ subst (λ (x : Stamp). (stamps.ghosts).eq c.stamp.result x ≡ true) (c.stamp.ensures ∙ h.1) (stamp_itself c.stamp.result),
    )
