use Rattle.std.proofs.Common.{◌≡◌, ◌↔◌, Bool, Option, Some, true, false, not, refl, sym, subst, ◌∙◌}
use Rattle.std.specs.Prelude.{IsTrue}
use Rattle.lw_due.specs.Due.{kept_of}
use Rattle.lw_reg.specs.declared.slot.Slot.{Slot}
use Rattle.lw_reg.specs.Reading.{IsRemoved}
use Rattle.lw_table.specs.Due.{HasDue}
use Rattle.lw_table.specs.inner.Due.{OtherDue}
use Rattle.lw_table.proofs.DueLemmas.{has_put, kept_put, others_put}
use Rattle.lw_table.proofs.FiledLemmas.{either, on_ok, same_due}
use Rattle.lw_table.proofs.filed.add_due.Goals as goal

pub returns-clause-others : goal.returns-clause-others
returns-clause-others c =
    let e = c.args.endpoint.now in
    let xs = c.args.due.now in
    either _ _ (OtherDue e xs c.add.new.self) c.add.result c.add.ensures.added c.add.ensures.unchanged
    (λ added. subst (OtherDue e xs) (sym added) (others_put e (not c.is_removed.result) c.unwrap_or-moment.result xs))
    (λ same. subst (OtherDue e xs) (sym same) (same_due e xs))

pub returns-clause-due : goal.returns-clause-due
returns-clause-due c = on_ok _ _ c.add.result
    (λ added. subst (λ xs. HasDue xs c.args.endpoint.now c.args.slot.now) (sym added)
    (has_put c.args.endpoint.now (not c.is_removed.result) c.unwrap_or-moment.result c.args.due.now c.args.slot.now (rw (← c.deadline.ensures.value) c.unwrap_or-moment.ensures)))
    c.add.ensures.added

-- kept, where the registration was not removed
kept_where : (o : Option Bool) (r : Bool) (slot : Slot) → (IsTrue r ↔ IsRemoved slot) → o ≡ Some (not r) → (o ≡ Some true) ↔ (IsRemoved slot → ⊥)
kept_where o true slot h is = (λ k. (let bad : Some false ≡ Some true = sym is ∙ k in cc), λ here. absurd (here (h.0 refl)))
kept_where o false slot h is = (λ k gone. (let bad : false ≡ true = h.1 gone in cc), λ here. is)

pub returns-clause-kept : goal.returns-clause-kept
returns-clause-kept c = on_ok _ _ c.add.result
    (λ added. kept_where (kept_of c.args.endpoint.now c.add.new.self) c.is_removed.result c.args.slot.now c.is_removed.ensures
    (subst (λ xs. kept_of c.args.endpoint.now xs ≡ Some (not c.is_removed.result)) (sym added) (kept_put c.args.endpoint.now (not c.is_removed.result) c.unwrap_or-moment.result c.args.due.now)))
    c.add.ensures.added
