use Rattle.std.proofs.Common.{inl, inr, ap, Some, refl, sym, subst}
use Rattle.lw_table.specs.inner.Filed.{OtherNumbers}
use Rattle.lw_table.proofs.FiledLemmas.{either, on_ok, same_numbers, one_number}
use Rattle.lw_table.proofs.filed.add_number.Goals as goal

pub returns-clause-others : goal.returns-clause-others
returns-clause-others c =
    either _ _ (OtherNumbers c.args.place c.args.numbers.now c.add.new.self) c.add.result c.add.ensures.added c.add.ensures.unchanged
    (λ added. record { same = λ n p other. (λ h. elim ((added n p).0 h) [ inl was ↦ was | inr pair ↦ absurd (other pair.1) ], λ h. (added n p).1 (inl h)) })
    (λ same. subst (OtherNumbers c.args.place c.args.numbers.now) (sym same) (same_numbers c.args.place c.args.numbers.now))

pub returns-clause-number : goal.returns-clause-number
returns-clause-number c = on_ok _ _ c.add.result
    (λ added n. (
      λ h. elim ((added n c.args.place).0 h) [ inl was ↦ absurd (let none = (c.requires n).0 was in cc) | inr pair ↦ ap Some (sym pair.0) ],
      λ h. (added n c.args.place).1 (inr (sym (one_number c.args.number n h), refl)),
    ))
    c.add.ensures.added
