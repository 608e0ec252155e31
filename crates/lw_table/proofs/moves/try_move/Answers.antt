use Rattle.std.proofs.Common.{◌≡◌, ◌↔◌, Bool, true, false, Option, Some, refl, sym, ap, ◌∙◌, subst}
use Rattle.std.specs.Prelude.{IsTrue}
use Rattle.lw_due.specs.Due.{due_of, kept_of}
use Rattle.lw_table.specs.Due.{HasDue}
use Rattle.lw_table.specs.inner.Filed.{IsOver, NumbersRow}
use Rattle.lw_table.specs.inner.Moves.{moved_row}
use Rattle.lw_table.specs.declared.filed.Filed.{Filed}
use Rattle.lw_table.specs.declared.row.Row.{Row}
use Rattle.lw_reg.specs.declared.slot.Slot.{Slot}
use Rattle.lw_reg.specs.Reading.{IsRemoved}
use Rattle.lw_table.proofs.DueLemmas.{has_note}
use Rattle.lw_table.proofs.FiledLemmas.{due_then, keyed, numbered, numbers_stay, put_due}
use Rattle.lw_table.proofs.MoveLemmas.{err_not, err_then, over_old, over_moved, others_then, with_keys}
use Rattle.lw_table.proofs.moves.try_move.Goals as goal

pub returns-in_err-add_keys : goal.returns-in_err-add_keys
returns-in_err-add_keys c = record {
  others = keyed c.args.filed.now c.args.endpoint.now c.args.place c.add_keys.new.filed c.add_keys.ensures.others;
  numbers = numbers_stay c.args.place (Some c.args.row.now) c.args.filed.now.numbers c.args.filed.now.numbers refl c.requires.numbers;
  moved = err_not _ c.from_residual.result c.from_residual.ensures.0;
  unchanged = err_then _ c.from_residual.result (refl, over_old c.args.filed.now c.add_keys.new.filed c.args.endpoint.now c.args.place c.args.keys.now c.add_keys.ensures.between (Some c.args.row.now) c.requires.filed);
}

pub returns-in_err-join_with : goal.returns-in_err-join_with
returns-in_err-join_with c =
    let row = c.args.row.now in
    let e = c.args.endpoint.now in
    let p = c.args.place in
    let f = c.args.filed.now in
    let with_slot : Slot → Row = λ s. record { slot = s; number = row.number } in
    let same : with_slot c.join_with.new.self ≡ row = ap with_slot c.in_err-join_with.ensures.err in
    record {
      others = keyed f e p c.add_keys.new.filed c.add_keys.ensures.others;
      numbers = subst (λ r. NumbersRow p (Some r) f.numbers f.numbers) (sym same) (numbers_stay p (Some row) f.numbers f.numbers refl c.requires.numbers);
      moved = err_not _ c.from_residual-in_err-join_with.result c.from_residual-in_err-join_with.ensures.0;
      unchanged = err_then _ c.from_residual-in_err-join_with.result (
        same,
        subst (λ r. IsOver (with_keys c.add_keys.new.filed f.numbers f.due) e p (Some r) c.args.keys.now) (sym same)
            (over_old f c.add_keys.new.filed e p c.args.keys.now c.add_keys.ensures.between (Some row) c.requires.filed),
      );
    }

pub lower_due-requires : goal.lower_due-requires
lower_due-requires c =
    let was = c.requires.filed.due in
    record { at = was.at; is = was.is; by = λ d h. was.by d (sym c.deadline-before.ensures.value ∙ h) }

-- what was not removed was kept
was_kept : (o : Option Bool) (r : Bool) (slot : Slot) → (IsTrue r ↔ IsRemoved slot) → (o ≡ Some true) ↔ (IsRemoved slot → ⊥) → r ≡ false → o ≡ Some true
was_kept o r slot removed kept is = kept.1 (λ gone. (let bad : false ≡ true = sym is ∙ removed.1 gone in cc))

pub keep_revived-requires : goal.keep_revived-requires
keep_revived-requires c =
    let e = c.args.endpoint.now in
    let low = c.lower_due.ensures.due in
    record {
      there = has_note c.lower_due.new.due e c.join_with.new.self low;
      kept = λ is.
          c.lower_due.ensures.kept
          ∙ was_kept (kept_of e c.args.filed.now.due) c.is_removed-was_removed.result c.args.row.now.slot c.is_removed-was_removed.ensures c.requires.filed.kept is;
    }

pub returns : goal.returns
returns c =
    let row = c.args.row.now in
    let e = c.args.endpoint.now in
    let p = c.args.place in
    let f = c.args.filed.now in
    let keys = c.add_keys.new.filed in
    let with_slot : Slot → Row = λ s. record { slot = s; number = c.args.number } in
    let moved : with_slot c.join_with.new.self ≡ moved_row row c.args.slot c.args.number = ap with_slot c.in_ok-join_with.ensures.ok in
    let numbers = c.move_number.new.numbers in
    let due = c.keep_revived.new.due in
    let lowered = c.lower_due.new.due in
    let stays : due_of e due ≡ due_of e lowered = c.keep_revived.ensures.due in
    let is_due = subst (HasDue lowered e) c.in_ok-join_with.ensures.ok c.lower_due.ensures.due in
    let entered : Filed = record { keys = keys; numbers = f.numbers; due = f.due } in
    let numbered_so : Filed = record { keys = keys; numbers = numbers; due = f.due } in
    let after : Filed = record { keys = keys; numbers = numbers; due = due } in
    record {
      others = others_then e p f entered after (keyed f e p keys c.add_keys.ensures.others)
          (others_then e p entered numbered_so after (numbered entered e p numbers) (put_due numbered_so e p due (due_then e f.due lowered due c.lower_due.ensures.others c.keep_revived.ensures.others)));
      numbers = record { here = c.move_number.ensures.number; others = c.move_number.ensures.others };
      moved = (
        moved,
        subst (λ r. IsOver after e p (Some r) c.args.keys.now) (sym moved)
            (over_moved f keys e p c.args.keys.now c.add_keys.ensures.between c.in_ok-add_keys.ensures.all c.args.slot c.args.number numbers due
            row c.requires.filed c.requires.keys (record { at = is_due.at; is = stays ∙ is_due.is; by = is_due.by })
            (subst (λ s. (IsRemoved s → ⊥) → kept_of e due ≡ Some true) c.in_ok-join_with.ensures.ok c.keep_revived.ensures.kept)),
      );
      unchanged = tt;
    }
