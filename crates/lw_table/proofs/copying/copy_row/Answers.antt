use Rattle.std.proofs.Common.{◌≡◌, ◌∙◌, None, Some, cond, false, true, sym, ap, subst, rules}
use Rattle.std.specs.Prelude.{bytes_eq, string_bytes}
use Rattle.lw_table.specs.declared.row.Row.{Row}
use Rattle.lw_table.specs.inner.Due.{OtherDue}
use Rattle.lw_table.specs.inner.Filed.{IsDueAs}
use Rattle.lw_table.specs.inner.Rows.{row_at}
use Rattle.lw_table.proofs.CopyLemmas.{absent_there, keys_copied, keys_past, numbers_copied, numbers_past}
use Rattle.lw_table.proofs.FiledLemmas.{on_ok}
use Rattle.lw_table.proofs.copying.copy_row.Goals as goal

pub add_row-requires-clause-filed : goal.add_row-requires-clause-filed
add_row-requires-clause-filed c =
    let named : string_bytes c.in_ok-name-in-Some.name ≡ c.args.endpoint.now = c.in_ok-name-in-Some.ensures.ok in
    let none : row_at c.args.rows.now c.args.endpoint.now ≡ None = absent_there _ c.get.result _ c.get.ensures.row (λ some. let bad : false ≡ true = c.if-is_some.ensures ∙ some in cc) in
    let due = subst (λ e. IsDueAs c.args.filed.now e None) (sym named) (subst (IsDueAs c.args.filed.now c.args.endpoint.now) none c.requires.due) in
    record { kept = due.kept; keys = keys_past c.args.filed.now.keys c.args.rows.now c.requires.keys; due = due.due }

pub add_row-requires-clause-numbers : goal.add_row-requires-clause-numbers
add_row-requires-clause-numbers c = numbers_past c.args.filed.now.numbers c.args.rows.now c.requires.numbers

pub returns-in_ok-name-in-Some-clause-copied : goal.returns-in_ok-name-in-Some-clause-copied
returns-in_ok-name-in-Some-clause-copied c =
    let rows = c.args.rows.now in
    let e = c.args.endpoint.now in
    let named : string_bytes c.in_ok-name-in-Some.name ≡ e = c.in_ok-name-in-Some.ensures.ok in
    let none : row_at rows e ≡ None = absent_there _ c.get.result _ c.get.ensures.row (λ some. let bad : false ≡ true = c.if-is_some.ensures ∙ some in cc) in
    let row : Row = record { slot = c.in_ok-slot-in-Some.slot; number = c.in-Some.row.now.number } in
    let is : Some row ≡ row_at c.args.original.now e = search rules in
    on_ok _ _ c.add_row.result
    (λ added. (
      record { at = λ k. added.0.at k ∙ (λ i. cond (bytes_eq (named i) k) (is i) (row_at rows k)); rows = added.0.rows },
      subst (IsDueAs c.add_row.new.filed e) is (subst (λ x. IsDueAs c.add_row.new.filed x (Some row)) named (record { kept = added.1.0.kept; due = added.1.0.due })),
      keys_copied rows c.add_row.new.rows (string_bytes c.in_ok-name-in-Some.name) row c.requires.rows (ap (row_at rows) named ∙ none) added.0 c.args.filed.now.keys c.add_row.new.filed.keys c.requires.keys c.add_row.ensures.others.keys added.1.0.keys,
      numbers_copied rows c.add_row.new.rows (string_bytes c.in_ok-name-in-Some.name) row c.requires.rows (ap (row_at rows) named ∙ none) added.0 c.args.filed.now.numbers c.add_row.new.filed.numbers c.requires.numbers added.1.1,
    ))
    c.add_row.ensures.added

pub returns-in_ok-name-in-Some-clause-others : goal.returns-in_ok-name-in-Some-clause-others
returns-in_ok-name-in-Some-clause-others c =
    let named : string_bytes c.in_ok-name-in-Some.name ≡ c.args.endpoint.now = c.in_ok-name-in-Some.ensures.ok in
    subst (λ e. OtherDue e c.args.filed.now.due c.add_row.new.filed.due) named c.add_row.ensures.others.due
