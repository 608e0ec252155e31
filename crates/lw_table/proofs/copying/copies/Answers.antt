use Rattle.std.proofs.Common.{◌≡◌, ◌∷◌, ◌+◌, ◌<◌, ◌≤◌, ◌∙◌, drop, length, get_or, sym, ap, subst}
use Rattle.lw_table.proofs.CopyLemmas.{CopiedBut, all_copied, copy_due, first_left, names_in, names_none, names_step, none_copied, nothing_copied, row_copied}
use Rattle.lw_table.proofs.TableLemmas.{nothing_filed}
use Rattle.lw_table.proofs.copying.copies.Goals as goal

pub loop-named-init : goal.loop-named-init
loop-named-init c =
    let filed = c.new-filed.result in
    let rows = c.new-rows.result in
    let table = nothing_filed filed.keys filed.numbers filed.due rows c.new-rows.ensures.rows c.new-filed.ensures.keys c.new-filed.ensures.numbers c.new-filed.ensures.due c.new-rows.ensures.none in (
      c.new-rows.ensures.rows,
      nothing_copied filed rows c.new-rows.ensures.rows c.new-filed.ensures.keys c.new-filed.ensures.numbers c.new-filed.ensures.due c.new-rows.ensures.none,
      (λ p k. table.keys_are k p),
      table.numbers_are,
      none_copied c.args.original.now c.requires rows c.new-rows.ensures.none,
    )

pub copy_row-requires-clause-begun : goal.copy_row-requires-clause-begun
copy_row-requires-clause-begun c =
    let original = c.args.original.now in
    let items = original.rows.items in
    let index = c.loop-named.named-index in
    let item = c.named-item.result in
    let within : index < length items = subst (λ xs. index < length xs) c.deref-named-items.ensures.value c.loop-named-test.true in
    let is : item ≡ get_or items index item = subst (λ xs. item ≡ get_or xs index item) c.deref-named-items.ensures.value c.named-item.is in
    let but = subst (CopiedBut original c.loop-named.rows) (names_step items index item within is ∙ ap (λ e. e ∷ names_in (drop (index + 1) items)) (sym c.as_str.ensures.value)) c.loop-named.invariant.4 in
    first_left original c.loop-named.rows c.as_str.result.now _ but

pub loop-named-preserved : goal.loop-named-preserved
loop-named-preserved c =
    let original = c.args.original.now in
    let items = original.rows.items in
    let index = c.loop-named.named-index in
    let item = c.named-item.result in
    let within : index < length items = subst (λ xs. index < length xs) c.deref-named-items.ensures.value c.loop-named-test.true in
    let is : item ≡ get_or items index item = subst (λ xs. item ≡ get_or xs index item) c.deref-named-items.ensures.value c.named-item.is in
    let but = subst (CopiedBut original c.loop-named.rows) (names_step items index item within is ∙ ap (λ e. e ∷ names_in (drop (index + 1) items)) (sym c.as_str.ensures.value)) c.loop-named.invariant.4 in
    let copied = c.in_ok-copy_row.ensures.copied in (
      copied.0.rows,
      copy_due original c.loop-named.rows c.copy_row.new.rows c.as_str.result.now copied.0 c.loop-named.filed c.copy_row.new.filed c.copy_row.ensures.others copied.1 c.loop-named.invariant.1,
      copied.2,
      copied.3,
      row_copied original c.loop-named.rows c.copy_row.new.rows c.as_str.result.now copied.0 _ but,
    )

pub returns : goal.returns
returns c =
    let items = c.args.original.now.rows.items in
    let index = c.loop-named.named-index in
    let past : length items ≤ index = subst (λ xs. length xs ≤ index) c.deref-named-items.ensures.value c.loop-named-test.false in
    record {
      same = all_copied c.args.original.now c.loop-named.rows (names_in (drop index items)) (names_none items index past) c.loop-named.invariant.4;
      are_rows = c.loop-named.invariant.0;
      each_due = c.loop-named.invariant.1;
      keyed = c.loop-named.invariant.2;
      numbered = c.loop-named.invariant.3;
    }
