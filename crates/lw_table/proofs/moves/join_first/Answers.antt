use Rattle.std.proofs.Common.{◌≡◌, None, Some, length, refl, sym, ap, ◌∙◌, subst, rules}
use Rattle.std.specs.Prelude.{string_bytes, unwrap_or}
use Rattle.std.specs.Vec.{with_item}
use Rattle.lw_table.specs.inner.Filed.{HasNumber, IsFiled}
use Rattle.lw_table.specs.Table.{number_of}
use Rattle.lw_table.specs.inner.Moves.{FilesRow, IsKnown}
use Rattle.lw_table.specs.Rows.{place_of}
use Rattle.lw_table.specs.inner.Rows.{row_from, spot_of}
use Rattle.lw_table.specs.declared.rows.Rows.{Rows}
use Rattle.lw_table.proofs.FiledLemmas.{on_err}
use Rattle.lw_table.proofs.JoinLemmas.{if_ok, joined_at}
use Rattle.lw_table.proofs.RowLemmas.{at_place, put_again, row_is_written, row_there}
use Rattle.lw_table.proofs.moves.join_first.Goals as goal

-- ---- no row has the endpoint
pub add_row-requires-clause-filed : goal.add_row-requires-clause-filed
add_row-requires-clause-filed c =
    let m = c.args.rows.now in
    let e = string_bytes c.args.endpoint in
    let none : place_of m e ≡ None = search rules in
    subst (λ p. IsFiled c.args.filed.now e p None) (ap (λ o. unwrap_or o (length m.rows.items)) none)
    (subst (IsFiled c.args.filed.now e (spot_of m e)) (ap (row_from m.rows.items) none) c.requires.filed)

pub add_row-requires-clause-numbers : goal.add_row-requires-clause-numbers
add_row-requires-clause-numbers c =
    let m = c.args.rows.now in
    let e = string_bytes c.args.endpoint in
    let numbers = c.args.filed.now.numbers in
    let none : place_of m e ≡ None = search rules in
    subst (λ p. HasNumber numbers p None) (ap (λ o. unwrap_or o (length m.rows.items)) none)
    (subst (λ o. HasNumber numbers (spot_of m e) (number_of o)) (ap (row_from m.rows.items) none) c.requires.numbers)

-- ---- one has
pub join_row-requires : goal.join_row-requires
join_row-requires c =
    let m = c.args.rows.now in
    let e = string_bytes c.args.endpoint in
    let numbers = c.args.filed.now.numbers in
    let named = c.index_mut-named.result.now in
    let place = c.in-Some.place in
    let is : place_of m e ≡ Some place = search rules in
    let row = row_there m e place named is (at_place m c.requires.rows e place named is c.index_mut-named.ensures.value) in
    record {
      filed = subst (λ x. IsFiled c.args.filed.now x place (Some named.row)) (sym c.as_str-name.ensures.value)
          (subst (λ p. IsFiled c.args.filed.now e p (Some named.row)) (ap (λ o. unwrap_or o (length m.rows.items)) is) (subst (IsFiled c.args.filed.now e (spot_of m e)) row c.requires.filed));
      numbers = subst (λ p. HasNumber numbers p (Some named.row.number)) (ap (λ o. unwrap_or o (length m.rows.items)) is)
          (subst (λ o. HasNumber numbers (spot_of m e) (number_of o)) row c.requires.numbers);
    }

pub returns-in-Some-clause-joined : goal.returns-in-Some-clause-joined
returns-in-Some-clause-joined c =
    let m = c.args.rows.now in
    let e = string_bytes c.args.endpoint in
    let was = c.args.filed.now in
    let after = c.join_row.new.filed in
    let named = c.index_mut-named.result.now in
    let place = c.in-Some.place in
    let is : place_of m e ≡ Some place = search rules in
    let there = at_place m c.requires.rows e place named is c.index_mut-named.ensures.value in
    let row = c.join_row.new.row in
    let n : Rows = record m { rows = with_item m.rows place (record named { row = row }) } in
    let filed : FilesRow e (spot_of m e) (Some row) was after = subst (λ p. FilesRow e p (Some row) was after) (sym (ap (λ o. unwrap_or o (length m.rows.items)) is))
    (subst (λ x. FilesRow x place (Some row) was after) c.as_str-name.ensures.value c.join_row.ensures.filed) in
    if_ok _ _ c.join_row.result
    (joined_at e c.args.slot c.args.number was after m n named.row row (sym (row_there m e place named is there))
    (row_is_written m n e place named row c.requires.rows is there refl refl refl) filed)
    c.join_row.ensures.joined

pub returns-in-Some-clause-known : goal.returns-in-Some-clause-known
returns-in-Some-clause-known c =
    let m = c.args.rows.now in
    let e = string_bytes c.args.endpoint in
    let named = c.index_mut-named.result.now in
    let place = c.in-Some.place in
    let is : place_of m e ≡ Some place = search rules in
    let row = row_there m e place named is (at_place m c.requires.rows e place named is c.index_mut-named.ensures.value) in
    λ known. c.join_row.ensures.known (subst (λ o. IsKnown o c.args.slot) row known)

pub returns-in-Some-clause-unchanged : goal.returns-in-Some-clause-unchanged
returns-in-Some-clause-unchanged c =
    let m = c.args.rows.now in
    let e = string_bytes c.args.endpoint in
    let before = c.args.filed.now in
    let after = c.join_row.new.filed in
    let named = c.index_mut-named.result.now in
    let place = c.in-Some.place in
    let is : place_of m e ≡ Some place = search rules in
    let there = at_place m c.requires.rows e place named is c.index_mut-named.ensures.value in
    let was = row_there m e place named is there in
    let row = c.join_row.new.row in
    let n : Rows = record m { rows = with_item m.rows place (record named { row = row }) } in
    let put = row_is_written m n e place named row c.requires.rows is there refl refl refl in
    let filed : FilesRow e (spot_of m e) (Some row) before after = subst (λ p. FilesRow e p (Some row) before after) (sym (ap (λ o. unwrap_or o (length m.rows.items)) is))
    (subst (λ x. FilesRow x place (Some row) before after) c.as_str-name.ensures.value c.join_row.ensures.filed) in
    on_err _ _ c.join_row.result
    (λ same. (
      put_again m n e row put (ap Some same ∙ sym was),
      subst (λ o. FilesRow e (spot_of m e) o before after) (ap Some same ∙ sym was) filed,
    ))
    c.join_row.ensures.unchanged
