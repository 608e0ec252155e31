use Rattle.std.proofs.Common.{◌≡◌, Some, length, refl, sym, ap, subst, rules}
use Rattle.std.specs.Prelude.{unwrap_or}
use Rattle.std.specs.Vec.{with_item}
use Rattle.lw_table.specs.inner.Filed.{HasNumber, OtherNumbers}
use Rattle.lw_table.specs.Table.{number_of}
use Rattle.lw_table.specs.inner.Moves.{WasSeen}
use Rattle.lw_table.specs.Rows.{place_of}
use Rattle.lw_table.specs.inner.Rows.{spot_of}
use Rattle.lw_table.specs.declared.rows.Rows.{Rows}
use Rattle.lw_table.proofs.RowLemmas.{at_place, row_is_written, row_there}
use Rattle.lw_table.proofs.lifts.lift.Goals as goal

pub lift_row-requires-clause-numbers : goal.lift_row-requires-clause-numbers
lift_row-requires-clause-numbers c =
    let m = c.args.rows.now in
    let e = c.args.endpoint.now in
    let named = c.index_mut-named.result.now in
    let is : place_of m e ≡ Some c.in-Some.place = search rules in
    let row = row_there m e c.in-Some.place named is (at_place m c.requires.rows e c.in-Some.place named is c.index_mut-named.ensures.value) in
    subst (λ p. HasNumber c.args.numbers.now p (Some named.row.number)) (ap (λ o. unwrap_or o (length m.rows.items)) is)
    (subst (λ o. HasNumber c.args.numbers.now (spot_of m e) (number_of o)) row c.requires.numbers)

pub lift_row-requires-clause-seen : goal.lift_row-requires-clause-seen
lift_row-requires-clause-seen c =
    let m = c.args.rows.now in
    let e = c.args.endpoint.now in
    let named = c.index_mut-named.result.now in
    let is : place_of m e ≡ Some c.in-Some.place = search rules in
    subst WasSeen (row_there m e c.in-Some.place named is (at_place m c.requires.rows e c.in-Some.place named is c.index_mut-named.ensures.value)) c.requires.seen

pub returns-clause-lifted : goal.returns-clause-lifted
returns-clause-lifted c =
    let m = c.args.rows.now in
    let e = c.args.endpoint.now in
    let named = c.index_mut-named.result.now in
    let place = c.in-Some.place in
    let is : place_of m e ≡ Some place = search rules in
    let there = at_place m c.requires.rows e place named is c.index_mut-named.ensures.value in
    let row = c.lift_row.new.row in
    let n : Rows = record m { rows = with_item m.rows place (record named { row = row }) } in
    record {
      was = named.row;
      is = row_there m e place named is there;
      row = row;
      lifted = c.lift_row.ensures.lifted;
      put = row_is_written m n e place named row c.requires.rows is there refl refl refl;
    }

pub returns-clause-others : goal.returns-clause-others
returns-clause-others c =
    let m = c.args.rows.now in
    let is : place_of m c.args.endpoint.now ≡ Some c.in-Some.place = search rules in
    subst (λ p. OtherNumbers p c.args.numbers.now c.lift_row.new.numbers) (sym (ap (λ o. unwrap_or o (length m.rows.items)) is)) c.lift_row.ensures.others

pub returns-clause-number : goal.returns-clause-number
returns-clause-number c =
    let m = c.args.rows.now in
    let is : place_of m c.args.endpoint.now ≡ Some c.in-Some.place = search rules in
    subst (λ p. HasNumber c.lift_row.new.numbers p (Some c.args.number)) (sym (ap (λ o. unwrap_or o (length m.rows.items)) is)) c.lift_row.ensures.number
