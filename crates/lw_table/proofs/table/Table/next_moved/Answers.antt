use Rattle.std.proofs.Common.{◌≡◌, ◌<◌, ◌∙◌, get_or, slice_get, ltb-true, rules, Some, refl, sym, ap, subst, length, ltb-false, arith}
use Rattle.std.proofs.lemmas.Option.{slice_get_read, slice_get_within}
use Rattle.lw_table.proofs.RowLemmas.{held_row, row_there}
use Rattle.lw_table.proofs.TableLemmas.{get-state}
use Rattle.lw_table.specs.Rows.{name_of}
use Rattle.lw_table.specs.Table.{slot_of, TableContent}
use Rattle.lw_table.specs.declared.rows.NamedRow.{NamedRow}
use Rattle.std.specs.Option.{IsSomeAnd}
use Rattle.std.specs.Prelude.{option_map}
use Rattle.std.specs.FinMap.{get}
use Rattle.lw_table.specs.inner.Changes.{IsNextChange}
use Rattle.lw_table.proofs.PlaceLemmas.{numbers_under}
use Rattle.lw_table.proofs.table.Table.next_moved.Goals as goal

pub returns-in_err-number : goal.returns-in_err-number
returns-in_err-number c =
    let m = c.self.inside.rows in
    let now = c.args.self.now in
    subst (λ o. IsNextChange now.state now.count c.args.since (option_map (λ x. (x.number, (x.endpoint.now, x.slot.now))) o)) (sym c.from_residual.ensures)
    (λ n e h.
    let under = (numbers_under m c.self.invariant.0 c.self.inside.filed.numbers c.self.invariant.1.numbers_are n e).1 (subst (λ (t : TableContent). get t.count.numbers e ≡ Some n) (sym c.self.view_is) h) in
    c.in_err-number.ensures n under.0 under.1)

pub returns-in_err-named : goal.returns-in_err-named
returns-in_err-named c =
    let m = c.self.inside.rows in
    let place = c.in_ok-number.place in
    let row = held_row m place c.in_ok-number.number ((c.self.invariant.1.numbers_are c.in_ok-number.number place).0 c.in_ok-number.ensures.0) in
    let within = slice_get_within m.rows.items place row.0 row.1 in
    let past = ltb-false _ _ (sym c.in_err-named.ensures.lookup.0) in
    let same = ap length c.deref.ensures.value in
    absurd (omega (arith, within, past, same))

pub returns : goal.returns
returns c =
    let m = c.self.inside.rows in
    let items = m.rows.items in
    let now = c.args.self.now in
    let numbers = c.self.inside.filed.numbers in
    let number = c.in_ok-number.number in
    let place = c.in_ok-number.place in
    let named = c.in_ok-named.named.now in
    let next = c.in_ok-number.ensures in
    let given : named ≡ get_or c.deref.result.now place named = search rules in
    let at : named ≡ get_or items place named = subst (λ xs. named ≡ get_or xs place named) c.deref.ensures.value given in
    let below = ltb-true _ _ (sym c.in_ok-named.ensures.lookup.0) in
    let within : place < length items = subst (λ xs. place < length xs) c.deref.ensures.value below in
    let is : slice_get items place ≡ Some named = slice_get_read items (length items) place named refl within at in
    let under = numbers_under m c.self.invariant.0 numbers c.self.invariant.1.numbers_are in
    let row = row_there m (name_of named) place named (c.self.invariant.0.found place named is) is in
    let counted = (under number (name_of named)).0 (place, next.0, subst (λ o. IsSomeAnd o (λ (x : NamedRow). name_of x ≡ name_of named)) (sym is) refl) in
    let slot = get-state m c.self.invariant.0 (name_of named) ∙ ap slot_of row in (
      subst (λ e. get now.count.numbers e ≡ Some number) (sym c.as_str.ensures.value) (subst (λ (t : TableContent). get t.count.numbers (name_of named) ≡ Some number) c.self.view_is counted),
      subst (λ e. get now.state e ≡ Some named.row.slot) (sym c.as_str.ensures.value) (subst (λ (t : TableContent). get t.state (name_of named) ≡ Some named.row.slot) c.self.view_is slot),
      next.1,
      λ n e h less.
          let there = (under n e).1 (subst (λ (t : TableContent). get t.count.numbers e ≡ Some n) (sym c.self.view_is) h) in
          next.2 n there.0 there.1 less,
    )
