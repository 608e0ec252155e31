use Rattle.std.proofs.Common.{◌≡◌, ◌<◌, inl, inr, length, get_or, slice_get, refl, sym, ap, ◌∙◌, subst, arith}
use Rattle.std.proofs.lemmas.Bool.{cases_lt}
use Rattle.std.proofs.lemmas.Option.{slice_get_read}
use Rattle.lw_table.specs.Rows.{name_of}
use Rattle.lw_table.specs.inner.Rows.{row_at}
use Rattle.lw_table.proofs.RowLemmas.{some_same}
use Rattle.lw_table.proofs.copying.are_same.Goals as goal

pub loop-named-preserved : goal.loop-named-preserved
loop-named-preserved c =
    let m = c.args.rows.now in
    let index = c.loop-named.named-index in
    let item = c.named-item.result in
    let within : index < length m.rows.items = subst (λ xs. index < length xs) c.deref-named-items.ensures.value c.loop-named-test.true in
    let is : item ≡ get_or m.rows.items index item = subst (λ xs. item ≡ get_or xs index item) c.deref-named-items.ensures.value c.named-item.is in
    λ place named there below. elim (cases_lt place index) [
      | inl before ↦ c.loop-named.invariant place named there before
      | inr after ↦
          let here : place ≡ index = omega (arith, below, after) in
          let same : item ≡ named = some_same item named (sym (slice_get_read m.rows.items (length m.rows.items) index item refl within is) ∙ ap (slice_get m.rows.items) (sym here) ∙ there) in
          subst (λ e. row_at m e ≡ row_at c.args.others.now e) (c.as_str.ensures.value ∙ ap name_of same) (c.if-not-has_same.ensures.0 refl)
    ]
