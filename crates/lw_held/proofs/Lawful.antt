-- The law of settled passes.
use Rattle.std.proofs.Common.{◌≡◌, ◌<◌, Some, refl, sym, subst, inl, inr, arith, length}
use Rattle.std.specs.Prelude.{slice_get}
use Rattle.std.proofs.lemmas.Option.{slice_get_cases}
use Rattle.lw_held.specs.Laws.{OwnOrder}
use Rattle.lw_held.specs.Transcript.{Transcript}
use Rattle.lw_held.proofs.Agreement.{same_some}

pub own_order : OwnOrder
own_order node passes settled i j k pass earlier later less first second earlier_of later_of =
    let fine = settled.fine later.place in
    let within : later.place < length settled.journal = fine.within i k pass later second (later_of, refl) in
    elim (slice_get_cases settled.journal later.place).1 [
      | inl w ↦
          let h = fine.held w.0 w.2 in
          let one = fine.alone i k h.i h.k pass h.pass later h.part second (later_of, refl) h.is h.of in
          let pass_is : pass ≡ h.pass = same_some pass h.pass _ second.pass_is (subst (λ m. slice_get passes m ≡ Some h.pass) (sym one.0) h.is.pass_is) in
          h.order j earlier (subst (λ m. j < m) one.1 less) (subst (λ (y : Transcript). slice_get y.parts j ≡ Some earlier) pass_is first.part_is) earlier_of
      | inr w ↦ absurd (let past = w.0 in omega (arith, past, within))
    ]
