use Rattle.std.proofs.Common.{◌≡◌, inl, inr, not, refl, sym, ap, subst, ◌∙◌, arith}
use Rattle.lw_index.specs.Places.{IsPlaceOf}
use Rattle.lw_index.proofs.TextLemmas.{unchanged_at}
use Rattle.lw_index.proofs.PlaceLemmas.{has_iff, one_more, More}
use Rattle.lw_index.proofs.places.Places.add.Goals as goal

pub invariant_of-self : goal.invariant_of-self
invariant_of-self g c = λ k p h. c.self.invariant k p (subst (λ l. IsPlaceOf l k p) c.in_err-insert.ensures.err h)

pub returns-in_err-insert-clause-present : goal.returns-in_err-insert-clause-present
returns-in_err-insert-clause-present g c = λ h.
    let there = (has_iff g.met.K.Ord.total g.met.K.Exact.exact c.self.inside.pairs c.args.key c.args.place).1 (subst (λ l. IsPlaceOf l c.args.key c.args.place) (sym c.self.view_is) h) in
    let absent = c.in_err-insert.ensures.absent in absurd cc

pub invariant_of-self-2 : goal.invariant_of-self-2
invariant_of-self-2 g c = λ k p h.
    elim ((one_more g.met.K.Ord.total g.met.K.Exact.exact c.self.inside.pairs c.insert.new.self c.args.key c.args.place c.in_ok-insert.ensures.updates.0 k p).0 h) [
      | inl there ↦ c.self.invariant k p there
      | inr pair ↦ let is = pair.1 in let fits = c.ranges.place.fits in omega (arith, is, fits)
    ]

pub returns-clause-added : goal.returns-clause-added
returns-clause-added g c =
    subst (More c.insert.new.self.keys c.args.key c.args.place) c.self.view_is
    (one_more g.met.K.Ord.total g.met.K.Exact.exact c.self.inside.pairs c.insert.new.self c.args.key c.args.place c.in_ok-insert.ensures.updates.0)

pub returns-clause-present : goal.returns-clause-present
returns-clause-present g c = λ h.
    let there = (has_iff g.met.K.Ord.total g.met.K.Exact.exact c.self.inside.pairs c.args.key c.args.place).1 (subst (λ l. IsPlaceOf l c.args.key c.args.place) (sym c.self.view_is) h) in
    (refl, unchanged_at {P = c.insert.new.self.keys ≡ c.self.inside.pairs.keys} c.in_ok-insert.field-0 c.in_ok-insert.ensures.unchanged (c.in_ok-insert.ensures.added ∙ ap not there) ∙ c.self.view_is)
