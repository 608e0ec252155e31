use Rattle.std.proofs.Common.{◌≡◌, inl, inr, sym, subst, ◌∙◌}
use Rattle.std.proofs.lemmas.Bool.{cases_Bool}
use Rattle.lw_index.specs.Places.{IsPlaceOf}
use Rattle.lw_index.proofs.TextLemmas.{unchanged_at}
use Rattle.lw_index.proofs.PlaceLemmas.{has_iff, one_less, Fewer}
use Rattle.lw_index.proofs.places.Places.drop_one.Goals as goal

pub invariant_of-self : goal.invariant_of-self
invariant_of-self g c = λ k p h.
    c.self.invariant k p ((one_less g.met.K.Ord.total g.met.K.Exact.exact c.self.inside.pairs c.remove.new.self c.args.key c.args.place c.remove.ensures.updates.0 k p).0 h).0

pub returns-clause-dropped : goal.returns-clause-dropped
returns-clause-dropped g c =
    subst (Fewer c.remove.new.self.keys c.args.key c.args.place) c.self.view_is
    (one_less g.met.K.Ord.total g.met.K.Exact.exact c.self.inside.pairs c.remove.new.self c.args.key c.args.place c.remove.ensures.updates.0)

pub returns-clause-absent : goal.returns-clause-absent
returns-clause-absent g c = λ h.
    elim (cases_Bool c.remove.result) [
      | inl same ↦
          let there = (has_iff g.met.K.Ord.total g.met.K.Exact.exact c.self.inside.pairs c.args.key c.args.place).0 (sym c.remove.ensures.test ∙ same) in
          absurd (h (subst (λ l. IsPlaceOf l c.args.key c.args.place) c.self.view_is there))
      | inr other ↦ unchanged_at {P = c.remove.new.self.keys ≡ c.self.inside.pairs.keys} c.remove.result c.remove.ensures.unchanged other ∙ c.self.view_is
    ]
