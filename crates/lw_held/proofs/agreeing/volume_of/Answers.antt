use Rattle.std.proofs.Common.{ℕ, inl, inr, arith}
use Rattle.std.proofs.lemmas.Option.{slice_get_within}
use Rattle.std.proofs.lemmas.Bool.{cases_lt}
use Rattle.lw_held.specs.inner.Looks.{HasPart}
use Rattle.lw_held.proofs.Agreement.{none_wide}
use Rattle.lw_held.proofs.agreeing.volume_of.Goals as goal

pub returns-in-None-clause-none : goal.returns-in-None-clause-none
returns-in-None-clause-none c =
    none_wide c.volume_within-in-None.result _ ((i : ℕ) → HasPart c.args.node c.args.volumes.now c.args.part.now i → ⊥)
    (λ below i has. elim (cases_lt i c.args.start) [
      | inl lt ↦ below i (omega arith) lt has
      | inr from ↦ c.in-None.ensures.none i (omega (arith, from)) (slice_get_within c.args.volumes.now i has.0 has.1.0) has
    ])
    c.volume_within-in-None.ensures.none
