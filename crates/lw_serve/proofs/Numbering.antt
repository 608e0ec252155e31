-- Passes stand at the places of their numbers, from their beginning on.
use Rattle.std.proofs.Common.{◌≡◌, ℕ, ◌<◌, List, length, Some, ap, ◌∙◌, inl, inr, arith}
use Rattle.std.specs.Prelude.{slice_get}
use Rattle.std.proofs.lemmas.Option.{slice_get_within, slice_get_cases}
use Rattle.lw_held.specs.Shelves.{AreNew}
use Rattle.lw_held.specs.Transcript.{Transcript}
use Rattle.lw_crew.specs.Continues.{AllContinue}
use Rattle.lw_serve.specs.inner.Rounds.{AreNumbered}

pub there : {A : Type 0} (xs : List A) (i : ℕ) → i < length xs → (x : A) × (slice_get xs i ≡ Some x)
there xs i l = elim (slice_get_cases xs i).1 [ inl w ↦ (w.0, w.2) | inr w ↦ absurd (omega (arith, w.0)) ]

pub numbered_after : (old new : List Transcript) → AllContinue old new → AreNumbered old → AreNumbered new
numbered_after old new continues numbered = λ i pass at.
    let below : i < length old = omega (arith, slice_get_within new i pass at, continues.len) in
    let before = there old i below in
    (continues.each i before.0 pass before.1 at).number ∙ numbered i before.0 before.1

pub numbered_new : (passes : List Transcript) → AreNew passes → AreNumbered passes
numbered_new passes new = λ i pass at. ap (λ (p : Transcript). p.number) (new i pass at)
