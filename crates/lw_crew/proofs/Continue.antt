-- Transcripts that continue keep their numbers.
use Rattle.std.proofs.Common.{◌≡◌, ℕ, ◌<◌, List, length, Some, sym, ◌∙◌, inl, inr, arith}
use Rattle.std.specs.Prelude.{slice_get}
use Rattle.std.proofs.lemmas.Option.{slice_get_within, slice_get_cases}
use Rattle.lw_held.specs.Transcript.{Transcript}
use Rattle.lw_held.specs.Agree.{AreDistinct}
use Rattle.lw_crew.specs.Continues.{AllContinue}

there : {A : Type 0} (xs : List A) (i : ℕ) → i < length xs → (x : A) × (slice_get xs i ≡ Some x)
there xs i l = elim (slice_get_cases xs i).1 [ inl w ↦ (w.0, w.2) | inr w ↦ absurd (omega (arith, w.0)) ]

pub distinct_after : (xs ys : List Transcript) → AllContinue xs ys → AreDistinct xs → AreDistinct ys
distinct_after xs ys c d = λ i j x y p q same.
    let li : i < length xs = omega (arith, slice_get_within ys i x p, c.len) in
    let lj : j < length xs = omega (arith, slice_get_within ys j y q, c.len) in
    let a = there xs i li in
    let b = there xs j lj in
    d i j a.0 b.0 a.1 b.1 (sym (c.each i a.0 x a.1 p).number ∙ same ∙ (c.each j b.0 y b.1 q).number)
