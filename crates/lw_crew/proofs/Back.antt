-- One more pass that came back.
use Rattle.std.proofs.Common.{◌≡◌, ℕ, List, [], ◌∷◌, ◌++◌, length, length-append, Some, ap, subst, ◌⊎◌, inl, inr, arith}
use Rattle.std.specs.Prelude.{slice_get}
use Rattle.std.proofs.lemmas.Option.{slice_get_within}
use Rattle.lw_held.specs.Transcript.{Transcript}
use Rattle.lw_crew.specs.Continues.{Continues, AllContinue}
use Rattle.lw_crew.proofs.Slots.{get_push}

pub one_back : (old xs ys new : List Transcript) (x y : Transcript) → old ≡ xs ++ x ∷ [] → AllContinue xs ys → Continues x y → new ≡ ys ++ y ∷ [] → AllContinue old new
one_back old xs ys new x y before all one after = record {
  len = let a : length new ≡ length (ys ++ y ∷ []) = ap length after in let b : length old ≡ length (xs ++ x ∷ []) = ap length before in omega (arith, all.len, length-append ys (y ∷ []), length-append xs (x ∷ []));
  each = λ i a b p q. both i a b (get_push xs x i a (subst (λ zs. slice_get zs i ≡ Some a) before p)) (get_push ys y i b (subst (λ zs. slice_get zs i ≡ Some b) after q));
}
  where
    both : (i : ℕ) (a b : Transcript) → ((slice_get xs i ≡ Some a) ⊎ ((i ≡ length xs) × (x ≡ a))) → ((slice_get ys i ≡ Some b) ⊎ ((i ≡ length ys) × (y ≡ b))) → Continues a b
    both i a b u v = elim u [
      | inl p ↦ elim v [ inl q ↦ all.each i a b p q | inr q ↦ absurd (omega (arith, slice_get_within xs i a p, q.0, all.len)) ]
      | inr p ↦ elim v [ inl q ↦ absurd (omega (arith, slice_get_within ys i b q, p.0, all.len)) | inr q ↦ subst (λ c. Continues c b) p.1 (subst (λ c. Continues x c) q.1 one) ]
    ]
