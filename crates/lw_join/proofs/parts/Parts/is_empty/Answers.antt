use Rattle.std.proofs.Common.{◌≡◌, ◌==◌, ◌↔◌, List, [], ◌∷◌, Bool, IsTrue, length, refl, arith}
use Rattle.std.proofs.lemmas.Bool.Decides.{nat_tests}
use Rattle.lw_join.proofs.parts.Parts.is_empty.Goals as goal

no_length : {A : Type 0} (xs ys : List A) (r : Bool) → xs ≡ ys → r ≡ (length xs == 0) → IsTrue r ↔ (ys ≡ [])
no_length xs [] r e h = (λ _. refl, λ _. rw e at h)
no_length xs (y ∷ ys) r e h = let some : r ≡ (length (y ∷ ys) == 0) = rw e at h in (λ t. absurd (grind (arith, nat_tests)), λ n. absurd (grind arith))

pub returns : goal.returns
returns g c = no_length _ _ _ c.as_slice.ensures c.is_empty.ensures
