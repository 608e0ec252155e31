-- Texts that are put together from parts.
use Rattle.std.specs.Prelude.{◌≡◌, ◌⊎◌, ℕ, List, [], ◌∷◌, ◌++◌, map}
use Rattle.std.specs.List.{flat_map, zip}
use Rattle.std.proofs.Common.{refl, sym, ap, ◌∙◌, subst, inl, inr, arith}
use Rattle.std.proofs.lemmas.List.{append-nil}
use Rattle.std.proofs.lemmas.Grind.{common_steps}
use Rattle.lw_metrics.specs.Exposition.{Family, exposition}
use Rattle.lw_metrics.specs.Families.{sums}

zip-nil : {A B : Type 0} (xs : List A) → zip {K = A} {X = B} xs [] ≡ []
zip-nil [] = refl
zip-nil (x ∷ xs) = refl

-- where no pair is left, all of the text is there
pub all_put : {A B C : Type 0} (f : C → List ℕ) (g : A × B → C) (xs : List A) (ys : List B) (text whole : List ℕ)
    → (xs ≡ []) ⊎ (ys ≡ []) → text ++ flat_map f (map g (zip xs ys)) ≡ whole → text ≡ whole
all_put {A} {B} f g xs ys text whole (inl none) is =
    sym (append-nil text) ∙ subst (λ (left : List A). text ++ flat_map f (map g (zip left ys)) ≡ whole) none is
all_put {A} {B} f g xs ys text whole (inr none) is =
    sym (append-nil text) ∙ rw zip-nil at (subst (λ (left : List B). text ++ flat_map f (map g (zip xs left)) ≡ whole) none is)

-- where no bucket is left, all of the text is there
pub buckets_put : {A C : Type 0} (now : A → List ℕ) (f : C → List ℕ) (g : List ℕ × ℕ → C) (bounds : List A) (before : ℕ) (counts : List ℕ) (text whole : List ℕ)
    → (bounds ≡ []) ⊎ (counts ≡ []) → text ++ flat_map f (map g (zip (map now bounds) (sums before counts))) ≡ whole → text ≡ whole
buckets_put now f g bounds before counts text whole (inl none) is =
    all_put f g (map now bounds) (sums before counts) text whole (inl (ap (map now) none)) is
buckets_put now f g bounds before counts text whole (inr none) is =
    all_put f g (map now bounds) (sums before counts) text whole (inr (ap (sums before) none)) is

-- two parts, each put behind what is there
pub two_parts : (old middle new : List ℕ) (a b : List Family) → middle ≡ old ++ exposition a → new ≡ middle ++ exposition b
    → new ≡ old ++ exposition (a ++ b)
two_parts old middle new a b first second = grind (arith, common_steps)

-- eight parts, each put behind what is there
pub eight_parts : (none first second third fourth fifth sixth seventh eighth : List ℕ) (a b c d e f g h : List Family)
    → none ≡ [] → first ≡ none ++ exposition a → second ≡ first ++ exposition b → third ≡ second ++ exposition c
    → fourth ≡ third ++ exposition d → fifth ≡ fourth ++ exposition e → sixth ≡ fifth ++ exposition f
    → seventh ≡ sixth ++ exposition g → eighth ≡ seventh ++ exposition h
    → eighth ≡ exposition (a ++ (b ++ (c ++ (d ++ (e ++ (f ++ (g ++ h)))))))
eight_parts none first second third fourth fifth sixth seventh eighth a b c d e f g h is_none is_first is_second is_third is_fourth is_fifth is_sixth is_seventh is_eighth =
    grind (arith, common_steps)
