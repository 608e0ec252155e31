-- Lists that are put together and cut.
use Rattle.std.proofs.Common.{◌≡◌, ℕ, suc, ◌<◌, List, [], ◌∷◌, ◌++◌, length, refl, sym, ap, ◌∙◌, inl, inr, arith}
use Rattle.std.specs.Prelude.{◌⊎◌}
use Rattle.std.proofs.lemmas.List.{append_assoc, length-append}

-- of two beginnings of one list, one is a beginning of the other
pub either_front : (a b c d : List ℕ) → a ++ b ≡ c ++ d
    → ((t : List ℕ) × (a ≡ c ++ t) × (t ++ b ≡ d)) ⊎ ((t : List ℕ) × (c ≡ a ++ t) × (b ≡ t ++ d))
either_front [] b c d e = inr (c, refl, e)
either_front (x ∷ a) b [] d e = inl (x ∷ a, refl, e)
either_front (x ∷ a) b (y ∷ c) d e =
    let head : x ≡ y = cc in
    let back : y ≡ x = sym head in
    let tail : a ++ b ≡ c ++ d = cc in
    elim (either_front a b c d tail) [
      | inl l ↦ inl (l.0, (λ i. head i ∷ l.1 i), l.2)
      | inr r ↦ inr (r.0, (λ i. back i ∷ r.1 i), r.2)
    ]

-- beginnings of one length are one
pub equal_fronts : (a b c d : List ℕ) → length a ≡ length c → a ++ b ≡ c ++ d → (a ≡ c) × (b ≡ d)
equal_fronts [] b [] d n e = (refl, e)
equal_fronts [] b (y ∷ c) d n e = absurd (omega (arith, n))
equal_fronts (x ∷ a) b [] d n e = absurd (omega (arith, n))
equal_fronts (x ∷ a) b (y ∷ c) d n e =
    let head : x ≡ y = cc in
    let tail : a ++ b ≡ c ++ d = cc in
    let rest = equal_fronts a b c d (omega (arith, n)) tail in
    ((λ i. head i ∷ rest.0 i), rest.1)

pub heads : (k j : ℕ) (x y : List ℕ) → k ∷ x ≡ j ∷ y → k ≡ j
heads k j x y e = cc

pub tails : (k j : ℕ) (x y : List ℕ) → k ∷ x ≡ j ∷ y → x ≡ y
tails k j x y e = cc

-- a list does not begin with more than itself
pub nothing_more : (rest more : List ℕ) → 0 < length more → rest ++ more ≡ [] → ⊥
nothing_more rest more some e = omega (arith, some, ap length e, length-append rest more)
