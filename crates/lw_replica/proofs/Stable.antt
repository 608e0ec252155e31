-- What is not unequal is equal, where a type has a code.
use Rattle.std.proofs.Common.{◌≡◌, ℕ, Bool, true, false, refl, ap}
use Rattle.std.specs.Prelude.{nat_eq}
use Rattle.std.specs.Coded.{Coded}
use Rattle.std.proofs.lemmas.Bool.{eqb-true, eq-eqb}
use base.Stored.{Gv, num}
use base.Stored.Gv.{gnil, gnum, gcons}

abbrev first : Gv → Gv
first gnil = gnil
first (gnum n) = gnil
first (gcons a b) = a

abbrev second : Gv → Gv
second gnil = gnil
second (gnum n) = gnil
second (gcons a b) = b

used_numbers_stable : (m n : ℕ) → ((m ≡ n → ⊥) → ⊥) → m ≡ n
used_numbers_stable m n h = go (nat_eq m n) refl
  where
    go : (b : Bool) → nat_eq m n ≡ b → m ≡ n
    go true same = eqb-true m n same
    go false other = absurd (h (λ same. let is = eq-eqb m n same in cc))

codes_stable : (a b : Gv) → ((a ≡ b → ⊥) → ⊥) → a ≡ b
codes_stable gnil gnil h = refl
codes_stable gnil (gnum n) h = absurd (h (λ same. cc))
codes_stable gnil (gcons c d) h = absurd (h (λ same. cc))
codes_stable (gnum m) gnil h = absurd (h (λ same. cc))
codes_stable (gnum m) (gnum n) h = ap gnum (used_numbers_stable m n (λ other. h (λ same. other (ap num same))))
codes_stable (gnum m) (gcons c d) h = absurd (h (λ same. cc))
codes_stable (gcons a b) gnil h = absurd (h (λ same. cc))
codes_stable (gcons a b) (gnum n) h = absurd (h (λ same. cc))
codes_stable (gcons a b) (gcons c d) h =
    let x = codes_stable a c (λ other. h (λ same. other (ap first same))) in
    let y = codes_stable b d (λ other. h (λ same. other (ap second same))) in
    λ i. gcons (x i) (y i)

pub stable : {A : Type 0} (c : Coded A) (x y : A) → ((x ≡ y → ⊥) → ⊥) → x ≡ y
stable c x y h = c.inj x y (codes_stable (c.code x) (c.code y) (λ other. h (λ same. other (ap c.code same))))
