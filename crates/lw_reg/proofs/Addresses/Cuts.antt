-- Where a text is cut, and what follows its first byte.
use Rattle.std.proofs.Common.{◌≡◌, ◌≢◌, ℕ, suc, ◌<◌, Bool, true, false, cond, eqb, List, [], ◌∷◌, ◌++◌, length, get_or, Option, Some, None, refl, ap, ◌∙◌, arith, Bor}
use Rattle.std.specs.Option.{MatchOption}
use Rattle.std.proofs.lemmas.Bool.{eqb-true, eq-eqb, ne_eqb}
use Rattle.std.proofs.lemmas.Str.Pattern.{IsSplitOnceResult, split_parts}
use Rattle.lw_reg.specs.inner.Addr.Reading.{◌>>=◌, Gives, strip_at, cut_at}

-- the value of a step that gave one
pub bind_some : {A B : Type 0} (o : Option A) (f : A → Option B) (y : B) → (o >>= f) ≡ Some y → (x : A) × (o ≡ Some x) × (f x ≡ Some y)
bind_some (Some x) f y e = (x, refl, e)
bind_some None f y e = absurd cc

abbrev given : {A : Type 0} → A → Option A
given x = Some x

pub some_is : {A : Type 0} (x y : A) → given x ≡ given y → x ≡ y
some_is x y e = cc

-- a test that passed
pub guard_some : {A : Type 0} (b : Bool) (x y : A) → cond b (given x) None ≡ given y → (b ≡ true) × (x ≡ y)
guard_some true x y e = (refl, cc)
guard_some false x y e = absurd cc

abbrev pub Lacks : ℕ → List ℕ → Type 0
Lacks c text = (i : ℕ) → i < length text → get_or text i 0 ≢ c

-- the texts round the first c
pub cut_at-first : (c : ℕ) (xs ys : List ℕ) → Lacks c xs → cut_at c (xs ++ (c ∷ ys)) ≡ Some (xs, ys)
unfolding cut_at
cut_at-first c [] ys h = rw (eq-eqb c c refl) refl
cut_at-first c (x ∷ xs) ys h =
    let other : eqb x c ≡ false = ne_eqb x c (h 0 (omega arith)) in
    let others : cut_at c (xs ++ (c ∷ ys)) ≡ Some (xs, ys) = cut_at-first c xs ys (λ i lt. h (suc i) (omega arith)) in
    rw (other, others) refl

-- no c, no cut
pub cut_at-none : (c : ℕ) (text : List ℕ) → Lacks c text → cut_at c text ≡ None
unfolding cut_at
cut_at-none c [] h = refl
cut_at-none c (x ∷ xs) h =
    let other : eqb x c ≡ false = ne_eqb x c (h 0 (omega arith)) in
    let others : cut_at c xs ≡ None = cut_at-none c xs (λ i lt. h (suc i) (omega arith)) in
    rw (other, others) refl

-- what is cut stands round the c
pub cut_at_parts : (c : ℕ) (text : List ℕ) (x : List ℕ × List ℕ) → cut_at c text ≡ Some x → text ≡ x.0 ++ (c ∷ x.1)
unfolding cut_at
cut_at_parts c [] x e = absurd cc
cut_at_parts c (b ∷ text) x e =
    elim (eqb b c) as (λ t. eqb b c ≡ t → cond t (given ([], text)) (cut_at c text >>= λ y. Some (b ∷ y.0, y.1)) ≡ Some x → (b ∷ text) ≡ x.0 ++ (c ∷ x.1)) [
      | true ↦ λ t e. ap (λ (b : ℕ). b ∷ text) (eqb-true b c t) ∙ ap (λ (y : List ℕ × List ℕ). y.0 ++ (c ∷ y.1)) (some_is ([], text) x e)
      | false ↦ λ t e.
          let r = bind_some (cut_at c text) (λ y. Some (b ∷ y.0, y.1)) x e in
          ap (λ (t : List ℕ). b ∷ t) (cut_at_parts c text r.0 r.1) ∙ ap (λ (y : List ℕ × List ℕ). y.0 ++ (c ∷ y.1)) (some_is (b ∷ r.0.0, r.0.1) x r.2)
    ] refl e

pub split_once_is : (c : ℕ) (text : List ℕ) (r : Option (Bor (List ℕ) × Bor (List ℕ))) → c < 128 → IsSplitOnceResult c text r → Gives (λ x. (x.0.now, x.1.now)) r (cut_at c text)
split_once_is c text (Some x) lt h =
    let parts = split_parts c text (Some x) h lt in
    ap (cut_at c) parts.0 ∙ cut_at-first c x.0.now x.1.now parts.1
split_once_is c text None lt h = cut_at-none c text (split_parts c text None h lt)

-- ---- the first byte

pub strip_at_parts : (c : ℕ) (text rest : List ℕ) → strip_at c text ≡ Some rest → text ≡ c ∷ rest
strip_at_parts c [] rest e = absurd cc
strip_at_parts c (b ∷ text) rest e =
    let g = guard_some (eqb b c) text rest e in
    let same = eqb-true b c g.0 in
    λ i. same i ∷ g.1 i

pub strip_at-first : (c : ℕ) (rest : List ℕ) → strip_at c (c ∷ rest) ≡ Some rest
strip_at-first c rest = rw (eq-eqb c c refl) refl

pub strip_at-other : (c : ℕ) (text : List ℕ) → get_or text 0 0 ≢ c → strip_at c text ≡ None
strip_at-other c [] h = refl
strip_at-other c (b ∷ text) h = rw (ne_eqb b c h) refl

strip_at-none : (c : ℕ) (text : List ℕ) → ((rest : List ℕ) → text ≢ c ∷ rest) → strip_at c text ≡ None
strip_at-none c [] h = refl
strip_at-none c (b ∷ text) h = rw (ne_eqb b c (λ e. h text (ap (λ (b : ℕ). b ∷ text) e))) refl

pub strip_prefix_is : (c : ℕ) (text : List ℕ) (r : Option (Bor (List ℕ))) → MatchOption r ((rest : List ℕ) → text ≢ c ∷ rest) (λ x. text ≡ c ∷ x.now) → Gives (λ rest. rest.now) r (strip_at c text)
strip_prefix_is c text (Some x) h = ap (strip_at c) h ∙ strip_at-first c x.now
strip_prefix_is c text None h = strip_at-none c text h
