-- Values one behind the other.
use Rattle.std.proofs.Common.{◌≡◌, ℕ, ◌+◌, ◌-◌, ◌<◌, ◌≤◌, List, [], ◌∷◌, ◌++◌, length, replicate, refl, sym, ap, ◌∙◌, subst, arith}
use Rattle.std.specs.Prelude.{All}
use Rattle.std.specs.List.{flat_map}
use Rattle.std.proofs.lemmas.List.{append_assoc, append-nil, length-append, length-replicate}
use Rattle.std.proofs.lemmas.Grind.{flat_map-append}
use Rattle.std.proofs.lemmas.List.Elements.{All-nil, All-cons, All-head, All-tail, All-push, All-append, All-replicate}
use Rattle.lw_resp.specs.Reading.{Begins, IsCut, IsMalformed}
use Rattle.lw_resp.specs.inner.Parts.{AreMany}
use Rattle.lw_resp.proofs.Exact.{PrefixFree}

pub many_none : {A : Type 0} (Is : A → Type 0) (spell : A → List ℕ) (bytes : List ℕ) → Begins (AreMany Is 0) (flat_map spell) bytes [] bytes
many_none Is spell bytes = record { valid = record { many = refl; each = All-nil Is }; written = refl }

pub many_more : {A : Type 0} (Is : A → Type 0) (spell : A → List ℕ) (bytes rest behind : List ℕ) (i : ℕ) (values : List A) (a : A)
    → Begins (AreMany Is i) (flat_map spell) bytes values rest → Begins Is spell rest a behind → Begins (AreMany Is (i + 1)) (flat_map spell) bytes (values ++ a ∷ []) behind
many_more Is spell bytes rest behind i values a begins next = record {
  valid = record {
    many = omega (arith, begins.valid.many, length-append values (a ∷ []));
    each = All-push Is values a begins.valid.each next.valid;
  };
  written = begins.written ∙ ap (λ (s : List ℕ). flat_map spell values ++ s) next.written ∙ sym (append_assoc (flat_map spell values) (spell a) behind)
      ∙ ap (λ (s : List ℕ). (flat_map spell values ++ s) ++ behind) (sym (append-nil (spell a)))
      ∙ ap (λ (s : List ℕ). s ++ behind) (sym (flat_map-append spell values (a ∷ [])));
}

pub many_cut : {A : Type 0} (Is : A → Type 0) (spell : A → List ℕ) (bytes rest : List ℕ) (i number : ℕ) (values : List A) (other : A) → Is other → i < number
    → Begins (AreMany Is i) (flat_map spell) bytes values rest → IsCut Is spell rest → IsCut (AreMany Is number) (flat_map spell) bytes
many_cut Is spell bytes rest i number values other is lt begins cut =
    let others = replicate (number - (i + 1)) other in
    record {
      value = values ++ (cut.value ∷ others);
      valid = record {
        many = omega (arith, begins.valid.many, length-append values (cut.value ∷ others), length-replicate (number - (i + 1)) other);
        each = All-append Is values (cut.value ∷ others) begins.valid.each (All-cons Is cut.value others cut.valid (All-replicate Is (number - (i + 1)) other is));
      };
      more = cut.more ++ flat_map spell others;
      some = omega (arith, cut.some, length-append cut.more (flat_map spell others));
      written = flat_map-append spell values (cut.value ∷ others)
          ∙ ap (λ (s : List ℕ). flat_map spell values ++ (s ++ flat_map spell others)) cut.written
          ∙ ap (λ (s : List ℕ). flat_map spell values ++ s) (append_assoc rest cut.more (flat_map spell others))
          ∙ sym (append_assoc (flat_map spell values) rest (cut.more ++ flat_map spell others))
          ∙ ap (λ (s : List ℕ). s ++ (cut.more ++ flat_map spell others)) (sym begins.written);
    }

-- behind as many values, the next one of more values stands
next_value : {A : Type 0} (Is : A → Type 0) (spell : A → List ℕ) → PrefixFree Is spell → (xs ys : List A) (x y : List ℕ) → All Is xs → All Is ys → length xs < length ys
    → flat_map spell xs ++ x ≡ flat_map spell ys ++ y → (v : A) × Is v × ((tail : List ℕ) × (x ≡ spell v ++ tail))
next_value Is spell free xs [] x y p q lt e = absurd (omega (arith, lt))
next_value Is spell free [] (v ∷ vs) x y p q lt e = (v, All-head Is v vs q, (flat_map spell vs ++ y, e ∙ append_assoc (spell v) (flat_map spell vs) y))
next_value Is spell free (u ∷ us) (v ∷ vs) x y p q lt e =
    let all : spell u ++ (flat_map spell us ++ x) ≡ spell v ++ (flat_map spell vs ++ y) =
    sym (append_assoc (spell u) (flat_map spell us) x) ∙ e ∙ append_assoc (spell v) (flat_map spell vs) y in
    let same = free u v (All-head Is u us p) (All-head Is v vs q) (flat_map spell us ++ x) (flat_map spell vs ++ y) all in
    next_value Is spell free us vs x y (All-tail Is u us p) (All-tail Is v vs q) (omega (arith, lt)) same.1

pub many_malformed : {A : Type 0} (Is : A → Type 0) (spell : A → List ℕ) → PrefixFree Is spell → (bytes rest : List ℕ) (i number : ℕ) (values : List A) → i < number
    → Begins (AreMany Is i) (flat_map spell) bytes values rest → IsMalformed Is spell rest → IsMalformed (AreMany Is number) (flat_map spell) bytes
many_malformed Is spell free bytes rest i number values lt begins malformed others are more tail e =
    let all : flat_map spell values ++ (rest ++ more) ≡ flat_map spell others ++ tail =
    sym (append_assoc (flat_map spell values) rest more) ∙ ap (λ (s : List ℕ). s ++ more) (sym begins.written) ∙ e in
    let next = next_value Is spell free values others (rest ++ more) tail begins.valid.each are.each (omega (arith, lt, begins.valid.many, are.many)) all in
    malformed next.0 next.1 more next.2.0 next.2.1

-- so many values begin one list as one list of values
pub many_free : {A : Type 0} (Is : A → Type 0) (spell : A → List ℕ) → PrefixFree Is spell → (xs ys : List A) (x y : List ℕ) → All Is xs → All Is ys → length xs ≡ length ys
    → flat_map spell xs ++ x ≡ flat_map spell ys ++ y → (xs ≡ ys) × (x ≡ y)
many_free Is spell free [] [] x y p q n e = (refl, e)
many_free Is spell free [] (v ∷ vs) x y p q n e = absurd (omega (arith, n))
many_free Is spell free (u ∷ us) [] x y p q n e = absurd (omega (arith, n))
many_free Is spell free (u ∷ us) (v ∷ vs) x y p q n e =
    let all : spell u ++ (flat_map spell us ++ x) ≡ spell v ++ (flat_map spell vs ++ y) =
    sym (append_assoc (spell u) (flat_map spell us) x) ∙ e ∙ append_assoc (spell v) (flat_map spell vs) y in
    let same = free u v (All-head Is u us p) (All-head Is v vs q) (flat_map spell us ++ x) (flat_map spell vs ++ y) all in
    let head : u ≡ v = same.0 in
    let others = many_free Is spell free us vs x y (All-tail Is u us p) (All-tail Is v vs q) (omega (arith, n)) same.1 in
    ((λ i. head i ∷ others.0 i), others.1)

pub many_done : {A : Type 0} (Is : A → Type 0) (spell : A → List ℕ) (bytes rest : List ℕ) (values : List A) (i number : ℕ) → i ≡ number
    → Begins (AreMany Is i) (flat_map spell) bytes values rest → Begins (AreMany Is number) (flat_map spell) bytes values rest
many_done Is spell bytes rest values i number same begins = subst (λ (k : ℕ). Begins (AreMany Is k) (flat_map spell) bytes values rest) same begins
