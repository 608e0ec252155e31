-- Where a test passes first.
use Rattle.std.proofs.Common.{◌≡◌, ℕ, zero, suc, ◌<◌, ◌≤◌, Bool, true, false, ltb, cond, List, [], ◌∷◌, ◌++◌, length, get_or, take, drop, Option, Some, None, refl, sym, ap, ◌∙◌, subst, inl, inr, arith}
use Rattle.std.specs.Prelude.{position, All}
use Rattle.std.specs.List.{position_or_len}
use Rattle.std.proofs.Math.Seq.{drop-cons}
use Rattle.std.proofs.lemmas.Bool.{lt-ltb, cases_lt}
use Rattle.std.proofs.lemmas.List.{take-append-drop}
use Rattle.std.proofs.lemmas.List.Elements.{All-nil, All-cons, All-from_get_or}
use Rattle.std.proofs.lemmas.List.Quantifiers.{position-Some}
use Rattle.std.proofs.lemmas.List.Sums.{fails_before_first}

fails_to : (p : ℕ → Bool) (xs : List ℕ) (i : ℕ) → i ≤ length xs → ((k : ℕ) → k < i → p (get_or xs k 0) ≡ false) → All (λ b. p b ≡ false) (take i xs)
fails_to p xs zero long h = All-nil (λ b. p b ≡ false)
fails_to p [] (suc i) long h = absurd (omega arith)
fails_to p (x ∷ xs) (suc i) long h =
    All-cons (λ b. p b ≡ false) x (take i xs) (h 0 (omega arith)) (fails_to p xs i (omega (arith, long)) (λ k lt. h (suc k) (omega arith)))

past_end : (p : ℕ) (n : ℕ) → cond (ltb p n) (Some p) None ≡ None → n ≤ p
past_end p n e =
    elim (cases_lt p n) [
      | inl lt ↦
          let none : Some p ≡ None = subst (λ (b : Bool). cond b (Some p) None ≡ None) (lt-ltb p n lt) e in
          absurd cc
      | inr ge ↦ ge
    ]

-- it passes nowhere
pub fails_everywhere : (p : ℕ → Bool) (xs : List ℕ) → None ≡ position p xs → All (λ b. p b ≡ false) xs
fails_everywhere p xs e =
    let past : length xs ≤ position_or_len p xs = past_end (position_or_len p xs) (length xs) (sym e) in
    All-from_get_or (λ b. p b ≡ false) xs 0 (λ k lt. fails_before_first p xs k 0 (omega (arith, past, lt)))

-- it passes first at the front of the second part
pub record IsFirstAt (p : ℕ → Bool) (xs front behind : List ℕ) : Type 0 where
  pub fails : All (λ b. p b ≡ false) front
  pub joined : xs ≡ front ++ behind
  pub first : ℕ
  pub others : List ℕ
  pub is : behind ≡ first ∷ others
  pub passes : p first ≡ true

pub first_at : (p : ℕ → Bool) (xs front behind : List ℕ) (place : ℕ) → position p xs ≡ Some place → front ≡ take place xs → behind ≡ drop place xs → IsFirstAt p xs front behind
first_at p xs front behind place e front_is behind_is =
    let at = position-Some p xs place 0 e in
    let whole = take-append-drop place xs in
    record {
      fails = subst (All (λ b. p b ≡ false)) (sym front_is) (fails_to p xs place (omega (arith, at.0)) at.2);
      joined = cc;
      first = get_or xs place 0;
      others = drop (suc place) xs;
      is = behind_is ∙ drop-cons xs place 0 at.0;
      passes = at.1;
    }
