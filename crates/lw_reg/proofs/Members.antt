-- Members of lists.
use Rattle.std.proofs.Common.{◌≡◌, ℕ, zero, suc, ◌<◌, List, [], ◌∷◌, length, get_or, inl, inr, ◌⊎◌, sym, arith}
use Rattle.std.specs.Prelude.{Contains}

module _ {A : Type 0} where
  pub none_there : {G : Type 0} (x : A) → Contains [] x → G
  none_there x h = absurd (let at = h.1 in omega arith)

  pub first_there : (y : A) (ys : List A) (x : A) → x ≡ y → Contains (y ∷ ys) x
  first_there y ys x e = (0, omega arith, sym e)

  pub more_there : (y : A) (ys : List A) (x : A) → Contains ys x → Contains (y ∷ ys) x
  more_there y ys x h = (suc h.0, (let at = h.1 in omega arith), h.2)

  at_place : (y : A) (ys : List A) (x : A) (k : ℕ) → k < length (y ∷ ys) → get_or (y ∷ ys) k x ≡ x → (x ≡ y) ⊎ Contains ys x
  at_place y ys x zero lt at = inl (sym at)
  at_place y ys x (suc k) lt at = inr (k, omega arith, at)

  pub there_or_first : (y : A) (ys : List A) (x : A) → Contains (y ∷ ys) x → (x ≡ y) ⊎ Contains ys x
  there_or_first y ys x h = at_place y ys x h.0 h.1 h.2
