-- Slots that are filled one by one, and read in order.
use Rattle.std.proofs.Common.{◌≡◌, ◌≢◌, ℕ, ◌+◌, ◌<◌, ◌≤◌, List, [], ◌∷◌, ◌++◌, length, length-append, Option, Some, None, true, false, refl, sym, ap, ◌∙◌, subst, ◌⊎◌, inl, inr, arith, zero, suc}
use Rattle.std.specs.Prelude.{slice_get, is_some}
use Rattle.std.proofs.Math.ListN.{set, get_or, length-set}
use Rattle.std.proofs.lemmas.Option.{slice_get_within, slice_get-get_or}
use Rattle.std.proofs.lemmas.Bool.{cases_lt}
use borrow.Author.Count.{below_more}
use Rattle.lw_crew.specs.declared.job.Done.{Done}
use Rattle.lw_crew.specs.Gather.{HasJob, IsGathered}
use Rattle.lw_crew.specs.inner.Filling.{AreFilled, AreTaken}

pub same_some : {A : Type 0} (x y : A) (o : Option A) → o ≡ Some x → o ≡ Some y → x ≡ y
same_some x y o p q = let e : Some x ≡ Some y = sym p ∙ q in cc

pub get_set_same : {A : Type 0} (xs : List A) (i : ℕ) (y : A) → i < length xs → slice_get (set xs i y) i ≡ Some y
get_set_same [] i y l = absurd (omega arith)
get_set_same (x ∷ xs) zero y l = refl
get_set_same (x ∷ xs) (suc i) y l = get_set_same xs i y (omega arith)

pub get_set_other : {A : Type 0} (xs : List A) (i k : ℕ) (y : A) → k ≢ i → slice_get (set xs i y) k ≡ slice_get xs k
get_set_other [] i k y n = refl
get_set_other (x ∷ xs) zero zero y n = absurd (n refl)
get_set_other (x ∷ xs) zero (suc k) y n = refl
get_set_other (x ∷ xs) (suc i) zero y n = refl
get_set_other (x ∷ xs) (suc i) (suc k) y n = get_set_other xs i k y (λ e. n (ap suc e))

pub equal_or_not : (k i : ℕ) → (k ≡ i) ⊎ (k ≢ i)
equal_or_not k i = elim (cases_lt k i) [ inl l ↦ inr (λ e. omega arith) | inr l ↦ elim (cases_lt i k) [ inl m ↦ inr (λ e. omega arith) | inr m ↦ inl (omega arith) ] ]

pub none_there : (slots : List (Option Done)) (k : ℕ) (o : Option Done) → o ≡ get_or slots k o → k < length slots → false ≡ is_some o → slice_get slots k ≡ Some None
none_there slots k None at l e = slice_get-get_or slots k None l ∙ ap Some (sym at)
none_there slots k (Some d) at l e = let f : false ≡ true = e in cc

pub filled_more : (count : ℕ) (ds : List Done) (n : ℕ) (slots : List (Option Done)) (d : Done) → AreFilled count ds n slots → slice_get ds n ≡ Some d → d.job < count → slice_get slots d.job ≡ Some None → AreFilled count ds (n + 1) (set slots d.job (Some d))
filled_more count ds n slots d f item lt free = record {
  clean = λ i x l at. below_more (λ j. (w : Done) → slice_get ds j ≡ Some w → (w.job < count) × (¬ HasJob ds j w.job)) n
      (λ j m w a. f.clean j w m a)
      (λ w a. subst (λ (v : Done). (v.job < count) × (¬ HasJob ds n v.job)) (same_some d w _ item a) (lt, f.empty d.job free))
      i l x at;
  len = length-set slots d.job (Some d) ∙ f.len;
  full = λ k x at. elim (equal_or_not k d.job) [
    | inl e ↦
        let same : d ≡ x = same_some d x (Some d) refl (same_some (Some d) (Some x) _ (get_set_same slots d.job (Some d) (slice_get_within slots d.job None free)) (subst (λ m. slice_get (set slots d.job (Some d)) m ≡ Some (Some x)) e at)) in
        (ap (λ (v : Done). v.job) (sym same) ∙ sym e, (n, omega arith, item ∙ ap Some same))
    | inr ne ↦ let w = f.full k x (sym (get_set_other slots d.job k (Some d) ne) ∙ at) in (w.0, (w.1.0, omega (arith, w.1.1), w.1.2))
  ];
  empty = λ k at h. elim (equal_or_not k d.job) [
    | inl e ↦
        let c : Some d ≡ None = same_some (Some d) None _ (get_set_same slots d.job (Some d) (slice_get_within slots d.job None free)) (subst (λ m. slice_get (set slots d.job (Some d)) m ≡ Some None) e at) in cc
    | inr ne ↦
        let before : slice_get slots k ≡ Some None = sym (get_set_other slots d.job k (Some d) ne) ∙ at in
        below_more (λ j. (w : Done) → slice_get ds j ≡ Some w → w.job ≡ k → ⊥) n
        (λ j m w a is. f.empty k before (record { i = j; done = w; below = m; at = a; is = is }))
        (λ w a is. ne (sym is ∙ ap (λ (v : Done). v.job) (sym (same_some d w _ item a))))
        h.i h.below h.done h.at h.is
  ];
}

pub filled_all : (count : ℕ) (ds : List Done) (n : ℕ) (slots : List (Option Done)) → length ds ≤ n → n ≤ length ds → AreFilled count ds n slots → AreFilled count ds (length ds) slots
filled_all count ds n slots a b f = let e : n ≡ length ds = omega arith in subst (λ m. AreFilled count ds m slots) e f

pub get_push : {A : Type 0} (v : List A) (d : A) (k : ℕ) (x : A) → slice_get (v ++ d ∷ []) k ≡ Some x → (slice_get v k ≡ Some x) ⊎ ((k ≡ length v) × (d ≡ x))
get_push [] d zero x at = inr (refl, same_some d x _ refl at)
get_push [] d (suc k) x at = let e : None ≡ Some x = at in cc
get_push (y ∷ v) d zero x at = inl at
get_push (y ∷ v) d (suc k) x at = elim (get_push v d k x at) [ inl a ↦ inl a | inr b ↦ inr (omega (arith, b.0), b.1) ]

-- reading the slots in order
pub taken_more : (slots : List (Option Done)) (n : ℕ) (v w : List Done) (d : Done) → AreTaken slots n v → slice_get slots n ≡ Some (Some d) → w ≡ v ++ d ∷ [] → AreTaken slots (n + 1) w
taken_more slots n v w d t item is = record {
  len = ap length is ∙ simp length-append (omega (arith, t.len));
  each = λ k x at. each k x (subst (λ ys. slice_get ys k ≡ Some x) is at);
  full = below_more (λ k. (x : Done) × (slice_get slots k ≡ Some (Some x))) n t.full (d, item);
}
  where
    each : (k : ℕ) (x : Done) → slice_get (v ++ d ∷ []) k ≡ Some x → slice_get slots k ≡ Some (Some x)
    each k x at = elim (get_push v d k x at) [
      | inl a ↦ t.each k x a
      | inr b ↦ subst (λ m. slice_get slots m ≡ Some (Some x)) (sym (b.0 ∙ t.len)) (item ∙ ap (λ y. Some (Some y)) b.1)
    ]

pub has_job : (count : ℕ) (ds : List Done) (slots : List (Option Done)) (k : ℕ) (d : Done) → AreFilled count ds (length ds) slots → slice_get slots k ≡ Some (Some d) → HasJob ds (length ds) k
has_job count ds slots k d f at = let w = f.full k d at in record { i = w.1.0; done = d; below = w.1.1; at = w.1.2; is = w.0 }

pub gathered : (ds : List Done) (slots : List (Option Done)) (n : ℕ) (v : List Done) → AreFilled (length slots) ds (length ds) slots → AreTaken slots n v → length slots ≤ n → n ≤ length slots → IsGathered (length slots) ds v
gathered ds slots n v f t a b = record {
  clean = f.clean;
  order = record { len = omega (arith, t.len); each = λ k d at. (f.full k d (t.each k d at)).0 };
  from = λ k d at. let w = f.full k d (t.each k d at) in (w.1.0, w.1.2);
}
