-- What is noted of each endpoint after each change.
use Rattle.std.proofs.Common.{◌≡◌, ◌≢◌, Option, ℕ, ◌<◌, ◌≤◌, List, [], ◌∷◌, None, Some, refl, sym, ap, ◌∙◌, subst, inl, inr}
use Rattle.std.specs.declared.cmp.Ordering.{Ordering}
use Rattle.std.specs.declared.cmp.Ordering.TheVariants.{Less, Equal, Greater}
use Rattle.std.specs.Ordering.{match_ordering}
use Rattle.std.specs.Option.{IsSome, option_map, unwrap_or}
use Rattle.std.specs.List.Sorted.{IsStrictlySortedBy}
use Rattle.std.proofs.lemmas.Cmp.{tied_itself, alike_right}
use Rattle.std.proofs.lemmas.Bool.{le-leb, lt-leb, cases_lt}
use Rattle.lw_stamp.specs.TextOrder.{text_cmp}
use Rattle.lw_stamp.proofs.TextLemmas.{text_order}
use Rattle.lw_due.specs.Due.{Entry, Note, IsRising, note_of, kept_of, due_of, with_entry, changed, first_due, raised}
use Rattle.lw_due.proofs.DueLemmas.{AllAbove, turned, with_entry_present}

-- at its own entry
note_of_first : (e : List ℕ) (note : Note) (xs : List Entry) → note_of e ((e, note) ∷ xs) ≡ Some note
note_of_first e note xs = rw (tied_itself text_order.total e) refl

-- ---- an endpoint that is put in
with_same_by : (o : Ordering) (e : List ℕ) (note : Note) (x : Entry) (xs : List Entry) → text_cmp e x.0 ≡ o → note_of e (with_entry e note xs) ≡ Some (unwrap_or (note_of e xs) note) → note_of e (match_ordering o ((e, note) ∷ x ∷ xs) (x ∷ xs) (x ∷ with_entry e note xs)) ≡ Some (unwrap_or (match_ordering o None (Some x.1) (note_of e xs)) note)
with_same_by Less e note x xs is rest = note_of_first e note (x ∷ xs)
with_same_by Equal e note x xs is rest = rw is refl
with_same_by Greater e note x xs is rest = rw is rest

pub note_of-with_entry : (e : List ℕ) (note : Note) (xs : List Entry) → note_of e (with_entry e note xs) ≡ Some (unwrap_or (note_of e xs) note)
note_of-with_entry e note [] = note_of_first e note []
note_of-with_entry e note (x ∷ xs) = with_same_by (text_cmp e x.0) e note x xs refl (note_of-with_entry e note xs)

-- a lesser one, and a greater one, where nothing greater than it stands before
before_other : (n e : List ℕ) (note : Note) (xs : List Entry) (o : Ordering) → text_cmp n e ≡ o → o ≢ Equal → (o ≡ Less → note_of n xs ≡ None) → note_of n ((e, note) ∷ xs) ≡ note_of n xs
before_other n e note xs Less is other none = rw is (sym (none refl))
before_other n e note xs Equal is other none = absurd (other refl)
before_other n e note xs Greater is other none = rw is refl

with_other_by : (o : Ordering) (n e : List ℕ) (note : Note) (x : Entry) (xs : List Entry) → text_cmp e x.0 ≡ o → text_cmp n e ≢ Equal → note_of n (with_entry e note xs) ≡ note_of n xs → note_of n (match_ordering o ((e, note) ∷ x ∷ xs) (x ∷ xs) (x ∷ with_entry e note xs)) ≡ note_of n (x ∷ xs)
with_other_by Less n e note x xs is other rest = before_other n e note (x ∷ xs) (text_cmp n e) refl other (λ less. rw (text_order.total.trans n e x.0 less is) refl)
with_other_by Equal n e note x xs is other rest = refl
with_other_by Greater n e note x xs is other rest = ap (λ t. match_ordering (text_cmp n x.0) None (Some x.1) t) rest

pub note_of-with_entry_other : (n e : List ℕ) (note : Note) (xs : List Entry) → text_cmp n e ≢ Equal → note_of n (with_entry e note xs) ≡ note_of n xs
note_of-with_entry_other n e note [] other = before_other n e note [] (text_cmp n e) refl other (λ _. refl)
note_of-with_entry_other n e note (x ∷ xs) other = with_other_by (text_cmp e x.0) n e note x xs refl other (note_of-with_entry_other n e note xs other)

-- ---- one that is changed
same_by : (o : Ordering) (e : List ℕ) (f : Note → Note) (x : Entry) (xs : List Entry) → text_cmp e x.0 ≡ o → note_of e (changed e f xs) ≡ option_map f (note_of e xs) → note_of e (match_ordering o (x ∷ xs) ((x.0, f x.1) ∷ xs) (x ∷ changed e f xs)) ≡ option_map f (match_ordering o None (Some x.1) (note_of e xs))
same_by Less e f x xs is rest = rw is refl
same_by Equal e f x xs is rest = rw is refl
same_by Greater e f x xs is rest = rw is rest

pub note_of-changed : (e : List ℕ) (f : Note → Note) (xs : List Entry) → note_of e (changed e f xs) ≡ option_map f (note_of e xs)
note_of-changed e f [] = refl
note_of-changed e f (x ∷ xs) = same_by (text_cmp e x.0) e f x xs refl (note_of-changed e f xs)

-- is there still
still_there : (o : Option Note) (f : Note → Note) → IsSome o → IsSome (option_map f o)
still_there None f h = absurd cc
still_there (Some k) f h = refl

pub changed_there : (e : List ℕ) (f : Note → Note) (xs : List Entry) → IsSome (note_of e xs) → IsSome (note_of e (changed e f xs))
changed_there e f xs h = subst IsSome (sym (note_of-changed e f xs)) (still_there (note_of e xs) f h)

-- one that was there and was changed is not put in
pub changed_present : (e : List ℕ) (note : Note) (f : Note → Note) (xs : List Entry) → IsSome (note_of e xs) → changed e f xs ≡ with_entry e note (changed e f xs)
changed_present e note f xs h = sym (with_entry_present e note (changed e f xs) (changed_there e f xs h))

-- another note at x does not matter to another endpoint
note_of_beside : (n : List ℕ) (x : Entry) (note : Note) (xs : List Entry) → text_cmp n x.0 ≢ Equal → note_of n ((x.0, note) ∷ xs) ≡ note_of n (x ∷ xs)
note_of_beside n x note xs other = by (text_cmp n x.0) other
  where
    by : (o : Ordering) → o ≢ Equal → match_ordering o None (Some note) (note_of n xs) ≡ match_ordering o None (Some x.1) (note_of n xs)
    by Less other = refl
    by Equal other = absurd (other refl)
    by Greater other = refl

other_by : (o : Ordering) (n e : List ℕ) (f : Note → Note) (x : Entry) (xs : List Entry) → text_cmp e x.0 ≡ o → text_cmp n e ≢ Equal → note_of n (changed e f xs) ≡ note_of n xs → note_of n (match_ordering o (x ∷ xs) ((x.0, f x.1) ∷ xs) (x ∷ changed e f xs)) ≡ note_of n (x ∷ xs)
other_by Less n e f x xs is other rest = refl
other_by Equal n e f x xs is other rest = note_of_beside n x (f x.1) xs (λ same. other (alike_right text_order.total e x.0 n is ∙ same))
other_by Greater n e f x xs is other rest = ap (λ t. match_ordering (text_cmp n x.0) None (Some x.1) t) rest

pub note_of-changed_other : (n e : List ℕ) (f : Note → Note) (xs : List Entry) → text_cmp n e ≢ Equal → note_of n (changed e f xs) ≡ note_of n xs
note_of-changed_other n e f [] other = refl
note_of-changed_other n e f (x ∷ xs) other = other_by (text_cmp e x.0) n e f x xs refl other (note_of-changed_other n e f xs other)

-- ---- the first that is due
some_first : (a b : List ℕ) → Some a ≡ Some b → a ≡ b
some_first a b h = cc

some_later : (now a k : ℕ) → now < a → Some a ≡ Some k → now < k
some_later now a k later h = subst (λ n. now < n) (let is : a ≡ k = cc in is) later

-- stands among the entries
first_above : (a e : List ℕ) (now : ℕ) (xs : List Entry) → AllAbove a xs → first_due now xs ≡ Some e → text_cmp a e ≡ Less
first_above a e now [] above is = absurd cc
first_above a e now (x ∷ xs) above is =
    elim (cases_lt now x.1.1) [
      | inl later ↦ first_above a e now xs above.1 (rw (lt-leb x.1.1 now later) at is)
      | inr come ↦ subst (λ k. text_cmp a k ≡ Less) (some_first x.0 e (rw (le-leb x.1.1 now come) at is)) above.0
    ]

-- it is due
pub due_of-first : (e : List ℕ) (now : ℕ) (xs : List Entry) → IsRising xs → first_due now xs ≡ Some e → (k : ℕ) × ((due_of e xs ≡ Some k) × (k ≤ now))
unfolding IsStrictlySortedBy
due_of-first e now [] rising is = absurd cc
due_of-first e now (x ∷ xs) rising is =
    elim (cases_lt now x.1.1) [
      | inl later ↦
          let first : first_due now xs ≡ Some e = rw (lt-leb x.1.1 now later) at is in
          let rest = due_of-first e now xs rising.1 first in
          let greater : text_cmp e x.0 ≡ Greater = turned x.0 e Less (first_above x.0 e now xs rising.0 first) in
          (rest.0, (rw greater rest.1.0, rest.1.1))
      | inr come ↦
          let same : x.0 ≡ e = some_first x.0 e (rw (le-leb x.1.1 now come) at is) in
          (x.1.1, (subst (λ k. due_of k (x ∷ xs) ≡ Some x.1.1) same (ap (option_map (λ note. note.1)) (note_of_first x.0 x.1 xs)), come))
    ]

-- a lesser endpoint is due later
pub due_of-before_first : (n e : List ℕ) (now k : ℕ) (xs : List Entry) → first_due now xs ≡ Some e → text_cmp n e ≡ Less → due_of n xs ≡ Some k → now < k
due_of-before_first n e now k [] is less has = absurd cc
due_of-before_first n e now k (x ∷ xs) is less has =
    elim (cases_lt now x.1.1) [
      | inl later ↦ by (text_cmp n x.0) later (due_of-before_first n e now k xs (rw (lt-leb x.1.1 now later) at is) less) has
      | inr come ↦
          let same : x.0 ≡ e = some_first x.0 e (rw (le-leb x.1.1 now come) at is) in
          let below : text_cmp n x.0 ≡ Less = rw same less in
          absurd (let none : ◌≡◌ {A = Option ℕ} None (Some k) = rw below at has in cc)
    ]
  where
    by : (o : Ordering) → now < x.1.1 → (due_of n xs ≡ Some k → now < k) → option_map (λ note. note.1) (match_ordering o None (Some x.1) (note_of n xs)) ≡ Some k → now < k
    by Less later rest has = absurd cc
    by Equal later rest has = some_later now x.1.1 k later has
    by Greater later rest has = rest has

-- where none is due, each is due later
pub due_of-none_due : (n : List ℕ) (now k : ℕ) (xs : List Entry) → first_due now xs ≡ None → due_of n xs ≡ Some k → now < k
due_of-none_due n now k [] is has = absurd cc
due_of-none_due n now k (x ∷ xs) is has =
    elim (cases_lt now x.1.1) [
      | inl later ↦ by (text_cmp n x.0) later (due_of-none_due n now k xs (rw (lt-leb x.1.1 now later) at is)) has
      | inr come ↦ absurd (let some : Some x.0 ≡ None = rw (le-leb x.1.1 now come) at is in cc)
    ]
  where
    by : (o : Ordering) → now < x.1.1 → (due_of n xs ≡ Some k → now < k) → option_map (λ note. note.1) (match_ordering o None (Some x.1) (note_of n xs)) ≡ Some k → now < k
    by Less later rest has = absurd cc
    by Equal later rest has = some_later now x.1.1 k later has
    by Greater later rest has = rest has

-- ---- the first that is due, raised
pub due_of-raised : (e : List ℕ) (now due : ℕ) (xs : List Entry) → IsRising xs → first_due now xs ≡ Some e → due_of e (raised now due xs) ≡ Some due
unfolding IsStrictlySortedBy
due_of-raised e now due [] rising is = absurd cc
due_of-raised e now due (x ∷ xs) rising is =
    elim (cases_lt now x.1.1) [
      | inl later ↦
          let first : first_due now xs ≡ Some e = rw (lt-leb x.1.1 now later) at is in
          let greater : text_cmp e x.0 ≡ Greater = turned x.0 e Less (first_above x.0 e now xs rising.0 first) in
          rw (lt-leb x.1.1 now later, greater) (due_of-raised e now due xs rising.1 first)
      | inr come ↦
          let same : x.0 ≡ e = some_first x.0 e (rw (le-leb x.1.1 now come) at is) in
          rw (le-leb x.1.1 now come) (subst (λ k. due_of k ((x.0, (x.1.0, due)) ∷ xs) ≡ Some due) same (ap (option_map (λ note. note.1)) (note_of_first x.0 (x.1.0, due) xs)))
    ]

pub note_of-raised_other : (n e : List ℕ) (now due : ℕ) (xs : List Entry) → first_due now xs ≡ Some e → text_cmp n e ≢ Equal → note_of n (raised now due xs) ≡ note_of n xs
note_of-raised_other n e now due [] is other = refl
note_of-raised_other n e now due (x ∷ xs) is other =
    elim (cases_lt now x.1.1) [
      | inl later ↦
          let first : first_due now xs ≡ Some e = rw (lt-leb x.1.1 now later) at is in
          rw (lt-leb x.1.1 now later) (ap (λ t. match_ordering (text_cmp n x.0) None (Some x.1) t) (note_of-raised_other n e now due xs first other))
      | inr come ↦
          let same : x.0 ≡ e = some_first x.0 e (rw (le-leb x.1.1 now come) at is) in
          rw (le-leb x.1.1 now come) (note_of_beside n x (x.1.0, due) xs (λ tie. other (ap (text_cmp n) (sym same) ∙ tie)))
    ]

-- ---- whether one is kept
kept_by : (o : Ordering) (x y : Note) (a b : Option Note) → x.0 ≡ y.0 → option_map (λ note. note.0) a ≡ option_map (λ note. note.0) b → option_map (λ (note : Note). note.0) (match_ordering o None (Some x) a) ≡ option_map (λ (note : Note). note.0) (match_ordering o None (Some y) b)
kept_by Less x y a b same rest = refl
kept_by Equal x y a b same rest = ap Some same
kept_by Greater x y a b same rest = rest

pub kept_of-raised : (n : List ℕ) (now due : ℕ) (xs : List Entry) → kept_of n (raised now due xs) ≡ kept_of n xs
kept_of-raised n now due [] = refl
kept_of-raised n now due (x ∷ xs) =
    elim (cases_lt now x.1.1) [
      | inl later ↦ rw (lt-leb x.1.1 now later) (kept_by (text_cmp n x.0) x.1 x.1 (note_of n (raised now due xs)) (note_of n xs) refl (kept_of-raised n now due xs))
      | inr come ↦ rw (le-leb x.1.1 now come) (kept_by (text_cmp n x.0) (x.1.0, due) x.1 (note_of n xs) (note_of n xs) refl refl)
    ]
