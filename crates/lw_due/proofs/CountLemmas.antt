-- How many endpoints there are, and how many are kept, after each change.
use Rattle.std.proofs.Common.{◌≡◌, ℕ, ◌+◌, ◌<◌, ◌≤◌, suc, Bool, true, false, cond, List, [], ◌∷◌, length, Option, None, Some, refl, ap, subst, arith, min}
use Rattle.std.specs.Ordering.{match_ordering}
use Rattle.std.specs.Option.{option_map}
use Rattle.std.specs.Prelude.{filter}
use Rattle.std.specs.Map.{keys_of}
use Rattle.std.specs.declared.cmp.Ordering.{Ordering}
use Rattle.std.specs.declared.cmp.Ordering.TheVariants.{Less, Equal, Greater}
use Rattle.lw_stamp.specs.TextOrder.{text_cmp}
use Rattle.lw_due.specs.Due.{Entry, Note, note_of, kept_of, with_entry, changed, with_kept, lowered, is_kept, is_due, kept_in, raised}
use Rattle.lw_due.specs.inner.Notes.{recounted}

-- ---- how many there are
pub length-changed : (e : List ℕ) (f : Note → Note) (xs : List Entry) → length (changed e f xs) ≡ length xs
length-changed e f [] = refl
length-changed e f (x ∷ xs) =
    elim (text_cmp e x.0) as (λ o. length (match_ordering o (x ∷ xs) ((x.0, f x.1) ∷ xs) (x ∷ changed e f xs)) ≡ suc (length xs)) [
      | Less ↦ refl
      | Equal ↦ refl
      | Greater ↦ ap suc (length-changed e f xs)
    ]

pub length-raised : (now due : ℕ) (xs : List Entry) → length (raised now due xs) ≡ length xs
length-raised now due [] = refl
length-raised now due (x ∷ xs) =
    elim (is_due now x.1) as (λ b. length (cond b ((x.0, (x.1.0, due)) ∷ xs) (x ∷ raised now due xs)) ≡ suc (length xs)) [
      | true ↦ refl
      | false ↦ ap suc (length-raised now due xs)
    ]

one_more_by : (o : Ordering) (e : List ℕ) (note : Note) (x : Entry) (xs : List Entry) → (note_of e xs ≡ None → length (with_entry e note xs) ≡ length xs + 1) → match_ordering o None (Some x.1) (note_of e xs) ≡ None → length (match_ordering o ((e, note) ∷ x ∷ xs) (x ∷ xs) (x ∷ with_entry e note xs)) ≡ length (x ∷ xs) + 1
one_more_by Less e note x xs rest h = omega arith
one_more_by Equal e note x xs rest h = absurd cc
one_more_by Greater e note x xs rest h = omega (arith, rest h)

pub length-with_entry : (e : List ℕ) (note : Note) (xs : List Entry) → note_of e xs ≡ None → length (with_entry e note xs) ≡ length xs + 1
length-with_entry e note [] h = omega arith
length-with_entry e note (x ∷ xs) h = one_more_by (text_cmp e x.0) e note x xs (length-with_entry e note xs) h

-- ---- how many are kept
abbrev pub kept_count : List Entry → ℕ
kept_count xs = length (kept_in xs)

-- with one before
count_by : (b : Bool) (x : Entry) (xs : List Entry) → length (keys_of (cond b (x ∷ filter (λ y. is_kept y.1) xs) (filter (λ y. is_kept y.1) xs))) ≡ cond b 1 0 + kept_count xs
count_by true x xs = omega arith
count_by false x xs = omega arith

counted : (x : Entry) (xs : List Entry) → kept_count (x ∷ xs) ≡ cond x.1.0 1 0 + kept_count xs
counted x xs = count_by x.1.0 x xs

one_at_most : (b : Bool) → cond b 1 0 ≤ 1
one_at_most true = omega arith
one_at_most false = omega arith

pub kept_at_most : (xs : List Entry) → kept_count xs ≤ length xs
kept_at_most [] = omega arith
kept_at_most (x ∷ xs) = omega (arith, counted x xs, one_at_most x.1.0, kept_at_most xs)

pub kept_count-raised : (now due : ℕ) (xs : List Entry) → kept_count (raised now due xs) ≡ kept_count xs
kept_count-raised now due [] = refl
kept_count-raised now due (x ∷ xs) =
    elim (is_due now x.1) as (λ b. kept_count (cond b ((x.0, (x.1.0, due)) ∷ xs) (x ∷ raised now due xs)) ≡ kept_count (x ∷ xs)) [
      | true ↦ omega (arith, counted x xs, counted (x.0, (x.1.0, due)) xs)
      | false ↦ omega (arith, counted x xs, counted x (raised now due xs), kept_count-raised now due xs)
    ]

put_by : (o : Ordering) (e : List ℕ) (note : Note) (x : Entry) (xs : List Entry) → (note_of e xs ≡ None → kept_count (with_entry e note xs) ≡ kept_count xs + cond note.0 1 0) → match_ordering o None (Some x.1) (note_of e xs) ≡ None → kept_count (match_ordering o ((e, note) ∷ x ∷ xs) (x ∷ xs) (x ∷ with_entry e note xs)) ≡ kept_count (x ∷ xs) + cond note.0 1 0
put_by Less e note x xs rest h = omega (arith, counted (e, note) (x ∷ xs))
put_by Equal e note x xs rest h = absurd cc
put_by Greater e note x xs rest h = omega (arith, counted x xs, counted x (with_entry e note xs), rest h)

pub kept_count-with_entry : (e : List ℕ) (note : Note) (xs : List Entry) → note_of e xs ≡ None → kept_count (with_entry e note xs) ≡ kept_count xs + cond note.0 1 0
kept_count-with_entry e note [] h = omega (arith, counted (e, note) [])
kept_count-with_entry e note (x ∷ xs) h = put_by (text_cmp e x.0) e note x xs (kept_count-with_entry e note xs) h

pub kept_count-lowered : (e : List ℕ) (due : ℕ) (xs : List Entry) → kept_count (lowered e due xs) ≡ kept_count xs
kept_count-lowered e due [] = refl
kept_count-lowered e due (x ∷ xs) = by (text_cmp e x.0) (min x.1.1 due) (kept_count-lowered e due xs)
  where
    by : (o : Ordering) (k : ℕ) → kept_count (lowered e due xs) ≡ kept_count xs → kept_count (match_ordering o (x ∷ xs) ((x.0, (x.1.0, k)) ∷ xs) (x ∷ lowered e due xs)) ≡ kept_count (x ∷ xs)
    by Less k rest = refl
    by Equal k rest = omega (arith, counted x xs, counted (x.0, (x.1.0, k)) xs)
    by Greater k rest = omega (arith, counted x xs, counted x (lowered e due xs), rest)

-- ---- of an endpoint that is kept or not
abbrev one_kept : Option Bool → ℕ
one_kept None = 0
one_kept (Some b) = cond b 1 0

abbrev one_then : Option Bool → Bool → ℕ
one_then None kept = 0
one_then (Some b) kept = cond kept 1 0

-- of the note at the endpoint, or of those behind
balanced_by : (o : Ordering) (e : List ℕ) (kept : Bool) (x : Entry) (xs : List Entry)
    → kept_count (with_kept e kept xs) + one_kept (kept_of e xs) ≡ kept_count xs + one_then (kept_of e xs) kept
    → kept_count (match_ordering o (x ∷ xs) ((x.0, (kept, x.1.1)) ∷ xs) (x ∷ with_kept e kept xs)) + one_kept (option_map (λ (note : Note). note.0) (match_ordering o None (Some x.1) (note_of e xs)))
    ≡ kept_count (x ∷ xs) + one_then (option_map (λ (note : Note). note.0) (match_ordering o None (Some x.1) (note_of e xs))) kept
balanced_by Less e kept x xs rest = refl
balanced_by Equal e kept x xs rest = omega (arith, counted x xs, counted (x.0, (kept, x.1.1)) xs)
balanced_by Greater e kept x xs rest = omega (arith, counted x xs, counted x (with_kept e kept xs), rest)

balanced : (e : List ℕ) (kept : Bool) (xs : List Entry) → kept_count (with_kept e kept xs) + one_kept (kept_of e xs) ≡ kept_count xs + one_then (kept_of e xs) kept
balanced e kept [] = refl
balanced e kept (x ∷ xs) = balanced_by (text_cmp e x.0) e kept x xs (balanced e kept xs)

recount_by : (old new : ℕ) (o : Option Bool) (kept : Bool) → new + one_kept o ≡ old + one_then o kept → new ≡ recounted old o kept
recount_by old new None kept h = omega (arith, h)
recount_by old new (Some false) kept h = omega (arith, h)
recount_by old new (Some true) true h = omega (arith, h)
recount_by old new (Some true) false h = omega (arith, h)

pub kept_count-with_kept : (e : List ℕ) (kept : Bool) (xs : List Entry) → kept_count (with_kept e kept xs) ≡ recounted (kept_count xs) (kept_of e xs) kept
kept_count-with_kept e kept xs = recount_by (kept_count xs) (kept_count (with_kept e kept xs)) (kept_of e xs) kept (balanced e kept xs)

-- where one is not kept, fewer are kept than there are
pub fewer_kept : (e : List ℕ) (xs : List Entry) → kept_of e xs ≡ Some false → kept_count xs < length xs
fewer_kept e xs is =
    let more : kept_count (with_kept e true xs) + one_kept (kept_of e xs) ≡ kept_count xs + one_then (kept_of e xs) true = balanced e true xs in
    let one : kept_count (with_kept e true xs) + 0 ≡ kept_count xs + 1 = subst (λ o. kept_count (with_kept e true xs) + one_kept o ≡ kept_count xs + one_then o true) is more in
    omega (arith, one, kept_at_most (with_kept e true xs), length-changed e (λ note. (true, note.1)) xs)
