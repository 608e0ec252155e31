-- Passes keep their numbers when a call is made with one of them.
use Rattle.std.proofs.Common.{◌≡◌, ℕ, zero, suc, ◌+◌, ◌-◌, List, [], ◌∷◌, Option, Some, None, Result, Ok, Err, refl, sym, ap, ◌∙◌, arith}
use Rattle.std.specs.Prelude.{set, slice_get, slice_range, take, drop, IfOk, OnErr}
use Rattle.lw_stamp.specs.declared.no_memory.NoMemory.{NoMemory}
use Rattle.lw_held.specs.declared.entry.Entry.{Entry}
use Rattle.lw_held.specs.Agree.{AreDistinct}
use Rattle.lw_held.specs.Transcript.{Transcript, with_part}

pub number_kept : (node : ℕ) (P : ℕ → Entry → Type 0) (r : Result ℕ NoMemory) (old new : Transcript) → IfOk r (λ place. (entry : Entry) × P place entry × (new ≡ with_part old node place entry)) → OnErr r (new ≡ old) → new.number ≡ old.number
number_kept node P (Ok place) old new ok err = ap (λ (x : Transcript). x.number) ok.2
number_kept node P (Err refused) old new ok err = ap (λ (x : Transcript). x.number) err

pub first_kept : (P Q : Type 0) (r : Result ℕ NoMemory) → OnErr r (P × Q) → OnErr r P
first_kept P Q (Ok place) kept = tt
first_kept P Q (Err refused) kept = kept.0

-- the pass at a place, before another transcript of its number was put somewhere
record Before (passes : List Transcript) (place : ℕ) (after : Transcript) : Type 0 where
  pass : Transcript
  is : slice_get passes place ≡ Some pass
  number : pass.number ≡ after.number

before : (passes : List Transcript) (i : ℕ) (one new : Transcript) → slice_get passes i ≡ Some one → new.number ≡ one.number
    → (place : ℕ) (after : Transcript) → slice_get (set passes i new) place ≡ Some after → Before passes place after
before [] i one new at same place after is = absurd (let bad : ◌≡◌ {A = Option Transcript} None (Some one) = at in cc)
before (x ∷ passes) zero one new at same zero after is = record {
  pass = one;
  is = at;
  number = let e : new ≡ after = (let f : Some new ≡ Some after = is in cc) in sym same ∙ ap (λ (y : Transcript). y.number) e;
}
before (x ∷ passes) zero one new at same (suc place) after is = record { pass = after; is = is; number = refl }
before (x ∷ passes) (suc i) one new at same zero after is = record { pass = after; is = is; number = refl }
before (x ∷ passes) (suc i) one new at same (suc place) after is =
    let rest = before passes i one new at same place after is in
    record { pass = rest.pass; is = rest.is; number = rest.number }

pub distinct_kept : (passes : List Transcript) (i : ℕ) (one new : Transcript) → slice_get passes i ≡ Some one → new.number ≡ one.number → AreDistinct passes → AreDistinct (set passes i new)
distinct_kept passes i one new at same distinct j k a b is_a is_b equal =
    let x = before passes i one new at same j a is_a in
    let y = before passes i one new at same k b is_b in
    distinct j k x.pass y.pass x.is y.is (x.number ∙ equal ∙ sym y.number)

-- ---- a part of a list
get_drop : {A : Type 0} (i : ℕ) (xs : List A) (k : ℕ) → slice_get (drop i xs) k ≡ slice_get xs (i + k)
get_drop zero xs k = ap (slice_get xs) (let e : k ≡ zero + k = omega arith in e)
get_drop (suc i) [] k = refl
get_drop (suc i) (x ∷ xs) k = get_drop i xs k ∙ ap (slice_get (x ∷ xs)) (let e : suc (i + k) ≡ suc i + k = omega arith in e)

get_take : {A : Type 0} (n : ℕ) (xs : List A) (k : ℕ) (x : A) → slice_get (take n xs) k ≡ Some x → slice_get xs k ≡ Some x
get_take {A = A} zero xs k x at = absurd (let bad : ◌≡◌ {A = Option A} None (Some x) = at in cc)
get_take (suc n) [] k x at = at
get_take (suc n) (y ∷ xs) zero x at = at
get_take (suc n) (y ∷ xs) (suc k) x at = get_take n xs k x at

-- some passes in a row are as distinct as all
pub distinct_within : (passes : List Transcript) (first end : ℕ) → AreDistinct passes → AreDistinct (slice_range passes first end)
distinct_within passes first end distinct i j a b is_a is_b equal =
    let at_a : slice_get passes (first + i) ≡ Some a = sym (get_drop first passes i) ∙ get_take (end - first) (drop first passes) i a is_a in
    let at_b : slice_get passes (first + j) ≡ Some b = sym (get_drop first passes j) ∙ get_take (end - first) (drop first passes) j b is_b in
    let same : first + i ≡ first + j = distinct (first + i) (first + j) a b at_a at_b equal in
    omega (arith, same)

number_at : (x a : Transcript) → Some x ≡ Some a → x.number ≡ a.number
number_at x a is = let e : x ≡ a = (let f : Some x ≡ Some a = is in cc) in ap (λ (y : Transcript). y.number) e

-- two passes of different numbers are distinct, whichever comes first
pub distinct_two : (one other : Transcript) → ¬ (one.number ≡ other.number) → AreDistinct (one ∷ other ∷ [])
distinct_two one other apart zero zero a b is_a is_b equal = refl
distinct_two one other apart zero (suc zero) a b is_a is_b equal = absurd (apart (number_at one a is_a ∙ equal ∙ sym (number_at other b is_b)))
distinct_two one other apart (suc zero) zero a b is_a is_b equal = absurd (apart (number_at one b is_b ∙ sym equal ∙ sym (number_at other a is_a)))
distinct_two one other apart (suc zero) (suc zero) a b is_a is_b equal = refl
distinct_two one other apart (suc (suc i)) j a b is_a is_b equal = absurd (let bad : ◌≡◌ {A = Option Transcript} None (Some a) = is_a in cc)
distinct_two one other apart zero (suc (suc j)) a b is_a is_b equal = absurd (let bad : ◌≡◌ {A = Option Transcript} None (Some b) = is_b in cc)
distinct_two one other apart (suc zero) (suc (suc j)) a b is_a is_b equal = absurd (let bad : ◌≡◌ {A = Option Transcript} None (Some b) = is_b in cc)
