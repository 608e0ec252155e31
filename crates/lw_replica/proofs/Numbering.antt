-- Bits of numbers, eight a byte, and the numbers of which entries tell.
use Rattle.std.proofs.Common.{◌≡◌, ◌↔◌, ◌⊎◌, inl, inr, ℕ, ◌*◌, ◌/◌, ◌%◌, ◌^◌, ◌<◌, ◌≤◌, List, [], ◌∷◌, ◌++◌, length, max, Bool, true, false, refl, sym, ap, ◌∙◌, subst, arith, get_or, bit_or, zero, suc}
use Rattle.std.specs.Prelude.{nat_eq, nat_lt, replicate}
use Rattle.std.specs.Int.{bit_at, w8}
use Rattle.std.proofs.Math.ListN.{set}
use Rattle.std.proofs.lemmas.Bool.{eqb-true, eq-eqb, ltb-true, ltb-false}
use Rattle.std.proofs.lemmas.List.{length-replicate, get_or-set_same, get_or-set_other, get_or-replicate, get_or_past}
use Rattle.std.proofs.lemmas.Nat.Bits.{bit_at_or, bit_at-zero, bit_at-lt, bit_at_set_same, bit_at_set_other}
use Rattle.lw_log.specs.Entries.{EntryContent, IsEntry}
use Rattle.lw_replica.specs.Beginning.{IsFirstFree}
use Rattle.lw_replica.specs.Reading.{HasBit, TellsOf, Meets, IsMet, AreNoted}

same_or_not : {G : Type 0} (m n : ℕ) → (m ≡ n → G) → ((m ≡ n → ⊥) → G) → G
same_or_not {G} m n same other = go (nat_eq m n) refl
  where
    go : (b : Bool) → nat_eq m n ≡ b → G
    go true is = same (eqb-true m n is)
    go false is = other (λ h. let bad = eq-eqb m n h in absurd cc)

-- ---- one bit more
same_bits : (new old : List ℕ) (number n : ℕ) → bit_at (get_or new (n / 8) 0) (n % 8) ≡ bit_at (get_or old (n / 8) 0) (n % 8) → (number ≡ n → ⊥) → HasBit new n ↔ (HasBit old n ⊎ (number ≡ n))
same_bits new old number n same other = (
  λ h. inl (sym same ∙ h),
  λ h. elim h [ inl had ↦ same ∙ had | inr is ↦ absurd (other is) ],
)

pub bit_noted : (xs : List ℕ) (number n : ℕ) → number < 65536 → length xs ≡ 8192
    → HasBit (set xs (number / 8) (bit_or (get_or xs (number / 8) 0) (1 * 2 ^ (number % 8) % 256))) n ↔ (HasBit xs n ⊎ (number ≡ n))
bit_noted xs number n below long =
    let byte = bit_or (get_or xs (number / 8) 0) (1 * 2 ^ (number % 8) % 256) in
    let new = set xs (number / 8) byte in
    same_or_not (n / 8) (number / 8)
    (λ here.
    let now : get_or new (n / 8) 0 ≡ byte = ap (λ (i : ℕ). get_or new i 0) here ∙ get_or-set_same xs (number / 8) byte 0 (omega (arith, long)) in
    same_or_not (n % 8) (number % 8)
    (λ bit.
    let is : number ≡ n = omega (arith, here, bit) in
    let has : HasBit new n = ap (λ b. bit_at b (n % 8)) now ∙ ap (λ i. bit_at byte i) bit ∙ bit_at_set_same w8 (get_or xs (number / 8) 0) (number % 8) (omega arith) in
    (λ h. inr is, λ h. has))
    (λ bit.
    same_bits new xs number n
    (ap (λ b. bit_at b (n % 8)) now ∙ bit_at_set_other w8 (get_or xs (number / 8) 0) (number % 8) (omega arith) (n % 8) bit ∙ ap (λ (i : ℕ). bit_at (get_or xs i 0) (n % 8)) (sym here))
    (λ is. bit (ap (λ (m : ℕ). m % 8) (sym is)))))
    (λ there.
    same_bits new xs number n
    (ap (λ b. bit_at b (n % 8)) (get_or-set_other xs (number / 8) (n / 8) byte 0 there))
    (λ is. there (ap (λ (m : ℕ). m / 8) (sym is))))

-- ---- all the bits of others
either_bit : (a b i : ℕ) → bit_at (bit_or a b) i ≡ 1 ↔ ((bit_at a i ≡ 1) ⊎ (bit_at b i ≡ 1))
either_bit a b i = go (bit_at a i) (bit_at b i) (bit_at-lt a i) (bit_at-lt b i) (bit_at_or a b i)
  where
    go : (x y : ℕ) → x < 2 → y < 2 → bit_at (bit_or a b) i ≡ max x y → bit_at (bit_or a b) i ≡ 1 ↔ ((x ≡ 1) ⊎ (y ≡ 1))
    go zero zero hx hy e = (λ h. absurd (omega (arith, e, h)), λ h. elim h [ inl z ↦ absurd (omega (arith, z)) | inr z ↦ absurd (omega (arith, z)) ])
    go zero (suc zero) hx hy e = (λ h. inr refl, λ h. e)
    go (suc zero) zero hx hy e = (λ h. inl refl, λ h. e)
    go (suc zero) (suc zero) hx hy e = (λ h. inl refl, λ h. e)
    go zero (suc (suc y)) hx hy e = absurd (omega (arith, hy))
    go (suc zero) (suc (suc y)) hx hy e = absurd (omega (arith, hy))
    go (suc (suc x)) y hx hy e = absurd (omega (arith, hx))

below_or_not : {G : Type 0} (a b : ℕ) → (a < b → G) → (b ≤ a → G) → G
below_or_not {G} a b low high = go (nat_lt a b) refl
  where
    go : (t : Bool) → nat_lt a b ≡ t → G
    go true is = low (ltb-true a b is)
    go false is = high (ltb-false a b is)

no_bit_past : (xs : List ℕ) (n : ℕ) → length xs ≤ n / 8 → HasBit xs n → ⊥
no_bit_past xs n past h =
    let none : bit_at (get_or xs (n / 8) 0) (n % 8) ≡ 0 = ap (λ b. bit_at b (n % 8)) (get_or_past xs (n / 8) 0 past) ∙ bit_at-zero (n % 8) in
    absurd (omega (arith, none, h))

pub bits_merged : (old more new : List ℕ) → length more ≡ 8192
    → ((k : ℕ) → k < 8192 → get_or new k 0 ≡ bit_or (get_or old k 0) (get_or more k 0)) → ((k : ℕ) → 8192 ≤ k → get_or new k 0 ≡ get_or old k 0)
    → (n : ℕ) → HasBit new n ↔ (HasBit old n ⊎ HasBit more n)
bits_merged old more new long within past n =
    below_or_not (n / 8) 8192
    (λ low.
    let is = within (n / 8) low in
    subst (λ b. (bit_at b (n % 8) ≡ 1) ↔ (HasBit old n ⊎ HasBit more n)) (sym is) (either_bit (get_or old (n / 8) 0) (get_or more (n / 8) 0) (n % 8)))
    (λ high.
    let is = ap (λ b. bit_at b (n % 8)) (past (n / 8) high) in (
      λ h. inl (sym is ∙ h),
      λ h. elim h [ inl had ↦ is ∙ had | inr bad ↦ absurd (no_bit_past more n (omega (arith, long, high)) bad) ],
    ))

-- ---- no bits
pub no_bits : (xs : List ℕ) → xs ≡ replicate 8192 0 → (n : ℕ) → HasBit xs n → ⊥
no_bits xs is n h =
    below_or_not (n / 8) 8192
    (λ low.
    let none : bit_at (get_or xs (n / 8) 0) (n % 8) ≡ 0 = ap (λ b. bit_at b (n % 8)) (ap (λ (ys : List ℕ). get_or ys (n / 8) 0) is ∙ get_or-replicate 8192 (n / 8) 0 0 low) ∙ bit_at-zero (n % 8) in
    absurd (omega (arith, none, h)))
    (λ high. no_bit_past xs n (let long = ap (λ (ys : List ℕ). length ys) is ∙ length-replicate {A = ℕ} 8192 0 in omega (arith, long, high)) h)

-- nor has the empty list any
pub none_in_none : (n : ℕ) → HasBit [] n → ⊥
none_in_none n h = no_bit_past [] n (omega arith) h

-- ---- the numbers of which entries tell
met_either : (n : ℕ) (xs ys : List (List ℕ)) → IsMet n (xs ++ ys) ↔ (IsMet n xs ⊎ IsMet n ys)
met_either n [] ys = (λ h. inr h, λ h. elim h [ inl bad ↦ absurd bad | inr met ↦ met ])
met_either n (x ∷ xs) ys =
    let more = met_either n xs ys in (
      λ h. elim h [
        | inl here ↦ inl (inl here)
        | inr later ↦ elim (more.0 later) [ inl a ↦ inl (inr a) | inr b ↦ inr b ]
      ],
      λ h. elim h [
        | inl before ↦ elim before [ inl here ↦ inl here | inr later ↦ inr (more.1 (inl later)) ]
        | inr behind ↦ inr (more.1 (inr behind))
      ],
    )

pub noted_none : (used_numbers : List ℕ) → AreNoted used_numbers [] used_numbers
noted_none used_numbers n = (λ h. inl h, λ h. elim h [ inl had ↦ had | inr bad ↦ absurd bad ])

pub noted_one : (old new bytes : List ℕ) → ((n : ℕ) → HasBit new n ↔ (HasBit old n ⊎ Meets n bytes)) → AreNoted old (bytes ∷ []) new
noted_one old new bytes noted n = (
  λ h. elim ((noted n).0 h) [ inl had ↦ inl had | inr meets ↦ inr (inl meets) ],
  λ h. elim h [
    | inl had ↦ (noted n).1 (inl had)
    | inr met ↦ elim met [ inl meets ↦ (noted n).1 (inr meets) | inr bad ↦ absurd bad ]
  ],
)

pub noted_then : (old mid new : List ℕ) (xs ys : List (List ℕ)) → AreNoted old xs mid → AreNoted mid ys new → AreNoted old (xs ++ ys) new
noted_then old mid new xs ys one two n =
    let both = met_either n xs ys in (
      λ h. elim ((two n).0 h) [
        | inl had ↦ elim ((one n).0 had) [ inl before ↦ inl before | inr a ↦ inr (both.1 (inl a)) ]
        | inr b ↦ inr (both.1 (inr b))
      ],
      λ h. elim h [
        | inl before ↦ (two n).1 (inl ((one n).1 (inl before)))
        | inr met ↦ elim (both.0 met) [ inl a ↦ (two n).1 (inl ((one n).1 (inr a))) | inr b ↦ (two n).1 (inr b) ]
      ],
    )

-- where there were none, it is as with the empty list
pub noted_new : (old new : List ℕ) (es : List (List ℕ)) → ((n : ℕ) → HasBit old n → ⊥) → AreNoted old es new → AreNoted [] es new
noted_new old new es none noted n = (
  λ h. elim ((noted n).0 h) [ inl had ↦ absurd (none n had) | inr met ↦ inr met ],
  λ h. elim h [ inl bad ↦ absurd (none_in_none n bad) | inr met ↦ (noted n).1 (inr met) ],
)

pub noted_same : (old from new to : List ℕ) (es : List (List ℕ)) → from ≡ old → to ≡ new → AreNoted old es new → AreNoted from es to
noted_same old from new to es before after noted = subst (λ xs. AreNoted xs es to) (sym before) (subst (λ ys. AreNoted old es ys) (sym after) noted)

-- what the entry tells is what its bytes tell
pub noted_entry : (old new bytes : List ℕ) (e : EntryContent) → IsEntry bytes e → ((x : EntryContent) → IsEntry bytes x → e ≡ x)
    → ((n : ℕ) → HasBit new n ↔ (HasBit old n ⊎ ((e.number ≡ n) ⊎ TellsOf n e.body))) → (n : ℕ) → HasBit new n ↔ (HasBit old n ⊎ Meets n bytes)
noted_entry old new bytes e is only noted n = (
  λ h. elim ((noted n).0 h) [ inl had ↦ inl had | inr told ↦ inr (e, is, told) ],
  λ h. elim h [
    | inl had ↦ (noted n).1 (inl had)
    | inr meets ↦ (noted n).1 (inr (subst (λ (x : EntryContent). (x.number ≡ n) ⊎ TellsOf n x.body) (sym (only meets.0 meets.1)) meets.2))
  ],
)

-- bytes that are no entry tell of none
pub noted_no_entry : (old bytes : List ℕ) → ((x : EntryContent) → IsEntry bytes x → ⊥) → (n : ℕ) → HasBit old n ↔ (HasBit old n ⊎ Meets n bytes)
noted_no_entry old bytes none n = (λ h. inl h, λ h. elim h [ inl had ↦ had | inr meets ↦ absurd (none meets.0 meets.1) ])

-- the first that has no bit is the first of which no entry tells
pub first_free_met : (used_numbers : List ℕ) (es : List (List ℕ)) (first number : ℕ) → AreNoted [] es used_numbers → IsFirstFree (HasBit used_numbers) first number → IsFirstFree (λ n. IsMet n es) first number
first_free_met used_numbers es first number noted is = record {
  within = is.within;
  free = λ met. is.free ((noted number).1 (inr met));
  before = λ n low high comes. elim ((noted n).0 (is.before n low high comes)) [ inl bad ↦ absurd (none_in_none n bad) | inr met ↦ met ];
}
