-- Numbers as they are printed and read.
use Rattle.std.proofs.Common.{◌≡◌, ◌≢◌, ℕ, ◌^◌, ◌<◌, ◌≤◌, true, ◌&&◌, ltb, List, ◌∷◌, ◌++◌, length, get_or, Some, None, Result, Ok, Err, nat_eq, refl, sym, ap, ◌∙◌, arith, inl, inr}
use Rattle.std.specs.Cmp.Lexicographic.{pointwise}
use Rattle.std.specs.Fmt.{decimal}
use Rattle.std.specs.Result.{result_ok}
use Rattle.std.specs.Str.Parse.{AllDigits, digits_value, ParsesUnsigned}
use Rattle.std.proofs.lemmas.Bool.{and_parts, ltb-true, lt-ltb, cases_Bool, cases_lt}
use Rattle.std.proofs.lemmas.Fmt.{digits_decimal, digits_value-decimal, decimal_digit, first_decimal, decimal-digits_value, decimal_nonempty}
use Rattle.std.proofs.lemmas.List.{get_or_append_left}
use Rattle.std.proofs.lemmas.Slice.Eq.{bytes_eq-Decides}
use Rattle.std.proofs.lemmas.Str.Parse.{IsNumeralModel, numerals_by_value, tells_digits, parse_plain, digit_at}
use Rattle.lw_reg.specs.inner.Addr.Reading.{◌>>=◌, number_in, IsPlain, octet_then, cut_at}
use Rattle.lw_reg.proofs.Addresses.Cuts.{Lacks, bind_some, some_is, guard_some, cut_at-first, cut_at_parts}

own : IsNumeralModel (AllDigits 10) (digits_value 10)
own = numerals_by_value (AllDigits 10) tells_digits

-- what is read is printed so
pub number_in_text : (limit : ℕ) (text : List ℕ) (n : ℕ) → number_in limit text ≡ Some n → (text ≡ decimal n) × (n < limit)
unfolding number_in
number_in_text limit text n e =
    let g = guard_some (ltb (digits_value 10 text) limit && pointwise nat_eq text (decimal (digits_value 10 text))) (digits_value 10 text) n e in
    let both = and_parts _ _ g.0 in
    let same : text ≡ decimal (digits_value 10 text) = (bytes_eq-Decides _ _).0 both.1 in
    (same ∙ ap decimal g.1, omega (arith, ltb-true _ _ both.0, g.1))

-- what is printed so is read
pub number_in-decimal : (limit n : ℕ) → n < limit → n < 2 ^ 64 → number_in limit (decimal n) ≡ Some n
unfolding number_in
number_in-decimal limit n below fits =
    let value : digits_value 10 (decimal n) ≡ n = digits_value-decimal own n fits in
    let same : pointwise nat_eq (decimal n) (decimal n) ≡ true = (bytes_eq-Decides (decimal n) (decimal n)).1 refl in
    rw (value, lt-ltb n limit below, same) refl

number_in-none : (limit : ℕ) (text : List ℕ) → ((n : ℕ) → n < limit → text ≢ decimal n) → number_in limit text ≡ None
unfolding number_in
number_in-none limit text h =
    elim (cases_Bool (ltb (digits_value 10 text) limit && pointwise nat_eq text (decimal (digits_value 10 text)))) [
      | inl passed ↦
          let both = and_parts _ _ passed in
          absurd (h (digits_value 10 text) (ltb-true _ _ both.0) ((bytes_eq-Decides _ _).0 both.1))
      | inr failed ↦ rw failed refl
    ]

-- the characters of a number are digits
pub decimal_lacks : (c n : ℕ) → n < 2 ^ 64 → (48 ≤ c → c ≤ 57 → ⊥) → Lacks c (decimal n)
decimal_lacks c n fits other i lt e =
    let d = digit_at (decimal n) i (digits_decimal own n fits) lt in
    other (omega (arith, d, e)) (omega (arith, d, e))

pub first_of_decimal : (n : ℕ) (text : List ℕ) → n < 2 ^ 64 → (48 ≤ get_or (decimal n ++ text) 0 0) × (get_or (decimal n ++ text) 0 0 ≤ 57)
first_of_decimal n text fits =
    let some : 0 < length (decimal n) = decimal_nonempty n fits in
    rw (get_or_append_left (decimal n) text 0 0 some) (digit_at (decimal n) 0 (digits_decimal own n fits) some)

plain_decimal : (n : ℕ) → n < 2 ^ 64 → IsPlain (decimal n)
plain_decimal n fits = record {
  unsigned = decimal_lacks 43 n fits (λ low high. omega arith) 0 (decimal_nonempty n fits);
  no_zero = λ zero_first. elim (cases_lt 0 n) [
    | inl some ↦ absurd (omega (arith, first_decimal n some fits, zero_first))
    | inr none ↦
        let e : n ≡ 0 = omega arith in
        rw e (ap length (decimal_digit 0 (omega arith)))
  ];
}

-- what is not plain is no number
pub number_in-not_plain : (limit : ℕ) (text : List ℕ) → limit ≤ 2 ^ 64 → (IsPlain text → ⊥) → number_in limit text ≡ None
number_in-not_plain limit text small h =
    number_in-none limit text (λ n below e. h (rw e (plain_decimal n (omega arith))))

abbrev Parsed : {E : Type 0} → ℕ → List ℕ → Result ℕ E → Type 0
Parsed k text r = number_in (2 ^ k) text ≡ result_ok r

-- what is plain is read as `parse` reads it
pub number_in-plain : {E : Type 0} (k : ℕ) (text : List ℕ) (r : Result ℕ E) → 2 ^ k ≤ 2 ^ 64 → IsPlain text → ParsesUnsigned k 10 text r → number_in (2 ^ k) text ≡ result_ok r
number_in-plain {E} k text (Ok n) small plain h =
    let p = parse_plain own {E = E} k text (Ok n) h plain.unsigned in
    let back : decimal (digits_value 10 text) ≡ text = decimal-digits_value own text p.0.0 p.0.1 plain.no_zero (omega (arith, p.0.2)) in
    ap (number_in (2 ^ k)) (sym back) ∙ number_in-decimal (2 ^ k) (digits_value 10 text) p.0.2 (omega (arith, p.0.2)) ∙ ap (λ (m : ℕ). Some m) (sym p.1)
number_in-plain {E} k text (Err e) small plain h =
    let p = parse_plain own {E = E} k text (Err e) h plain.unsigned in
    number_in-none (2 ^ k) text (λ n below same. p (
      rw same (digits_decimal own n (omega arith)),
      rw same (decimal_nonempty n (omega arith)),
      rw (same, digits_value-decimal own n (omega arith)) below,
    ))

-- ---- a number, then c

pub octet_then_text : (c : ℕ) (text : List ℕ) (x : ℕ × List ℕ) → octet_then c text ≡ Some x → (text ≡ decimal x.0 ++ (c ∷ x.1)) × (x.0 < 2 ^ 8)
unfolding octet_then
octet_then_text c text x e =
    let a = bind_some (cut_at c text) (λ y. number_in (2 ^ 8) y.0 >>= λ n. Some (n, y.1)) x e in
    let b = bind_some (number_in (2 ^ 8) a.0.0) (λ n. Some (n, a.0.1)) x a.2 in
    let n = number_in_text (2 ^ 8) a.0.0 b.0 b.1 in
    let same = some_is (b.0, a.0.1) x b.2 in
    (cut_at_parts c text a.0 a.1 ∙ ap (λ (t : List ℕ). t ++ (c ∷ a.0.1)) n.0 ∙ ap (λ (y : ℕ × List ℕ). decimal y.0 ++ (c ∷ y.1)) same, omega (arith, n.1, ap (λ (y : ℕ × List ℕ). y.0) same))

pub octet_then-decimal : (c n : ℕ) (rest : List ℕ) → n < 2 ^ 8 → (48 ≤ c → c ≤ 57 → ⊥) → octet_then c (decimal n ++ (c ∷ rest)) ≡ Some (n, rest)
unfolding octet_then
octet_then-decimal c n rest below other =
    rw (cut_at-first c (decimal n) rest (decimal_lacks c n (omega arith) other), number_in-decimal (2 ^ 8) n below (omega arith)) refl
