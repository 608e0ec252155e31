-- Numbers in decimal, and their lines.
use Rattle.std.proofs.Common.{◌≡◌, ◌≢◌, ℕ, suc, ◌+◌, ◌<◌, ◌≤◌, ◌^◌, ◌/◌, ◌%◌, ◌==◌, Bool, true, false, List, [], ◌∷◌, ◌++◌, length, Result, Ok, Err, refl, sym, ap, ◌∙◌, subst, inl, inr, arith}
use Rattle.std.specs.Prelude.{◌⊎◌}
use Rattle.std.specs.Fmt.{decimal}
use Rattle.std.specs.Str.{IsUtf8}
use Rattle.std.specs.Str.Parse.{ParsesUnsigned}
use Rattle.std.proofs.lemmas.Bool.{eqb-true}
use Rattle.std.proofs.lemmas.Fmt.{decimal_by_steps, decimal_step, decimal_digit, decimal_injective, parse-decimal, IsAscii-decimal}
use Rattle.std.proofs.lemmas.List.{append_assoc, append-nil, length-append}
use Rattle.std.proofs.lemmas.List.Elements.{All-nil, All-cons, All-push}
use Rattle.std.proofs.lemmas.Str.{IsUtf8-from_ascii}
use Rattle.lw_resp.specs.Bytes.{count_line}
use Rattle.lw_resp.specs.Reading.{Begins, IsCut, IsMalformed}
use Rattle.lw_resp.specs.Words.{IsInLine, IsLineText}
use Rattle.lw_resp.specs.inner.Parts.{IsAtMost, ended, number_ended}
use Rattle.lw_resp.proofs.Splits.{either_front, nothing_more}
use Rattle.lw_resp.proofs.LineLemmas.{same_line, only_line, front_of_line, returned_more}

-- ---- digits
one_digit : (n : ℕ) → n < 10 → IsLineText ((48 + n) ∷ [])
one_digit n lt = All-cons IsInLine (48 + n) [] ((λ e. omega (arith, e)), (λ e. omega (arith, e))) (All-nil IsInLine)

more_digits : (n : ℕ) (ds : List ℕ) → 10 ≤ n → IsLineText ds → IsLineText (ds ++ ((48 + n % 10) ∷ []))
more_digits n ds le all = All-push IsInLine ds (48 + n % 10) all ((λ e. omega (arith, e)), (λ e. omega (arith, e)))

pub decimal_in_line : (n : ℕ) → n < 2 ^ 64 → IsLineText (decimal n)
decimal_in_line n fits = decimal_by_steps (λ n ds. IsLineText ds) one_digit more_digits n fits

-- it begins with a digit
pub record BeginsDigit (n : ℕ) (ds : List ℕ) : Type 0 where
  pub first : ℕ
  pub others : List ℕ
  pub is : ds ≡ first ∷ others
  pub digit : 48 ≤ first

pub decimal_begins : (n : ℕ) → n < 2 ^ 64 → BeginsDigit n (decimal n)
decimal_begins n fits = decimal_by_steps BeginsDigit
    (λ n lt. record { first = 48 + n; others = []; is = refl; digit = omega arith })
    (λ n ds le h. record { first = h.first; others = h.others ++ ((48 + n % 10) ∷ []); is = ap (λ (s : List ℕ). s ++ ((48 + n % 10) ∷ [])) h.is; digit = h.digit })
    n fits

-- ---- what a number begins with
-- each beginning of its text is the text of a number that is not greater
record HasFronts (n : ℕ) (ds : List ℕ) : Type 0 where
  is : n < 2 ^ 64 → ds ≡ decimal n
  fronts : n < 2 ^ 64 → (t u : List ℕ) → ds ≡ t ++ u → 0 < length t → (m : ℕ) × (m ≤ n) × (t ≡ decimal m)

front_of_one : (d : ℕ) (t u : List ℕ) → d ∷ [] ≡ t ++ u → 0 < length t → t ≡ d ∷ []
front_of_one d [] u e some = absurd (omega (arith, some))
front_of_one d (x ∷ []) u e some =
    let same : x ≡ d = cc in
    ap (λ (b : ℕ). b ∷ []) same
front_of_one d (x ∷ y ∷ t) u e some = absurd (omega (arith, ap length e, length-append t u))

one_front : (n : ℕ) → n < 10 → HasFronts n ((48 + n) ∷ [])
one_front n lt = record {
  is = λ fits. sym (decimal_digit n lt);
  fronts = λ fits t u e some. (n, omega arith, front_of_one (48 + n) t u e some ∙ sym (decimal_digit n lt));
}

last_or_all : (d : ℕ) (s u : List ℕ) → d ∷ [] ≡ s ++ u → (s ≡ []) ⊎ (s ≡ d ∷ [])
last_or_all d [] u e = inl refl
last_or_all d (x ∷ s) u e = inr (front_of_one d (x ∷ s) u e (omega arith))

more_fronts : (n : ℕ) (ds : List ℕ) → 10 ≤ n → HasFronts (n / 10) ds → HasFronts n (ds ++ ((48 + n % 10) ∷ []))
more_fronts n ds le h = record {
  is = λ fits. whole fits;
  fronts = λ fits t u e some. cases fits t u some (either_front ds ((48 + n % 10) ∷ []) t u e);
}
  where
    whole : n < 2 ^ 64 → ds ++ ((48 + n % 10) ∷ []) ≡ decimal n
    whole fits = ap (λ (s : List ℕ). s ++ ((48 + n % 10) ∷ [])) (h.is (omega (arith, fits))) ∙ sym (decimal_step n le fits)

    cases : n < 2 ^ 64 → (t u : List ℕ) → 0 < length t
        → ((s : List ℕ) × (ds ≡ t ++ s) × (s ++ ((48 + n % 10) ∷ []) ≡ u)) ⊎ ((s : List ℕ) × (t ≡ ds ++ s) × ((48 + n % 10) ∷ [] ≡ s ++ u))
        → (m : ℕ) × (m ≤ n) × (t ≡ decimal m)
    cases fits t u some (inl l) =
        let front = h.fronts (omega (arith, fits)) t l.0 l.1 some in
        (front.0, omega (arith, front.1), front.2)
    cases fits t u some (inr r) =
        elim (last_or_all (48 + n % 10) r.0 u r.2) [
          | inl none ↦ (n / 10, omega arith, r.1 ∙ ap (λ (s : List ℕ). ds ++ s) none ∙ append-nil ds ∙ h.is (omega (arith, fits)))
          | inr all ↦ (n, omega arith, r.1 ∙ ap (λ (s : List ℕ). ds ++ s) all ∙ whole fits)
        ]

pub front_of_decimal : (n : ℕ) → n < 2 ^ 64 → (t u : List ℕ) → decimal n ≡ t ++ u → 0 < length t → (m : ℕ) × (m ≤ n) × (t ≡ decimal m)
front_of_decimal n fits t u e some = (decimal_by_steps HasFronts one_front more_fronts n fits).fronts fits t u e some

-- ---- what is read
pub no_text : (most : ℕ) (digits : List ℕ) → most < 2 ^ 64 → (IsUtf8 digits → ⊥) → (n : ℕ) → n ≤ most → digits ≢ decimal n
no_text most digits wide h n le e = h (subst IsUtf8 (sym e) (IsUtf8-from_ascii (decimal n) (IsAscii-decimal n (omega (arith, wide, le)))))

pub parsed : {E : Type 0} (most : ℕ) (digits text : List ℕ) (r : Result ℕ E) → most < 2 ^ 64 → text ≡ digits → ParsesUnsigned 64 10 text r
    → (n : ℕ) → n ≤ most → digits ≡ decimal n → r ≡ Ok n
parsed {E} most digits text r wide same h n le e = parse-decimal {E = E} 64 n text r (omega (arith, wide, le)) (omega (arith, wide, le)) (same ∙ e) h

pub same_value : {E : Type 0} (r : Result ℕ E) (m n : ℕ) → r ≡ Ok m → r ≡ Ok n → m ≡ n
same_value r m n e f = cc

-- ---- lines of numbers
ended_long : (text : List ℕ) → 0 < length (ended text)
ended_long text = omega (arith, length-append text (13 ∷ 10 ∷ []))

pub is_empty_list : (bytes : List ℕ) → true ≡ (length bytes == 0) → bytes ≡ []
is_empty_list [] e = refl
is_empty_list (x ∷ bytes) e = absurd (omega (arith, eqb-true (length (x ∷ bytes)) 0 (sym e)))

pub not_empty_list : (bytes : List ℕ) → false ≡ (length bytes == 0) → 0 < length bytes
not_empty_list [] e = let no : false ≡ true = e in absurd cc
not_empty_list (x ∷ bytes) e = omega arith

pub nothing_come : (most : ℕ) (bytes : List ℕ) → bytes ≡ [] → IsCut (IsAtMost most) number_ended bytes
nothing_come most bytes none = record {
  value = 0;
  valid = omega arith;
  more = number_ended 0;
  some = ended_long (decimal 0);
  written = ap (λ (s : List ℕ). s ++ number_ended 0) (sym none);
}

pub number_come : (most n : ℕ) (bytes : List ℕ) → n ≤ most → bytes ≡ decimal n → IsCut (IsAtMost most) number_ended bytes
number_come most n bytes le e = record {
  value = n;
  valid = le;
  more = 13 ∷ 10 ∷ [];
  some = omega arith;
  written = ap (λ (s : List ℕ). s ++ (13 ∷ 10 ∷ [])) (sym e);
}

pub no_number_come : (most : ℕ) (bytes : List ℕ) → most < 2 ^ 64 → IsLineText bytes → 0 < length bytes → ((n : ℕ) → n ≤ most → bytes ≢ decimal n)
    → IsMalformed (IsAtMost most) number_ended bytes
no_number_come most bytes wide p some none value le more rest e =
    let tail = front_of_line bytes (decimal value) more rest p e in
    let front = front_of_decimal value (omega (arith, wide, le)) bytes tail.0 tail.1 some in
    none front.0 (omega (arith, le, front.1)) front.2

pub no_number_line : (most : ℕ) (bytes digits tail : List ℕ) → most < 2 ^ 64 → IsLineText digits × (bytes ≡ digits ++ (13 ∷ tail)) → ((n : ℕ) → n ≤ most → digits ≢ decimal n)
    → IsMalformed (IsAtMost most) number_ended bytes
no_number_line most bytes digits tail wide line none value le more rest e =
    none value le (only_line bytes digits tail (decimal value) more rest line.0 line.1 (decimal_in_line value (omega (arith, wide, le))) e)

pub number_returned : (most n : ℕ) (bytes digits : List ℕ) → bytes ≡ digits ++ (13 ∷ []) → (n ≤ most) × (digits ≡ decimal n) → IsCut (IsAtMost most) number_ended bytes
number_returned most n bytes digits line found = record {
  value = n;
  valid = found.0;
  more = 10 ∷ [];
  some = omega arith;
  written = returned_more bytes (decimal n) (line ∙ ap (λ (s : List ℕ). s ++ (13 ∷ [])) found.1);
}

pub broken_number : (most : ℕ) (bytes : List ℕ) → most < 2 ^ 64 → IsMalformed IsLineText ended bytes → IsMalformed (IsAtMost most) number_ended bytes
broken_number most bytes wide broken value le more rest e = broken (decimal value) (decimal_in_line value (omega (arith, wide, le))) more rest e

-- one line has one number
pub one_number : (n m : ℕ) (x y : List ℕ) → n < 2 ^ 64 → m < 2 ^ 64 → number_ended n ++ x ≡ number_ended m ++ y → (n ≡ m) × (x ≡ y)
one_number n m x y p q e =
    let line : decimal n ++ (13 ∷ 10 ∷ x) ≡ decimal m ++ (13 ∷ 10 ∷ y) =
    sym (append_assoc (decimal n) (13 ∷ 10 ∷ []) x) ∙ e ∙ append_assoc (decimal m) (13 ∷ 10 ∷ []) y in
    let same = same_line (decimal n) (decimal m) 13 13 (10 ∷ x) (10 ∷ y) (decimal_in_line n p) (decimal_in_line m q) (inl refl) (inl refl) line in
    (decimal_injective n m p q same.0, cc)
