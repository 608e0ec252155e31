-- Numbers that are read as they are printed.
use Rattle.std.proofs.Common.{◌≡◌, ℕ, ◌^◌, ◌<◌, ◌≤◌, List, Option, Some, None, sym, ap, ◌∙◌, arith}
use Rattle.std.specs.Prelude.{IfSome, IfNone}
use Rattle.lw_reg.specs.inner.Addr.Reading.{number_in}
use Rattle.lw_reg.proofs.Addresses.Numbers.{number_in_text, number_in-decimal}
use Rattle.lw_route.specs.Numbers.{IsNumber, IsAccept, IsLimit}

number_is : (end n : ℕ) (text : List ℕ) → number_in end text ≡ Some n → IsNumber end n text
number_is end n text e =
    let both = number_in_text end text n e in
    record { fits = both.1; printed = both.0 }

number_again : (end n : ℕ) (text : List ℕ) → end ≤ 2 ^ 64 → IsNumber end n text → number_in end text ≡ Some n
number_again end n text small is = ap (number_in end) is.printed ∙ number_in-decimal end n is.fits (omega (arith, is.fits))

pub number_found : (end : ℕ) (text : List ℕ) (r : Option ℕ) → r ≡ number_in end text → IfSome r (λ n. IsNumber end n text)
number_found end text (Some n) e = number_is end n text (sym e)
number_found end text None e = tt

pub number_none : (end : ℕ) (text : List ℕ) (r : Option ℕ) → end ≤ 2 ^ 64 → r ≡ number_in end text → IfNone r ((n : ℕ) → ¬ IsNumber end n text)
number_none end text (Some n) small e = tt
number_none end text None small e = λ n is. let again = number_again end n text small is in absurd cc

pub not_number : (end : ℕ) (text : List ℕ) → end ≤ 2 ^ 64 → number_in end text ≡ None → (n : ℕ) → ¬ IsNumber end n text
not_number end text small e n is = let again = number_again end n text small is in absurd cc

-- one text prints one number
one_number : (n m : ℕ) (text : List ℕ) → IsNumber (2 ^ 64) n text → IsNumber (2 ^ 64) m text → n ≡ m
one_number n m text a b =
    let x = number_again (2 ^ 64) n text (omega arith) a in
    let y = number_again (2 ^ 64) m text (omega arith) b in
    cc

-- a limit is a number of 64 bits
pub limit_wide : (n : ℕ) (text : List ℕ) → IsLimit n text → IsNumber (2 ^ 64) n text
limit_wide n text is = record { fits = omega (arith, is.number.fits); printed = is.number.printed }

-- another number than a limit
pub no_limit : (n : ℕ) (text : List ℕ) → IsNumber (2 ^ 64) n text → (1 ≤ n → n ≤ 256 → ⊥) → (m : ℕ) → ¬ IsLimit m text
no_limit n text is out m limit =
    let same = one_number n m text is (limit_wide m text limit) in
    out (omega (arith, same, limit.some)) (omega (arith, same, limit.number.fits))

-- the number of a format is a number of 64 bits
accept_wide : (n : ℕ) (text : List ℕ) → IsAccept n text → IsNumber (2 ^ 64) n text
accept_wide n text is = record { fits = omega (arith, is.fits); printed = is.printed }

-- another number than one of 16 bits
pub no_accept : (n : ℕ) (text : List ℕ) → IsNumber (2 ^ 64) n text → (n < 2 ^ 16 → ⊥) → (m : ℕ) → ¬ IsAccept m text
no_accept n text is out m accept =
    let same = one_number n m text is (accept_wide m text accept) in
    out (omega (arith, same, accept.fits))
