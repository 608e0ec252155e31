-- Numbers that are read as they are printed.
use Rattle.std.proofs.Common.{◌≡◌, ℕ, ◌^◌, ◌<◌, ◌≤◌, List, Option, Some, None, sym, ap, ◌∙◌, arith}
use Rattle.std.specs.Prelude.{◌↔◌, IsSome, IfSome, IfNone}
use Rattle.lw_reg.specs.inner.Addr.Reading.{number_in}
use Rattle.lw_reg.proofs.Addresses.Numbers.{number_in_text, number_in-decimal}
use Rattle.lw_stamp.specs.declared.moment.Moment.{Moment}
use Rattle.lw_stamp.specs.Moment.{ms_of}
use Rattle.lw_script.specs.Fields.{IsNumber, IsMoment}

pub number_is : (limit n : ℕ) (text : List ℕ) → number_in limit text ≡ Some n → IsNumber limit n text
number_is limit n text e =
    let both = number_in_text limit text n e in
    record { fits = both.1; printed = both.0 }

pub number_again : (limit n : ℕ) (text : List ℕ) → limit ≤ 2 ^ 64 → IsNumber limit n text → number_in limit text ≡ Some n
number_again limit n text small is = ap (number_in limit) is.printed ∙ number_in-decimal limit n is.fits (omega (arith, is.fits))

pub number_found : (limit : ℕ) (text : List ℕ) (r : Option ℕ) → r ≡ number_in limit text → IfSome r (λ n. IsNumber limit n text)
number_found limit text (Some n) e = number_is limit n text (sym e)
number_found limit text None e = tt

pub number_none : (limit : ℕ) (text : List ℕ) (r : Option ℕ) → limit ≤ 2 ^ 64 → r ≡ number_in limit text → IfNone r ((n : ℕ) → ¬ IsNumber limit n text)
number_none limit text (Some n) small e = tt
number_none limit text None small e = λ n is. let again = number_again limit n text small is in absurd cc

pub not_number : (limit : ℕ) (text : List ℕ) → limit ≤ 2 ^ 64 → number_in limit text ≡ None → (n : ℕ) → ¬ IsNumber limit n text
not_number limit text small e n is = let again = number_again limit n text small is in absurd cc

-- one text prints one number
pub one_number : (n m : ℕ) (text : List ℕ) → IsNumber (2 ^ 64) n text → IsNumber (2 ^ 64) m text → n ≡ m
one_number n m text a b =
    let x = number_again (2 ^ 64) n text (omega arith) a in
    let y = number_again (2 ^ 64) m text (omega arith) b in
    cc

pub moment_number : (m : Moment) (text : List ℕ) → IsMoment m text → IsNumber (2 ^ 64) (ms_of m) text
moment_number m text is = record { fits = omega (arith, is.fits); printed = is.printed }

pub moment_none : (n : ℕ) (text : List ℕ) (r : Option Moment) → IsNumber (2 ^ 64) n text → (IsSome r ↔ (n < 2 ^ 48)) → IfNone r ((m : Moment) → ¬ IsMoment m text)
moment_none n text (Some m) is h = tt
moment_none n text None is h = λ m k.
    let same = one_number n (ms_of m) text is (moment_number m text k) in
    let bad = h.1 (omega (arith, same, k.fits)) in
    cc

pub wide : (limit n : ℕ) (text : List ℕ) → limit ≤ 2 ^ 64 → IsNumber limit n text → IsNumber (2 ^ 64) n text
wide limit n text small is = record { fits = omega (arith, small, is.fits); printed = is.printed }
