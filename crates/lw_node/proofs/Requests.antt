-- The options of the requests that a node sends, and that the requests have a spelling.
use Rattle.std.proofs.Common.{◌≡◌, ◌∙◌, ℕ, ◌+◌, ◌*◌, ◌/◌, ◌%◌, ◌<◌, ◌≤◌, ◌-◌, ◌^◌, Bool, true, false, cond, List, [], ◌∷◌, ◌++◌, length, Option, Some, None, ap, arith, ◌&&◌}
use Rattle.std.specs.Prelude.{map, nat_lt, IsTrue, IfSome}
use Rattle.std.specs.Fmt.{decimal}
use Rattle.std.specs.Int.Digits.{digits_of}
use Rattle.std.specs.List.{list_all}
use Rattle.std.proofs.lemmas.Int.Digits.{digits_of_step, length-digits_of-le}
use Rattle.std.proofs.lemmas.Bool.{leb-true}
use Rattle.std.proofs.lemmas.Fmt.{length-decimal-le}
use Rattle.lw_stamp.specs.declared.stamp.Stamp.{Stamp}
use Rattle.lw_stamp.specs.Stamp.{stamp_bytes}
use Rattle.lw_coap.specs.Message.{OptionContent}
use Rattle.lw_coap.specs.Fits.{Fits, AreRising, extension_length, option_length, options_length}
use Rattle.lw_reg.specs.declared.path.Path.{Path}
use Rattle.lw_reg.specs.Path.{path_numbers}
use Rattle.lw_reg.specs.PathNumbers.{IsPathNumbers, is_number}
use Rattle.lw_node.specs.declared.request.Observe.{Observe}
use Rattle.lw_node.specs.declared.request.Observe.TheVariants.{Register, Deregister}
use Rattle.lw_node.specs.inner.Observe.{observe_number}
use Rattle.lw_node.specs.Effects.{get_of, number_option, segment, accepts}

-- ---- the bytes of a number
pub digits_one : (n : ℕ) → 0 < n → n < 256 → digits_of 256 n ≡ n ∷ []
digits_one n some small =
    digits_of_step 256 n (omega arith) some ∙ (λ i. digits_of 256 (high i) ++ (low i ∷ []))
  where
    high : n / 256 ≡ 0
    high = omega arith

    low : n % 256 ≡ n
    low = omega arith

pub digits_two : (n : ℕ) → 256 ≤ n → n < 65536 → digits_of 256 n ≡ (n / 256) ∷ (n % 256) ∷ []
digits_two n some small =
    digits_of_step 256 n (omega arith) (omega arith) ∙ ap (λ ds. ds ++ (n % 256 ∷ [])) (digits_one (n / 256) (omega arith) (omega arith))

-- ---- how long the options are
abbrev pub AcceptFits : Option ℕ → Type 0
AcceptFits accept = IfSome accept (λ format. format < 2 ^ 16)

small_extension : (n : ℕ) → extension_length n ≤ 2
small_extension n = go (nat_lt n 13) (nat_lt n 269)
  where
    go : (a b : Bool) → cond a 0 (cond b 1 2) ≤ 2
    go true b = omega arith
    go false true = omega arith
    go false false = omega arith

small_option : (before : ℕ) (o : OptionContent) (k : ℕ) → length o.value ≤ k → option_length before o ≤ 5 + k
small_option before o k le =
    let a = small_extension (o.number - before) in
    let b = small_extension (length o.value) in
    omega (arith, a, b, le)

small_accept : (before : ℕ) (accept : Option ℕ) → AcceptFits accept → options_length before (accepts accept) ≤ 7
small_accept before None h = omega arith
small_accept before (Some f) h = let a = small_option before (number_option 17 f) 2 (length-digits_of-le 256 2 f (omega arith) (omega (arith, h))) in omega (arith, a)

both_true : (a b : Bool) → IsTrue (a && b) → IsTrue a × IsTrue b
both_true true true h = (h, h)
both_true true false h = absurd cc
both_true false b h = absurd cc

small_segments : (before : ℕ) (numbers : List ℕ) (accept : Option ℕ) → IsTrue (list_all is_number numbers) → AcceptFits accept → options_length before (map segment numbers ++ accepts accept) ≤ 10 * length numbers + 7
small_segments before [] accept all h = small_accept before accept h
small_segments before (n ∷ ns) accept all h =
    let both = both_true (is_number n) (list_all is_number ns) all in
    let number : n ≤ 65534 = leb-true n 65534 both.0 in
    let digits : length (decimal n) ≤ 5 = length-decimal-le 5 n (omega arith) (omega (arith, number)) (omega (arith, number)) in
    let here = small_option before (segment n) 5 digits in
    let rest = small_segments 11 ns accept both.1 h in
    omega (arith, here, rest)

rising_segments : (before : ℕ) → before ≤ 11 → (numbers : List ℕ) (accept : Option ℕ) → AcceptFits accept → AreRising before (map segment numbers ++ accepts accept)
rising_segments before le [] None h = tt
rising_segments before le [] (Some f) h = (omega arith, omega arith, tt)
rising_segments before le (n ∷ ns) accept h = (le, omega arith, rising_segments 11 (omega arith) ns accept h)

-- ---- the whole request
pub get_fits : (mid observe : ℕ) (token : Stamp) (path : Path) (accept : Option ℕ) → mid < 2 ^ 16 → observe < 2 → AcceptFits accept → IsPathNumbers (path_numbers path) → length (stamp_bytes token) ≡ 8 → Fits (get_of mid observe token path accept)
get_fits mid observe token path accept mid_fits observe_fits accept_fits path_fits eight =
    let numbers = path_numbers path in
    let few : length numbers ≤ 4 = path_fits.most in
    let first = small_option 0 (number_option 6 observe) 2 (length-digits_of-le 256 2 observe (omega arith) (omega (arith, observe_fits))) in
    let others = small_segments 6 numbers accept path_fits.each accept_fits in
    record {
      token = omega (arith, eight);
      code = omega arith;
      mid = omega (arith, mid_fits);
      options = (omega arith, omega arith, rising_segments 6 (omega arith) numbers accept accept_fits);
      empty = λ e. absurd (omega (arith, e));
      within = omega (arith, eight, few, first, others);
    }

pub observe_small : (o : Observe) → observe_number o < 2
observe_small Register = omega arith
observe_small Deregister = omega arith
