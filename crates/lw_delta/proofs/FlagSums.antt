-- A flag byte is the sum of the flags that are set in it.
use Rattle.std.proofs.Common.{◌≡◌, ℕ, zero, suc, ◌+◌, ◌==◌, ◌<◌, Bool, true, ◌&&◌, refl, arith}
use Rattle.std.proofs.lemmas.Bool.{and_parts, eqb-true}
use Rattle.lw_delta.specs.Values.{is_set}
use Rattle.lw_delta.specs.Writing.{flag_if}
use Rattle.lw_delta.proofs.FlagBits.{sum7}

abbrev all_below : (ℕ → Bool) → ℕ → Bool
all_below p zero = true
all_below p (suc k) = p 0 && all_below (λ n. p (suc n)) k

below_true : (p : ℕ → Bool) (k n : ℕ) → all_below p k ≡ true → n < k → p n ≡ true
below_true p zero n h lt = absurd (omega (arith, lt))
below_true p (suc k) zero h lt = (and_parts (p 0) (all_below (λ n. p (suc n)) k) h).0
below_true p (suc k) (suc n) h lt = below_true (λ n. p (suc n)) k n (and_parts (p 0) (all_below (λ n. p (suc n)) k) h).1 (omega (arith, lt))

abbrev pub sum8 : ℕ → ℕ
sum8 n = sum7 (is_set n 1) (is_set n 2) (is_set n 4) (is_set n 8) (is_set n 16) (is_set n 32) (is_set n 64) + flag_if 128 (is_set n 128)

pub sum_again : (n : ℕ) → n < 256 → n ≡ sum8 n
sum_again n fits = eqb-true n (sum8 n) (below_true (λ n. n == sum8 n) 256 n refl fits)
