-- What stands before the first element that passes a test, where a search for it finds one or none.
use Rattle.std.proofs.Common.{◌≡◌, ℕ, ◌<◌, ◌≤◌, List, length, take, Bool, Option, Some, None, refl, sym, ap, ◌∙◌, inl, inr, arith}
use Rattle.std.proofs.lemmas.Bool.Decides.{nat_tests}
use Rattle.std.proofs.lemmas.Bool.{cases_lt}
use Rattle.std.proofs.Math.Seq.{take-length}
use Rattle.std.proofs.lemmas.List.{take_all}
use Rattle.std.specs.Prelude.{position, IsUtf8, ◌||◌}
use Rattle.std.proofs.Common.{false, nat_lt, get_or, All}
use Rattle.std.proofs.lemmas.Str.{IsUtf8-from_ascii}
use Rattle.std.proofs.lemmas.Str.Ascii.{IsAscii-from_all}
use Rattle.std.proofs.lemmas.List.Elements.{All-from_get_or}
use Rattle.std.proofs.lemmas.Grind.{common_steps}
use Rattle.std.proofs.lemmas.List.Sums.{fails_before_first}
use Rattle.lw_redis_log.specs.Errors.{is_hidden}
use Rattle.std.specs.List.{before_first, position_or_len}

same : (x y : ℕ) → Some x ≡ Some y → x ≡ y
same x y e = cc

clash : (x : ℕ) → Some x ≡ None → ⊥
clash x e = cc

pub found : (p : ℕ → Bool) (xs : List ℕ) (place : ℕ) → position p xs ≡ Some place → take place xs ≡ before_first p xs
found p xs place h = elim (cases_lt (position_or_len p xs) (length xs)) [
  | inl short ↦ ap (λ k. take k xs) (same place (position_or_len p xs) (sym h ∙ grind (arith, nat_tests)))
  | inr whole ↦ absurd (clash place (sym h ∙ grind (arith, nat_tests)))
]

pub nowhere : (p : ℕ → Bool) (xs : List ℕ) → position p xs ≡ None → length xs ≤ position_or_len p xs
nowhere p xs h = elim (cases_lt (position_or_len p xs) (length xs)) [
  | inl short ↦ absurd (clash (position_or_len p xs) (sym (sym h ∙ grind (arith, nat_tests))))
  | inr whole ↦ whole
]

pub not_found : (p : ℕ → Bool) (xs : List ℕ) → position p xs ≡ None → xs ≡ before_first p xs
not_found p xs h = sym (take_all (position_or_len p xs) xs (nowhere p xs h))

-- what ASCII prints is a text
seen : (b : ℕ) → is_hidden b ≡ false → b < 128
seen b h = grind (arith, nat_tests)

pub printed_text : (xs : List ℕ) → IsUtf8 (before_first is_hidden xs)
printed_text xs =
    IsUtf8-from_ascii (before_first is_hidden xs) (IsAscii-from_all (before_first is_hidden xs)
    (All-from_get_or (λ b. b < 128) (before_first is_hidden xs) 0
    (λ k lt. let shown = seen (get_or xs k 0) (fails_before_first is_hidden xs k 0 (grind (arith, common_steps))) in grind (arith, common_steps))))
