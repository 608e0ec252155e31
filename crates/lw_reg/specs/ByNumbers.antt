-- Values that are ordered by lists of numbers of theirs: by the bytes of a text, or by the numbers of a path.
use Rattle.std.specs.Prelude.{◌≡◌, ℕ, List}
use Rattle.std.specs.declared.cmp.Ordering.{Ordering}
use Rattle.std.specs.Cmp.{IsTotalOrder, IsEquivalence, IsPartialEquivalence, IsPartialOrder, partial_order_from_total, partial_equiv_from_equiv}
use Rattle.std.specs.Cmp.Lexicographic.{slice_cmp}
use Rattle.std.specs.Ordering.{nat_cmp, eq_by_cmp, as_partial_cmp}
use Rattle.std.proofs.lemmas.Cmp.{on_total, nat_list_cmp_total, eq_by_cmp_equiv}
use Rattle.std.proofs.lemmas.Map.Lookups.{exact_bytes}
use Rattle.lw_stamp.specs.Order.{IsExact, IsExactOrder}

-- no two values have the same numbers
abbrev pub TellApart : {V : Type 0} → (V → List ℕ) → Type 0
TellApart {V} numbers = (x y : V) → numbers x ≡ numbers y → x ≡ y

-- number by number, a list before those that it begins
abbrev pub by_numbers : {V : Type 0} → (V → List ℕ) → V → V → Ordering
by_numbers numbers x y = slice_cmp nat_cmp (numbers x) (numbers y)

pub by_numbers_total : {V : Type 0} (numbers : V → List ℕ) → IsTotalOrder (by_numbers numbers)
by_numbers_total numbers = on_total numbers nat_list_cmp_total

pub by_numbers_exact : {V : Type 0} (numbers : V → List ℕ) → TellApart numbers → IsExact (by_numbers numbers)
by_numbers_exact numbers apart x y h = apart x y (exact_bytes (numbers x) (numbers y) h)

pub by_numbers_order : {V : Type 0} (numbers : V → List ℕ) → TellApart numbers → IsExactOrder (by_numbers numbers)
by_numbers_order numbers apart = record { total = by_numbers_total numbers; exact = by_numbers_exact numbers apart }

pub by_numbers_equivalence : {V : Type 0} (numbers : V → List ℕ) → IsEquivalence (eq_by_cmp (by_numbers numbers))
by_numbers_equivalence numbers = eq_by_cmp_equiv (by_numbers_total numbers)

pub by_numbers_partial_equivalence : {V : Type 0} (numbers : V → List ℕ) → IsPartialEquivalence (eq_by_cmp (by_numbers numbers))
by_numbers_partial_equivalence numbers = partial_equiv_from_equiv (by_numbers_equivalence numbers)

pub by_numbers_partial_order : {V : Type 0} (numbers : V → List ℕ) → IsPartialOrder (eq_by_cmp (by_numbers numbers)) (as_partial_cmp (by_numbers numbers))
by_numbers_partial_order numbers = partial_order_from_total (by_numbers_total numbers)
