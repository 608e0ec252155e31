-- Total orders that tell apart what differs, and the greatest member of a set.
use Rattle.std.specs.Prelude.{◌≡◌, false}
use Rattle.std.specs.declared.cmp.Ordering.{Ordering}
use Rattle.std.specs.declared.cmp.Ordering.TheVariants.{Equal}
use Rattle.std.specs.Ordering.{is_gt}
use Rattle.std.specs.Cmp.{IsTotalOrder}

-- values that compare equal are one
abbrev pub IsExact : {V : Type 0} → (V → V → Ordering) → Type 0
IsExact {V} cmp = (x y : V) → cmp x y ≡ Equal → x ≡ y

-- an order, and that it tells apart what differs
pub record IsExactOrder {V : Type 0} (cmp : V → V → Ordering) : Type 0 where
  pub total : IsTotalOrder cmp
  pub exact : IsExact cmp

-- x is not above y
abbrev pub AtMost : {V : Type 0} → (V → V → Ordering) → V → V → Type 0
AtMost cmp x y = is_gt (cmp x y) ≡ false

-- x is in the set, and nothing in the set is above it
pub record IsGreatest {V : Type 0} (cmp : V → V → Ordering) (P : V → Type 0) (x : V) : Type 0 where
  pub member : P x
  pub above : (y : V) → P y → AtMost cmp y x
