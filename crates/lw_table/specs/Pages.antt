-- A page of the registrations that are shown at a moment (LwM2M 1.1 Core, section 6.2): those above one endpoint and
-- up to another.
use Rattle.std.specs.Prelude.{◌≡◌, ◌↔◌, ℕ, List, Contains, Option, Some, None}
use Rattle.std.specs.List.Sorted.{IsStrictlySortedBy}
use Rattle.std.specs.declared.cmp.Ordering.TheVariants.{Less}
use Rattle.lw_stamp.specs.TextOrder.{text_cmp}
use Rattle.lw_reg.specs.Marks.{Marks}
use Rattle.lw_reg.specs.Registration.{Registration}
use Rattle.lw_table.specs.Answers.{IsAfter, IsShownAfter}

-- not above the endpoint; all are up to none
abbrev pub IsUpTo : Option (List ℕ) → List ℕ → Type 0
IsUpTo None endpoint = Unit {0}
IsUpTo (Some next) endpoint = ¬ (text_cmp next endpoint ≡ Less)

-- exactly the registrations that are shown above the one endpoint and up to the next, endpoints rising; without a
-- next, all above
pub record IsPage (M : Marks) (now : ℕ) (after next : Option (List ℕ)) (page : List Registration) : Type 0 where
  pub rising : IsStrictlySortedBy (λ x y. text_cmp x.endpoint y.endpoint) page
  pub exactly : (r : Registration) → Contains page r ↔ (IsShownAfter M now after r × IsUpTo next r.endpoint)

-- the page behind begins further on
abbrev pub MovesOn : Option (List ℕ) → Option (List ℕ) → Type 0
MovesOn after None = Unit {0}
MovesOn after (Some next) = IsAfter after next
