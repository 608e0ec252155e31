-- The answers of look-ups over a set of marks at a moment, beside what is shown of one endpoint (LwM2M 1.1
-- Core, section 6.2).
use Rattle.std.specs.Prelude.{◌≡◌, ℕ, List, Option, Some, None}
use Rattle.std.specs.Borrow.{Bor}
use Rattle.std.specs.Option.{option_map}
use Rattle.std.specs.declared.cmp.Ordering.TheVariants.{Less}
use Rattle.lw_stamp.specs.Order.{AtMost}
use Rattle.lw_stamp.specs.TextOrder.{text_cmp}
use Rattle.lw_reg.specs.Marks.{Marks}
use Rattle.lw_reg.specs.Registration.{Registration}
use Rattle.lw_reg.specs.Showing.{IsShown}

-- above the endpoint by bytes; all are above none
abbrev pub IsAfter : Option (List ℕ) → List ℕ → Type 0
IsAfter None endpoint = Unit {0}
IsAfter (Some after) endpoint = text_cmp after endpoint ≡ Less

-- it fits, and its endpoint is the least of those that fit
pub record IsFirst (P : Registration → Type 0) (r : Registration) : Type 0 where
  pub fits : P r
  pub first : (other : Registration) → P other → AtMost text_cmp r.endpoint other.endpoint

-- the answer is the first of those that fit, or none where none fits
abbrev pub IsFirstAnswer : (Registration → Type 0) → Option Registration → Type 0
IsFirstAnswer P None = (r : Registration) → ¬ P r
IsFirstAnswer P (Some r) = IsFirst P r

-- the registration is shown, and its endpoint above the given one
abbrev pub IsShownAfter : Marks → ℕ → Option (List ℕ) → Registration → Type 0
IsShownAfter M now after r = IsAfter after r.endpoint × IsShown M now r

-- the least shown endpoint above the given one, or the least of all
abbrev pub FirstAfter : Marks → ℕ → Option (List ℕ) → Option Registration → Type 0
FirstAfter M now after = IsFirstAnswer (IsShownAfter M now after)

-- the endpoint that is given, if one is
abbrev pub after_text : Option (Bor (List ℕ)) → Option (List ℕ)
after_text after = option_map (λ t. t.now) after
