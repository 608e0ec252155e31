-- Endpoints and paths rise strictly.
use Rattle.std.specs.Prelude.{◌≡◌, Option, Some, None}
use Rattle.std.specs.declared.cmp.Ordering.{Ordering}
use Rattle.std.specs.declared.cmp.Ordering.TheVariants.{Less}

-- above the one before, where there is one
abbrev pub IsAbove : {K : Type 0} → (K → K → Ordering) → Option K → K → Type 0
IsAbove cmp None key = Unit {0}
IsAbove cmp (Some before) key = cmp before key ≡ Less
