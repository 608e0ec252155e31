-- A value, or gone, which is above all.
use Rattle.lw_join.specs.declared.or_gone.OrGone.{OrGone}
use Rattle.lw_join.specs.declared.or_gone.OrGone.TheVariants.{Here, Gone}

-- gone is above all, and no value is above it
abbrev pub gone_below : {J : Type 0} → (J → J → Type 0) → OrGone J → OrGone J → Type 0
gone_below below x Gone = Unit {0}
gone_below below Gone (Here y) = ⊥
gone_below below (Here x) (Here y) = below x y

-- gone where one of the two is, and otherwise the join of the values
abbrev pub gone_join : {J : Type 0} → (J → J → J) → OrGone J → OrGone J → OrGone J
gone_join join x Gone = Gone
gone_join join Gone (Here y) = Gone
gone_join join (Here x) (Here y) = Here (join x y)

-- where one is gone the join is gone, and otherwise the values decide
abbrev pub gone_in_place : {J : Type 0} → (J → J → Type 0) → OrGone J → OrGone J → Type 0
gone_in_place in_place x Gone = Unit {0}
gone_in_place in_place Gone (Here y) = Unit {0}
gone_in_place in_place (Here x) (Here y) = in_place x y
