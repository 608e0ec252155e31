-- A stamp and a value: the greater stamp wins whole, and at equal stamps the values join.
use Rattle.lw_stamp.specs.declared.stamp.Stamp.{Stamp}
use Rattle.lw_stamp.specs.StampOrder.{stamp_cmp}
use Rattle.std.specs.Ordering.{MatchOrdering}
use Rattle.lw_join.specs.Keyed.{keyed_below, keyed_join}
use Rattle.lw_join.specs.declared.lex.Lex.{Lex}

-- the stamp and the value
abbrev pub lex_pair : {J : Type 0} → Lex J → Stamp × J
lex_pair x = (x.stamp, x.value)

abbrev pub lex_of : {J : Type 0} → Stamp × J → Lex J
lex_of p = record { stamp = p.0; value = p.1 }

-- the lesser stamp is below, and at equal stamps the value decides
abbrev pub lex_below : {J : Type 0} → (J → J → Type 0) → Lex J → Lex J → Type 0
lex_below below x y = keyed_below stamp_cmp below (lex_pair x) (lex_pair y)

-- the one with the greater stamp, and at equal stamps the join of the values
abbrev pub lex_join : {J : Type 0} → (J → J → J) → Lex J → Lex J → Lex J
lex_join join x y = lex_of (keyed_join stamp_cmp join (lex_pair x) (lex_pair y))

-- at unequal stamps one of the two is the join, and at equal stamps the values decide
abbrev pub lex_in_place : {J : Type 0} → (J → J → Type 0) → Lex J → Lex J → Type 0
lex_in_place in_place x y = MatchOrdering (stamp_cmp x.stamp y.stamp) (Unit {0}) (in_place x.value y.value) (Unit {0})
