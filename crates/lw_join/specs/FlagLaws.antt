-- The laws of flags.
use Rattle.std.proofs.Common.{◌≡◌, Bool, true, false, ◌||◌, refl}
use Rattle.lw_join.specs.Join.{IsJoin}
use Rattle.lw_join.specs.Flag.{bool_below, flag_below, flag_join}

bool_reflexive : (a : Bool) → bool_below a a
bool_reflexive true = tt
bool_reflexive false = tt

bool_antisymmetric : (a b : Bool) → bool_below a b → bool_below b a → a ≡ b
bool_antisymmetric false false h k = refl
bool_antisymmetric false true h k = absurd k
bool_antisymmetric true false h k = absurd h
bool_antisymmetric true true h k = refl

bool_transitive : (a b c : Bool) → bool_below a b → bool_below b c → bool_below a c
bool_transitive false b c h k = tt
bool_transitive true false c h k = absurd h
bool_transitive true true c h k = k

bool_left : (a b : Bool) → bool_below a (a || b)
bool_left false b = tt
bool_left true b = tt

bool_right : (a b : Bool) → bool_below b (a || b)
bool_right true true = tt
bool_right true false = tt
bool_right false b = bool_reflexive b

bool_least : (a b c : Bool) → bool_below a c → bool_below b c → bool_below (a || b) c
bool_least true b c h k = h
bool_least false b c h k = k

pub flag_laws : IsJoin flag_below flag_join
flag_laws = record {
  reflexive = λ x. bool_reflexive x.raised;
  antisymmetric = λ x y h k. let same = bool_antisymmetric x.raised y.raised h k in λ i. record { raised = same i };
  transitive = λ x y z. bool_transitive x.raised y.raised z.raised;
  above_left = λ x y. bool_left x.raised y.raised;
  above_right = λ x y. bool_right x.raised y.raised;
  least = λ x y z. bool_least x.raised y.raised z.raised;
}
