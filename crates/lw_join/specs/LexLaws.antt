-- The laws of `Lex`.
use Rattle.std.proofs.Common.{refl}
use Rattle.std.specs.declared.cmp.Ordering.{Ordering}
use Rattle.std.specs.declared.cmp.Ordering.TheVariants.{Less, Equal, Greater}
use Rattle.std.specs.Ordering.{MatchOrdering}
use Rattle.lw_stamp.specs.StampOrder.{stamp_cmp}
use Rattle.lw_stamp.proofs.StampLemmas.{stamp_order}
use Rattle.lw_join.specs.Join.{IsJoin}
use Rattle.lw_join.specs.JoinLaws.{laws_along}
use Rattle.lw_join.specs.KeyedLaws.{keyed_laws}
use Rattle.lw_join.specs.declared.lex.Lex.{Lex}
use Rattle.lw_join.specs.Lex.{lex_pair, lex_of, lex_below, lex_join, lex_in_place}

pub lex_laws : {J : Type 0} {below : J → J → Type 0} {join : J → J → J} → IsJoin below join → IsJoin (lex_below below) (lex_join join)
lex_laws laws = laws_along lex_pair lex_of (λ s. refl) (λ t. refl) (keyed_laws stamp_order laws)

any_order : {P : Type 0} (r : Ordering) → P → MatchOrdering r (Unit {0}) P (Unit {0})
any_order Less p = tt
any_order Equal p = p
any_order Greater p = tt

pub lex_calm : {J : Type 0} {in_place : J → J → Type 0} → ((x y : J) → in_place x y) → (x y : Lex J) → lex_in_place in_place x y
lex_calm calm x y = any_order (stamp_cmp x.stamp y.stamp) (calm x.value y.value)
