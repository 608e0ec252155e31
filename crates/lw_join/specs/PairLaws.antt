-- The laws of pairs.
use Rattle.lw_join.specs.Join.{IsJoin}
use Rattle.lw_join.specs.Pair.{pair_below, pair_join}

pub pair_laws : {A B : Type 0} {P : A → A → Type 0} {Q : B → B → Type 0} {f : A → A → A} {g : B → B → B} → IsJoin P f → IsJoin Q g → IsJoin (pair_below P Q) (pair_join f g)
pair_laws a b = record {
  reflexive = λ x. (a.reflexive x.0, b.reflexive x.1);
  antisymmetric = λ x y h k. let p = a.antisymmetric x.0 y.0 h.0 k.0 in let q = b.antisymmetric x.1 y.1 h.1 k.1 in λ i. (p i, q i);
  transitive = λ x y z h k. (a.transitive x.0 y.0 z.0 h.0 k.0, b.transitive x.1 y.1 z.1 h.1 k.1);
  above_left = λ x y. (a.above_left x.0 y.0, b.above_left x.1 y.1);
  above_right = λ x y. (a.above_right x.0 y.0, b.above_right x.1 y.1);
  least = λ x y z h k. (a.least x.0 y.0 z.0 h.0 k.0, b.least x.1 y.1 z.1 h.1 k.1);
}
