-- The laws of `OrGone`.
use Rattle.std.proofs.Common.{refl, ap}
use Rattle.lw_join.specs.Join.{IsJoin}
use Rattle.lw_join.specs.OrGone.{gone_below, gone_join, gone_in_place}
use Rattle.lw_join.specs.declared.or_gone.OrGone.{OrGone}
use Rattle.lw_join.specs.declared.or_gone.OrGone.TheVariants.{Here, Gone}

pub gone_laws : {J : Type 0} {below : J → J → Type 0} {join : J → J → J} → IsJoin below join → IsJoin (gone_below below) (gone_join join)
gone_laws laws = record {
  reflexive = elim [ Gone ↦ tt | Here x ↦ laws.reflexive x ];
  antisymmetric = elim [ Gone ↦ elim [ Gone ↦ λ h k. refl | Here y ↦ λ h k. absurd h ] | Here x ↦ elim [ Gone ↦ λ h k. absurd k | Here y ↦ λ h k. ap Here (laws.antisymmetric x y h k) ] ];
  transitive = elim [
    | Gone ↦ elim [ Gone ↦ λ z h k. k | Here y ↦ elim [ Gone ↦ λ h k. tt | Here z ↦ λ h k. absurd h ] ]
    | Here x ↦ elim [ Gone ↦ elim [ Gone ↦ λ h k. tt | Here z ↦ λ h k. absurd k ] | Here y ↦ elim [ Gone ↦ λ h k. tt | Here z ↦ laws.transitive x y z ] ]
  ];
  above_left = elim [ Gone ↦ elim [ Gone ↦ tt | Here y ↦ tt ] | Here x ↦ elim [ Gone ↦ tt | Here y ↦ laws.above_left x y ] ];
  above_right = elim [ Gone ↦ elim [ Gone ↦ tt | Here y ↦ tt ] | Here x ↦ elim [ Gone ↦ tt | Here y ↦ laws.above_right x y ] ];
  least = elim [
    | Gone ↦ elim [ Gone ↦ λ z h k. h | Here y ↦ λ z h k. h ]
    | Here x ↦ elim [ Gone ↦ λ z h k. k | Here y ↦ elim [ Gone ↦ λ h k. tt | Here z ↦ laws.least x y z ] ]
  ];
}

pub gone_calm : {J : Type 0} {in_place : J → J → Type 0} → ((x y : J) → in_place x y) → (x y : OrGone J) → gone_in_place in_place x y
gone_calm calm x Gone = tt
gone_calm calm Gone (Here y) = tt
gone_calm calm (Here x) (Here y) = calm x y
