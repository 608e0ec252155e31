-- The laws of values that may be absent.
use Rattle.std.specs.Prelude.{Some, None}
use Rattle.std.proofs.Common.{refl, ap}
use Rattle.lw_join.specs.Join.{IsJoin}
use Rattle.lw_join.specs.Options.{option_below, option_join}

pub option_laws : {V : Type 0} {below : V → V → Type 0} {join : V → V → V} → IsJoin below join → IsJoin (option_below below) (option_join join)
option_laws laws = record {
  reflexive = elim [ None ↦ tt | Some x ↦ laws.reflexive x ];
  antisymmetric = elim [ None ↦ elim [ None ↦ λ h k. refl | Some y ↦ λ h k. absurd k ] | Some x ↦ elim [ None ↦ λ h k. absurd h | Some y ↦ λ h k. ap Some (laws.antisymmetric x y h k) ] ];
  transitive = elim [ None ↦ λ y z h k. tt | Some x ↦ elim [ None ↦ λ z h k. absurd h | Some y ↦ elim [ None ↦ λ h k. absurd k | Some z ↦ laws.transitive x y z ] ] ];
  above_left = elim [ None ↦ λ y. tt | Some x ↦ elim [ None ↦ laws.reflexive x | Some y ↦ laws.above_left x y ] ];
  above_right = elim [ None ↦ elim [ None ↦ tt | Some y ↦ laws.reflexive y ] | Some x ↦ elim [ None ↦ tt | Some y ↦ laws.above_right x y ] ];
  least = elim [ None ↦ λ y z h k. k | Some x ↦ elim [ None ↦ λ z h k. h | Some y ↦ elim [ None ↦ λ h k. absurd h | Some z ↦ laws.least x y z ] ] ];
}
