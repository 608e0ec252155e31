-- The laws of `Both`.
use Rattle.std.proofs.Common.{refl}
use Rattle.std.specs.declared.cmp.Ord as ord
use Rattle.std.specs.declared.cmp.PartialEq as partial_eq
use Rattle.std.specs.declared.cmp.PartialOrd as partial_ord
use Rattle.lw_stamp.specs.Order.{IsExactOrder}
use Rattle.lw_join.specs.Join.{IsJoin}
use Rattle.lw_join.specs.JoinLaws.{laws_along}
use Rattle.lw_join.specs.PairLaws.{pair_laws}
use Rattle.lw_join.specs.PartsLaws.{parts_laws}
use Rattle.lw_join.specs.Both.{both_below, both_join}
use Rattle.lw_join.specs.declared.both.Both.{Both}
use Rattle.lw_join.specs.declared.parts.Parts.{Parts}

module _ {K J L M : Type 0} {o : ord.Ghosts K} {e : partial_eq.Ghosts K} {p : partial_ord.Ghosts K} {r : ord.Ghosts L} {s : partial_eq.Ghosts L} {t : partial_ord.Ghosts L} where
  abbrev both_pair : Both K J L M o e p r s t → Parts K J o e p × Parts L M r s t
  both_pair x = (x.left, x.right)

  abbrev both_of : Parts K J o e p × Parts L M r s t → Both K J L M o e p r s t
  both_of x = record { left = x.0; right = x.1 }

  pub both_laws : IsExactOrder o.cmp → IsExactOrder r.cmp → {P : J → J → Type 0} {f : J → J → J} {Q : M → M → Type 0} {g : M → M → M} → IsJoin P f → IsJoin Q g → IsJoin {S = Both K J L M o e p r s t} (both_below P Q) (both_join f g)
  both_laws left right a b = laws_along both_pair both_of (λ s. refl) (λ t. refl) (pair_laws (parts_laws left a) (parts_laws right b))
