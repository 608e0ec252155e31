-- Two maps that join at once.
use Rattle.std.specs.declared.cmp.Ord as ord
use Rattle.std.specs.declared.cmp.PartialEq as partial_eq
use Rattle.std.specs.declared.cmp.PartialOrd as partial_ord
use Rattle.lw_join.specs.Parts.{parts_below, parts_join, parts_in_place}
use Rattle.lw_join.specs.declared.both.Both.{Both}

module _ {K J L M : Type 0} {o : ord.Ghosts K} {e : partial_eq.Ghosts K} {p : partial_ord.Ghosts K} {r : ord.Ghosts L} {s : partial_eq.Ghosts L} {t : partial_ord.Ghosts L} where
  -- each map is below
  abbrev pub both_below : (J → J → Type 0) → (M → M → Type 0) → Both K J L M o e p r s t → Both K J L M o e p r s t → Type 0
  both_below P Q x y = parts_below P x.left y.left × parts_below Q x.right y.right

  -- the join of each map
  abbrev pub both_join : (J → J → J) → (M → M → M) → Both K J L M o e p r s t → Both K J L M o e p r s t → Both K J L M o e p r s t
  both_join f g x y = record { left = parts_join f x.left y.left; right = parts_join g x.right y.right }

  -- no key of the right is missing in the left, in either map
  abbrev pub both_in_place : Both K J L M o e p r s t → Both K J L M o e p r s t → Type 0
  both_in_place x y = parts_in_place x.left y.left × parts_in_place x.right y.right
