-- From what a call says of the entries to what it says of the map.
use Rattle.std.proofs.Common.{◌≡◌, List, Result, Ok, Err, OnOk, OnErr, sym, ◌∙◌, subst}
use Rattle.std.specs.declared.cmp.Ord as ord
use Rattle.std.specs.declared.cmp.PartialEq as partial_eq
use Rattle.std.specs.declared.cmp.PartialOrd as partial_ord
use Rattle.lw_stamp.specs.Order.{IsExactOrder}
use Rattle.lw_join.specs.Entries.{Rises, entries_join}
use Rattle.lw_join.specs.EntriesLaws.{Rises-join}
use Rattle.lw_join.specs.Parts.{parts_join}
use Rattle.lw_join.specs.PartsLaws.{same_parts, entries_joined}
use Rattle.lw_join.specs.declared.parts.Parts.{Parts}

module _ {K J A B : Type 0} {o : ord.Ghosts K} {e : partial_eq.Ghosts K} {p : partial_ord.Ghosts K} (order : IsExactOrder o.cmp) (join : J → J → J) where
  pub rises_after : (r : Result A B) (x y : Parts K J o e p) (new : List (K × J)) → OnOk r (new ≡ entries_join o.cmp join x.entries y.entries) → OnErr r (new ≡ x.entries) → Rises o.cmp new
  rises_after (Ok a) x y new ok err = subst (Rises o.cmp) (sym ok) (Rises-join order join x.entries y.entries x.rises)
  rises_after (Err b) x y new ok err = subst (Rises o.cmp) (sym err) x.rises

  pub joined_parts : (r : Result A B) (x y z : Parts K J o e p) → OnOk r (z.entries ≡ entries_join o.cmp join x.entries y.entries) → OnOk r (z ≡ parts_join join x y)
  joined_parts (Ok a) x y z ok = same_parts z (parts_join join x y) (ok ∙ sym (entries_joined order join x y))
  joined_parts (Err b) x y z ok = ok

  pub unchanged_parts : (r : Result A B) (x z : Parts K J o e p) → OnErr r (z.entries ≡ x.entries) → OnErr r (z ≡ x)
  unchanged_parts (Ok a) x z err = err
  unchanged_parts (Err b) x z err = same_parts z x err
