-- The laws of `Parts`.
use Rattle.std.specs.Prelude.{◌≡◌, List, Bool, true, false}
use Rattle.std.proofs.Common.{refl, sym, ap, ◌∙◌, subst}
use mathlib.Core.Bool.{true≢false}
use mathlib.Core.HLevel.{is_prop→PathP}
use Rattle.std.specs.declared.cmp.Ord as ord
use Rattle.std.specs.declared.cmp.PartialEq as partial_eq
use Rattle.std.specs.declared.cmp.PartialOrd as partial_ord
use Rattle.lw_stamp.specs.Order.{IsExactOrder}
use Rattle.lw_join.specs.Join.{IsJoin}
use Rattle.lw_join.specs.Options.{option_below, option_join}
use Rattle.lw_join.specs.OptionLaws.{option_laws}
use Rattle.lw_join.specs.Entries.{Rises, rises, get, entries_join}
use Rattle.lw_join.specs.EntriesLaws.{Rises-prop, rises_true, Rises-join, get-join, same_entries}
use Rattle.lw_join.specs.Parts.{value_at, parts_below, parts_join, made, made_by}
use Rattle.lw_join.specs.declared.parts.Parts.{Parts}

module _ {K J : Type 0} (o : ord.Ghosts K) (e : partial_eq.Ghosts K) (p : partial_ord.Ghosts K) where
  entries_made_by : (es : List (K × J)) (b : Bool) (h : rises o.cmp es ≡ b) → b ≡ true → (made_by {o = o} {e = e} {p = p} es b h).entries ≡ es
  unfolding made_by
  entries_made_by es true h k = refl
  entries_made_by es false h k = absurd (true≢false (sym k))

  pub entries_made : (es : List (K × J)) → Rises o.cmp es → (made {o = o} {e = e} {p = p} es).entries ≡ es
  unfolding made
  entries_made es rising = entries_made_by es (rises o.cmp es) refl (rises_true o.cmp es rising)

module _ {K J : Type 0} {o : ord.Ghosts K} {e : partial_eq.Ghosts K} {p : partial_ord.Ghosts K} where
  -- the entries are all there is
  pub same_parts : (x y : Parts K J o e p) → x.entries ≡ y.entries → x ≡ y
  same_parts x y same = λ i. record { entries = same i; rises = is_prop→PathP (λ i. Rises o.cmp (same i)) (λ i. Rises-prop o.cmp (same i)) x.rises y.rises i }

  pub entries_joined : (order : IsExactOrder o.cmp) (join : J → J → J) (x y : Parts K J o e p) → (parts_join join x y).entries ≡ entries_join o.cmp join x.entries y.entries
  entries_joined order join x y = entries_made o e p (entries_join o.cmp join x.entries y.entries) (Rises-join order join x.entries y.entries x.rises)

  -- maps with the same value at each key are one
  pub same_values : (order : IsExactOrder o.cmp) (x y : Parts K J o e p) → ((q : K) → value_at x q ≡ value_at y q) → x ≡ y
  same_values order x y same = same_parts x y (same_entries order x.entries y.entries x.rises y.rises same)

  -- the value at a key of a join
  pub value_at-join : (order : IsExactOrder o.cmp) (join : J → J → J) (x y : Parts K J o e p) (q : K) → value_at (parts_join join x y) q ≡ option_join join (value_at x q) (value_at y q)
  value_at-join order join x y q = ap (λ es. get o.cmp es q) (entries_joined order join x y) ∙ get-join order join x.entries y.entries x.rises y.rises q

  module _ (order : IsExactOrder o.cmp) {below : J → J → Type 0} {join : J → J → J} (laws : IsJoin below join) where
    pub parts_laws : IsJoin {S = Parts K J o e p} (parts_below below) (parts_join join)
    parts_laws =
        let each = option_laws laws in
        record {
          reflexive = λ x q. each.reflexive (value_at x q);
          antisymmetric = λ x y h k. same_values order x y (λ q. each.antisymmetric (value_at x q) (value_at y q) (h q) (k q));
          transitive = λ x y z h k q. each.transitive (value_at x q) (value_at y q) (value_at z q) (h q) (k q);
          above_left = λ x y q. subst (option_below below (value_at x q)) (sym (value_at-join order join x y q)) (each.above_left (value_at x q) (value_at y q));
          above_right = λ x y q. subst (option_below below (value_at y q)) (sym (value_at-join order join x y q)) (each.above_right (value_at x q) (value_at y q));
          least = λ x y z h k q. subst (λ w. option_below below w (value_at z q)) (sym (value_at-join order join x y q)) (each.least (value_at x q) (value_at y q) (value_at z q) (h q) (k q));
        }
