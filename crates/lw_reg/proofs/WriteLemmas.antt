-- Attributes are their entries: of none, of one, and those that an operation writes.
use Rattle.std.proofs.Common.{◌≡◌, ℕ, Bool, true, false, cond, List, [], ◌∷◌, Some, None, ◌∙◌, refl, sym, ap, subst}
use Rattle.std.specs.Prelude.{map}
use Rattle.std.specs.List.{AllByRecursion}
use Rattle.std.specs.Ordering.{is_eq}
use Rattle.lw_stamp.specs.TextOrder.{text_cmp}
use Rattle.lw_stamp.specs.declared.stamp.Stamp.{Stamp}
use Rattle.lw_join.specs.Entries.{AllAbove, Rises, get}
use Rattle.lw_join.specs.EntriesLaws.{get_below, same_key}
use Rattle.lw_join.specs.Join.{IsJoin}
use Rattle.lw_join.specs.Last.{last_below, last_join}
use Rattle.lw_join.specs.LastLaws.{last_laws}
use Rattle.lw_join.specs.Options.{option_below, option_join}
use Rattle.lw_join.specs.Parts.{entries_of, made, parts_below, parts_join, value_at}
use Rattle.lw_join.specs.PartsLaws.{entries_made, parts_laws, same_parts, same_values, value_at-join}
use Rattle.lw_join.specs.declared.last.Last.{Last}
use Rattle.lw_reg.specs.Attribute.{IsAttribute}
use Rattle.lw_reg.specs.Body.{AttributeMap, no_attributes, one_attribute}
use Rattle.lw_reg.specs.OrderLaws.{text_order}
use Rattle.lw_reg.specs.Slot.{writes_of}

attributes_are : (attributes : AttributeMap) (es : List (List ℕ × Last (List ℕ))) → Rises text_cmp es → entries_of attributes ≡ es → attributes ≡ made es
attributes_are attributes es rises same = same_parts attributes (made es) (same ∙ sym (entries_made _ _ _ es rises))

pub no_attributes_are : (attributes : AttributeMap) → entries_of attributes ≡ [] → attributes ≡ no_attributes
no_attributes_are attributes same = attributes_are attributes [] tt same

-- no attribute is below all
pub no_attributes_below : (a : AttributeMap) → parts_below (last_below text_cmp) no_attributes a
no_attributes_below a name = subst (λ es. option_below (last_below text_cmp) (get text_cmp es name) (value_at a name)) (sym (entries_made _ _ _ [] tt)) tt

pub no_attribute_first : (a : AttributeMap) → parts_join (last_join text_cmp) no_attributes a ≡ a
no_attribute_first a = laws.antisymmetric _ _ (laws.least no_attributes a a (no_attributes_below a) (laws.reflexive a)) (laws.above_right no_attributes a)
  where
    laws : IsJoin {S = AttributeMap} (parts_below (last_below text_cmp)) (parts_join (last_join text_cmp))
    laws = parts_laws text_order (last_laws text_order)

-- each write is of an attribute
abbrev pub AreWrites : AttributeMap → Type 0
AreWrites writes = AllByRecursion (λ (w : List ℕ × Last (List ℕ)). IsAttribute w.0 w.1.write.1) (entries_of writes)

pub no_writes_are : AreWrites no_attributes
no_writes_are = subst (AllByRecursion (λ (w : List ℕ × Last (List ℕ)). IsAttribute w.0 w.1.write.1)) (sym (entries_made _ _ _ [] tt)) tt

-- ---- the writes of an operation, one by one
abbrev pub write_at : Stamp → List ℕ → Last (List ℕ)
write_at s value = record { write = (s, value) }

abbrev pub stamped_pairs : Stamp → List (List ℕ × List ℕ) → List (List ℕ × Last (List ℕ))
stamped_pairs s attributes = map (λ (a : List ℕ × List ℕ). (a.0, write_at s a.1)) attributes

above_stamped : (s : Stamp) (name : List ℕ) (attributes : List (List ℕ × List ℕ)) → AllAbove text_cmp name attributes → AllAbove text_cmp name (stamped_pairs s attributes)
above_stamped s name [] above = tt
above_stamped s name (a ∷ attributes) above = (above.0, above_stamped s name attributes above.1)

pub stamped_rise : (s : Stamp) (attributes : List (List ℕ × List ℕ)) → Rises text_cmp attributes → Rises text_cmp (stamped_pairs s attributes)
stamped_rise s [] rises = tt
stamped_rise s (a ∷ attributes) rises = (above_stamped s a.0 attributes rises.0, stamped_rise s attributes rises.1)

stamped_are : (s : Stamp) (attributes : List (List ℕ × List ℕ)) → AllByRecursion (λ (a : List ℕ × List ℕ). IsAttribute a.0 a.1) attributes → AllByRecursion (λ (w : List ℕ × Last (List ℕ)). IsAttribute w.0 w.1.write.1) (stamped_pairs s attributes)
stamped_are s [] each = tt
stamped_are s (a ∷ attributes) each = (each.0, stamped_are s attributes each.1)

-- a first entry joined to those above it
first_joined : (w : Last (List ℕ)) (name : List ℕ) (es : List (List ℕ × Last (List ℕ))) (q : List ℕ) (b : Bool) → is_eq (text_cmp q name) ≡ b → AllAbove text_cmp name es → option_join (last_join text_cmp) (cond b (Some w) None) (get text_cmp es q) ≡ cond b (Some w) (get text_cmp es q)
first_joined w name es q true same above =
    ap (option_join (last_join text_cmp) (Some w)) (get_below text_order q es (subst (λ k. AllAbove text_cmp k es) (sym (same_key text_order q name same)) above))
first_joined w name es q false same above = refl

pub writes_made : (s : Stamp) (attributes : List (List ℕ × List ℕ)) → Rises text_cmp attributes → writes_of s attributes ≡ made (stamped_pairs s attributes)
writes_made s [] rises = refl
writes_made s (a ∷ attributes) rises =
    ap (parts_join (last_join text_cmp) (one_attribute a.0 (s, a.1))) (writes_made s attributes rises.1)
    ∙ same_values text_order (parts_join (last_join text_cmp) (one_attribute a.0 (s, a.1)) behind) all each
  where
    behind : AttributeMap
    behind = made (stamped_pairs s attributes)

    all : AttributeMap
    all = made (stamped_pairs s (a ∷ attributes))

    rising : Rises text_cmp (stamped_pairs s (a ∷ attributes))
    rising = stamped_rise s (a ∷ attributes) rises

    each : (q : List ℕ) → value_at (parts_join (last_join text_cmp) (one_attribute a.0 (s, a.1)) behind) q ≡ value_at all q
    each q =
        value_at-join text_order (last_join text_cmp) (one_attribute a.0 (s, a.1)) behind q
        ∙ ap (λ es. option_join (last_join text_cmp) (get text_cmp es q) (value_at behind q)) (entries_made _ _ _ ((a.0, write_at s a.1) ∷ []) (tt, tt))
        ∙ ap (λ es. option_join (last_join text_cmp) (get text_cmp ((a.0, write_at s a.1) ∷ []) q) (get text_cmp es q)) (entries_made _ _ _ (stamped_pairs s attributes) rising.1)
        ∙ first_joined (write_at s a.1) a.0 (stamped_pairs s attributes) q (is_eq (text_cmp q a.0)) refl rising.0
        ∙ ap (λ es. get text_cmp es q) (sym (entries_made _ _ _ (stamped_pairs s (a ∷ attributes)) rising))

-- a map of these entries is what the operation writes
pub writes_are : (s : Stamp) (attributes : List (List ℕ × List ℕ)) (writes : AttributeMap) → Rises text_cmp attributes → entries_of writes ≡ stamped_pairs s attributes → writes ≡ writes_of s attributes
writes_are s attributes writes rises same = attributes_are writes (stamped_pairs s attributes) (stamped_rise s attributes rises) same ∙ sym (writes_made s attributes rises)

pub writes_keep : (s : Stamp) (attributes : List (List ℕ × List ℕ)) (writes : AttributeMap) → AllByRecursion (λ (a : List ℕ × List ℕ). IsAttribute a.0 a.1) attributes → entries_of writes ≡ stamped_pairs s attributes → AreWrites writes
writes_keep s attributes writes each same = subst (AllByRecursion (λ (w : List ℕ × Last (List ℕ)). IsAttribute w.0 w.1.write.1)) (sym same) (stamped_are s attributes each)
