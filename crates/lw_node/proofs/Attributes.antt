-- The attributes of a registration: what an operation writes of them, and what they are after an Update.
use Rattle.std.proofs.Common.{◌≡◌, ◌∙◌, refl, sym, ap, List, [], ◌∷◌, Option, Some, None, option_map, ℕ}
use Rattle.std.specs.declared.cmp.Ordering.{Ordering}
use Rattle.std.specs.declared.cmp.Ordering.TheVariants.{Less}
use Rattle.std.specs.Ordering.{ordering_then, max_by_ordering}
use Rattle.lw_stamp.specs.declared.stamp.Stamp.{Stamp}
use Rattle.lw_stamp.specs.StampOrder.{stamp_cmp}
use Rattle.lw_stamp.specs.TextOrder.{text_cmp}
use Rattle.lw_join.specs.Entries.{Rises, get}
use Rattle.lw_join.specs.Greater.{greater}
use Rattle.lw_join.specs.Last.{last_join}
use Rattle.lw_join.specs.Lww.{write_cmp}
use Rattle.lw_join.specs.Options.{option_join}
use Rattle.lw_join.specs.Parts.{entries_of, value_at, parts_join}
use Rattle.lw_join.specs.PartsLaws.{entries_made, value_at-join}
use Rattle.lw_join.specs.declared.last.Last.{Last}
use Rattle.lw_join.proofs.Lookups.{get-map, Rises-map}
use Rattle.lw_reg.specs.Attribute.{values_of}
use Rattle.lw_reg.specs.Body.{AttributeMap}
use Rattle.lw_reg.specs.OrderLaws.{text_order}
use Rattle.lw_reg.specs.Slot.{writes_of}
use Rattle.lw_reg.proofs.WriteLemmas.{write_at, stamped_pairs, stamped_rise, writes_made}
use Rattle.lw_node.specs.Laws.{or_kept}

-- of two writes the later counts
pub write_later : {V : Type 0} (cmp : V → V → Ordering) (s t : Stamp) (v w : V) → stamp_cmp s t ≡ Less → greater (write_cmp cmp) (s, v) (t, w) ≡ (t, w)
write_later cmp s t v w h = ap (λ o. max_by_ordering (ordering_then o (cmp v w)) (s, v) (t, w)) h

abbrev text_of : Last (List ℕ) → List ℕ
text_of last = last.write.1

-- ---- what an operation writes
-- under each name that an operation carries stands its value
written_at : (s : Stamp) (pairs : List (List ℕ × List ℕ)) → Rises text_cmp pairs → (name : List ℕ) → value_at (writes_of s pairs) name ≡ option_map (write_at s) (get text_cmp pairs name)
written_at s pairs rise name =
    ap (λ (m : AttributeMap). value_at m name) (writes_made s pairs rise)
    ∙ ap (λ es. get text_cmp es name) (entries_made _ _ _ (stamped_pairs s pairs) (stamped_rise s pairs rise))
    ∙ get-map text_cmp (write_at s) pairs name

stamped_values : (s : Stamp) (pairs : List (List ℕ × List ℕ)) → values_of (stamped_pairs s pairs) ≡ pairs
stamped_values s [] = refl
stamped_values s (a ∷ pairs) = ap (λ rest. a ∷ rest) (stamped_values s pairs)

-- the writes of an operation have the values that it carries
pub written_values : (s : Stamp) (pairs : List (List ℕ × List ℕ)) → Rises text_cmp pairs → values_of (entries_of (writes_of s pairs)) ≡ pairs
written_values s pairs rise =
    ap (λ (m : AttributeMap). values_of (entries_of m)) (writes_made s pairs rise)
    ∙ ap values_of (entries_made _ _ _ (stamped_pairs s pairs) (stamped_rise s pairs rise))
    ∙ stamped_values s pairs

-- ---- after an Update
-- each write of the map is older
abbrev pub AreOlder : AttributeMap → Stamp → Type 0
AreOlder attributes t = (name : List ℕ) (last : Last (List ℕ)) → value_at attributes name ≡ Some last → stamp_cmp last.write.0 t ≡ Less

value_after : (t : Stamp) (o : Option (Last (List ℕ))) (given : Option (List ℕ)) → ((last : Last (List ℕ)) → o ≡ Some last → stamp_cmp last.write.0 t ≡ Less)
    → option_map text_of (option_join (last_join text_cmp) o (option_map (write_at t) given)) ≡ or_kept given (option_map text_of o)
value_after t None None older = refl
value_after t None (Some value) older = refl
value_after t (Some last) None older = refl
value_after t (Some last) (Some value) older = ap (λ (w : Stamp × List ℕ). Some w.1) (write_later text_cmp last.write.0 t last.write.1 value (older last refl))

abbrev pub after_writes : AttributeMap → Stamp → List (List ℕ × List ℕ) → List (List ℕ × List ℕ)
after_writes before t given = values_of (entries_of (parts_join (last_join text_cmp) before (writes_of t given)))

pub after_rises : (before : AttributeMap) (t : Stamp) (given : List (List ℕ × List ℕ)) → Rises text_cmp (after_writes before t given)
after_rises before t given =
    let joined = parts_join (last_join text_cmp) before (writes_of t given) in
    Rises-map text_cmp text_of (entries_of joined) joined.rises

-- a name that is given has that value, and any other keeps its own
pub after_values : (before : AttributeMap) (t : Stamp) (given : List (List ℕ × List ℕ)) → Rises text_cmp given → AreOlder before t → (name : List ℕ)
    → get text_cmp (after_writes before t given) name ≡ or_kept (get text_cmp given name) (get text_cmp (values_of (entries_of before)) name)
after_values before t given rise older name =
    get-map text_cmp text_of (entries_of (parts_join (last_join text_cmp) before (writes_of t given))) name
    ∙ ap (option_map text_of) (value_at-join text_order (last_join text_cmp) before (writes_of t given) name ∙ ap (option_join (last_join text_cmp) (value_at before name)) (written_at t given rise name))
    ∙ value_after t (value_at before name) (get text_cmp given name) (older name)
    ∙ ap (or_kept (get text_cmp given name)) (sym (get-map text_cmp text_of (entries_of before) name))
