-- The marks that slots show, one after another; and that the slots are the state of them.
use Rattle.std.proofs.Common.{◌≡◌, ℕ, Bool, true, false, cond, List, [], ◌∷◌, ◌++◌, Option, Some, None, map, sym, refl, ap, ◌∙◌, subst, inl, inr, ◌⊎◌}
use Rattle.std.specs.Prelude.{◌↔◌, Contains}
use Rattle.std.specs.Ordering.{is_eq}
use Rattle.std.specs.declared.cmp.Ordering.{Ordering}
use Rattle.std.proofs.lemmas.List.Elements.{Contains-append_left, Contains-append_right, Contains-append_cases}
use Rattle.lw_stamp.specs.declared.stamp.Stamp.{Stamp}
use Rattle.lw_stamp.specs.Order.{IsExactOrder}
use Rattle.lw_stamp.specs.TextOrder.{text_cmp}
use Rattle.lw_join.specs.Entries.{Rises, get}
use Rattle.lw_join.specs.EntriesLaws.{same_key, same_value}
use Rattle.lw_join.specs.Maps.{one_key}
use Rattle.lw_join.specs.Parts.{entries_of}
use Rattle.lw_join.specs.declared.last.Last.{Last}
use Rattle.lw_join.specs.declared.once.Once.{Once}
use Rattle.lw_join.specs.declared.or_gone.OrGone.{OrGone}
use Rattle.lw_join.specs.declared.or_gone.OrGone.TheVariants.{Here, Gone}
use Rattle.lw_join.proofs.Lookups.{get_at}
use Rattle.lw_join.proofs.MapLemmas.{map_single}
use Rattle.lw_reg.specs.declared.body.Body.{Body}
use Rattle.lw_reg.specs.declared.path.Path.{Path}
use Rattle.lw_reg.specs.declared.slot.Slot.{Slot}
use Rattle.lw_reg.specs.Body.{Watching}
use Rattle.lw_reg.specs.Marks.{Trace, Mark, NamesAll, among, written, marks_about}
use Rattle.lw_reg.specs.Marks.Trace.{Named, Based, AddressAt, SeenAt, LifetimeAt, BindingAt, SmsAt, ObjectsAt, AttributeAt, EndedAt, Removed, Watched, Cancelled}
use Rattle.lw_reg.specs.OrderLaws.{path_order, text_order}
use Rattle.lw_reg.specs.Orders.{path_cmp}
use Rattle.lw_reg.specs.Reading.{BodyShows, Shows, stamp_of, shown_by}
use Rattle.lw_reg.specs.Slot.{observed, cancelled}
use Rattle.lw_reg.specs.State.{state_join, state_of}
use Rattle.lw_reg.proofs.Members.{none_there, first_there, more_there, there_or_first}
use Rattle.lw_reg.proofs.Operations.{append_names}
use Rattle.lw_reg.proofs.SlotMarks.{slot_self}
use Rattle.lw_reg.proofs.States.{state_is, state_least, state_union}
use Rattle.lw_reg.proofs.Tells.{SlotTells, Holds, mark_at, field_trace, slot_facet, state_facet, state_tells}
use Rattle.lw_node.specs.Exchange.{state_in, AreShown}

-- ---- the traces of a slot
-- a field that is written, before what comes after it
module _ {V : Type 0} (f : V → Trace) where
  on_written : (o : Option V) (rest : List Trace) (v : V) → o ≡ Some v → Contains (written f o ++ rest) (f v)
  on_written o rest v e = subst (λ x. Contains (written f x ++ rest) (f v)) (sym e) (first_there (f v) rest (f v) refl)

  past_written : (o : Option V) (rest : List Trace) (k : Trace) → Contains rest k → Contains (written f o ++ rest) k
  past_written None rest k h = h
  past_written (Some v) rest k h = more_there (f v) rest k h

  by_written : {G : Type 0} (o : Option V) (rest : List Trace) (k : Trace) → ((v : V) → o ≡ Some v → k ≡ f v → G) → (Contains rest k → G) → Contains (written f o ++ rest) k → G
  by_written None rest k this other h = other h
  by_written {G} (Some v) rest k this other h = go (there_or_first (f v) rest k h)
    where
      go : (k ≡ f v) ⊎ Contains rest k → G
      go (inl e) = this v refl e
      go (inr there) = other there

abbrev watch_trace : Path → Stamp → OrGone (Once ℕ) → Trace
watch_trace path token Gone = Cancelled path token
watch_trace path token (Here accept) = Watched path token accept.value

abbrev entry_trace : Path × Watching → Trace
entry_trace x = watch_trace x.0 x.1.stamp x.1.value

abbrev write_trace : List ℕ × Last (List ℕ) → Trace
write_trace x = AttributeAt x.0 x.1.write.0 x.1.write.1

-- the trace of each entry
module _ {E : Type 0} (f : E → Trace) where
  on_entries : (xs : List E) (x : E) → Contains xs x → Contains (map f xs) (f x)
  on_entries [] x h = none_there x h
  on_entries (y ∷ ys) x h = go (there_or_first y ys x h) (λ there. on_entries ys x there)
    where
      go : (x ≡ y) ⊎ Contains ys x → (Contains ys x → Contains (map f ys) (f x)) → Contains (map f (y ∷ ys)) (f x)
      go (inl e) rest = first_there (f y) (map f ys) (f x) (ap f e)
      go (inr there) rest = more_there (f y) (map f ys) (f x) (rest there)

  -- an entry of which the trace is
  abbrev IsOfEntry : List E → Trace → Type 0
  IsOfEntry xs k = (x : E) × Contains xs x × (k ≡ f x)

  by_entries : (xs : List E) (k : Trace) → Contains (map f xs) k → IsOfEntry xs k
  by_entries [] k h = none_there k h
  by_entries (y ∷ ys) k h = go (there_or_first (f y) (map f ys) k h) (λ there. by_entries ys k there)
    where
      go : (k ≡ f y) ⊎ Contains (map f ys) k → (Contains (map f ys) k → IsOfEntry ys k) → IsOfEntry (y ∷ ys) k
      go (inl e) rest = (y, first_there y ys y refl, e)
      go (inr there) rest = (let x = rest there in (x.0, more_there y ys x.0 x.1, x.2))

module _ {K J : Type 0} {cmp : K → K → Ordering} (order : IsExactOrder cmp) where
  -- what a key has is its entry
  entry_there : (xs : List (K × J)) (k : K) (w : J) → get cmp xs k ≡ Some w → Contains xs (k, w)
  entry_there [] k w e = absurd cc
  entry_there (x ∷ xs) k w e = go (is_eq (cmp k x.0)) refl e (λ h. entry_there xs k w h)
    where
      go : (b : Bool) → is_eq (cmp k x.0) ≡ b → cond b (Some x.1) (get cmp xs k) ≡ Some w → (get cmp xs k ≡ Some w → Contains xs (k, w)) → Contains (x ∷ xs) (k, w)
      go true same h rest = (let own : x.1 ≡ w = same_value order x.1 w h in first_there x xs (k, w) (λ i. (same_key order k x.0 same i, sym own i)))
      go false same h rest = more_there x xs (k, w) (rest h)

  there_entry : (xs : List (K × J)) (x : K × J) → Rises cmp xs → Contains xs x → get cmp xs x.0 ≡ Some x.1
  there_entry xs x rises h = subst (λ (y : K × J). get cmp xs y.0 ≡ Some y.1) h.2 (get_at order xs h.0 x rises h.1)

-- those of the attributes, and those of the watches
abbrev from_maps : Body → List Trace
from_maps b = map write_trace (entries_of b.maps.left) ++ map entry_trace (entries_of b.maps.right)

abbrev from_ended : Body → List Trace
from_ended b = written EndedAt b.ended.value ++ from_maps b

abbrev from_objects : Body → List Trace
from_objects b = written (field_trace ObjectsAt) b.objects.write ++ from_ended b

abbrev from_sms : Body → List Trace
from_sms b = written (field_trace SmsAt) b.sms.write ++ from_objects b

abbrev from_binding : Body → List Trace
from_binding b = written (field_trace BindingAt) b.binding.write ++ from_sms b

abbrev from_lifetime : Body → List Trace
from_lifetime b = written (field_trace LifetimeAt) b.lifetime.write ++ from_binding b

abbrev from_seen : Body → List Trace
from_seen b = written (field_trace SeenAt) b.seen.write ++ from_lifetime b

abbrev from_address : Body → List Trace
from_address b = written (field_trace AddressAt) b.address.write ++ from_seen b

abbrev from_base : Body → List Trace
from_base b = written Based b.base.value ++ from_address b

abbrev traces_in : OrGone Body → List Trace
traces_in Gone = Named ∷ Removed ∷ []
traces_in (Here b) = Named ∷ from_base b

module _ (b : Body) where
  to_address : (k : Trace) → Contains (from_address b) k → Contains (from_base b) k
  to_address k h = past_written Based b.base.value (from_address b) k h

  to_seen : (k : Trace) → Contains (from_seen b) k → Contains (from_base b) k
  to_seen k h = to_address k (past_written (field_trace AddressAt) b.address.write (from_seen b) k h)

  to_lifetime : (k : Trace) → Contains (from_lifetime b) k → Contains (from_base b) k
  to_lifetime k h = to_seen k (past_written (field_trace SeenAt) b.seen.write (from_lifetime b) k h)

  to_binding : (k : Trace) → Contains (from_binding b) k → Contains (from_base b) k
  to_binding k h = to_lifetime k (past_written (field_trace LifetimeAt) b.lifetime.write (from_binding b) k h)

  to_sms : (k : Trace) → Contains (from_sms b) k → Contains (from_base b) k
  to_sms k h = to_binding k (past_written (field_trace BindingAt) b.binding.write (from_sms b) k h)

  to_objects : (k : Trace) → Contains (from_objects b) k → Contains (from_base b) k
  to_objects k h = to_sms k (past_written (field_trace SmsAt) b.sms.write (from_objects b) k h)

  to_ended : (k : Trace) → Contains (from_ended b) k → Contains (from_base b) k
  to_ended k h = to_objects k (past_written (field_trace ObjectsAt) b.objects.write (from_ended b) k h)

  to_maps : (k : Trace) → Contains (from_maps b) k → Contains (from_base b) k
  to_maps k h = to_ended k (past_written EndedAt b.ended.value (from_maps b) k h)

  to_writes : (k : Trace) → Contains (map write_trace (entries_of b.maps.left)) k → Contains (from_base b) k
  to_writes k h = to_maps k (Contains-append_left (map write_trace (entries_of b.maps.left)) (map entry_trace (entries_of b.maps.right)) k h)

  to_watches : (k : Trace) → Contains (map entry_trace (entries_of b.maps.right)) k → Contains (from_base b) k
  to_watches k h = to_maps k (Contains-append_right (map write_trace (entries_of b.maps.left)) (map entry_trace (entries_of b.maps.right)) k h)

  body_listed : (k : Trace) → BodyShows b k → Contains (traces_in (Here b)) k
  body_listed Named h = first_there Named (from_base b) Named refl
  body_listed (Based v) h = more_there Named (from_base b) _ (on_written Based b.base.value (from_address b) v h)
  body_listed (AddressAt s v) h = more_there Named (from_base b) _ (to_address _ (on_written (field_trace AddressAt) b.address.write (from_seen b) (s, v) h))
  body_listed (SeenAt s v) h = more_there Named (from_base b) _ (to_seen _ (on_written (field_trace SeenAt) b.seen.write (from_lifetime b) (s, v) h))
  body_listed (LifetimeAt s v) h = more_there Named (from_base b) _ (to_lifetime _ (on_written (field_trace LifetimeAt) b.lifetime.write (from_binding b) (s, v) h))
  body_listed (BindingAt s v) h = more_there Named (from_base b) _ (to_binding _ (on_written (field_trace BindingAt) b.binding.write (from_sms b) (s, v) h))
  body_listed (SmsAt s v) h = more_there Named (from_base b) _ (to_sms _ (on_written (field_trace SmsAt) b.sms.write (from_objects b) (s, v) h))
  body_listed (ObjectsAt s v) h = more_there Named (from_base b) _ (to_objects _ (on_written (field_trace ObjectsAt) b.objects.write (from_ended b) (s, v) h))
  body_listed (AttributeAt name s v) h =
      more_there Named (from_base b) _ (to_writes _ (on_entries write_trace (entries_of b.maps.left) (name, record { write = (s, v) }) (entry_there text_order (entries_of b.maps.left) name (record { write = (s, v) }) h)))
  body_listed (EndedAt s) h = more_there Named (from_base b) _ (to_ended _ (on_written EndedAt b.ended.value (from_maps b) s h))
  body_listed Removed h = absurd h
  body_listed (Watched p t a) h = more_there Named (from_base b) _ (to_watches _ (on_entries entry_trace (entries_of b.maps.right) (p, observed t a) (entry_there path_order (entries_of b.maps.right) p (observed t a) h)))
  body_listed (Cancelled p t) h = more_there Named (from_base b) _ (to_watches _ (on_entries entry_trace (entries_of b.maps.right) (p, cancelled t) (entry_there path_order (entries_of b.maps.right) p (cancelled t) h)))

  entry_shown : (x : Path × Watching) → Contains (entries_of b.maps.right) x → BodyShows b (entry_trace x)
  entry_shown x h = go x.0 x.1.stamp x.1.value (there_entry path_order (entries_of b.maps.right) x b.maps.right.rises h)
    where
      go : (p : Path) (t : Stamp) (y : OrGone (Once ℕ)) → get path_cmp (entries_of b.maps.right) p ≡ Some (record { stamp = t; value = y }) → BodyShows b (watch_trace p t y)
      go p t Gone e = e
      go p t (Here a) e = e

  maps_shown : (k : Trace) → Contains (from_maps b) k → BodyShows b k
  maps_shown k h = elim (Contains-append_cases (map write_trace (entries_of b.maps.left)) (map entry_trace (entries_of b.maps.right)) k h) [
    | inl written ↦ (let x = by_entries write_trace (entries_of b.maps.left) k written in subst (BodyShows b) (sym x.2) (there_entry text_order (entries_of b.maps.left) x.0 b.maps.left.rises x.1))
    | inr watched ↦ (let x = by_entries entry_trace (entries_of b.maps.right) k watched in subst (BodyShows b) (sym x.2) (entry_shown x.0 x.1))
  ]

  body_shown : (k : Trace) → Contains (from_base b) k → BodyShows b k
  body_shown k =
      by_written Based b.base.value (from_address b) k (λ v e same. subst (BodyShows b) (sym same) e)
      (by_written (field_trace AddressAt) b.address.write (from_seen b) k (λ w e same. subst (BodyShows b) (sym same) e)
      (by_written (field_trace SeenAt) b.seen.write (from_lifetime b) k (λ w e same. subst (BodyShows b) (sym same) e)
      (by_written (field_trace LifetimeAt) b.lifetime.write (from_binding b) k (λ w e same. subst (BodyShows b) (sym same) e)
      (by_written (field_trace BindingAt) b.binding.write (from_sms b) k (λ w e same. subst (BodyShows b) (sym same) e)
      (by_written (field_trace SmsAt) b.sms.write (from_objects b) k (λ w e same. subst (BodyShows b) (sym same) e)
      (by_written (field_trace ObjectsAt) b.objects.write (from_ended b) k (λ w e same. subst (BodyShows b) (sym same) e)
      (by_written EndedAt b.ended.value (from_maps b) k (λ t e same. subst (BodyShows b) (sym same) e)
      (maps_shown k))))))))

listed : (x : OrGone Body) (k : Trace) → Shows x k → Contains (traces_in x) k
listed Gone k (inl e) = first_there Named (Removed ∷ []) k e
listed Gone k (inr e) = more_there Named (Removed ∷ []) k (first_there Removed [] k e)
listed (Here b) k h = body_listed b k h

shown : (x : OrGone Body) (k : Trace) → Contains (traces_in x) k → Shows x k
shown Gone k h = go (there_or_first Named (Removed ∷ []) k h)
  where
    go : (k ≡ Named) ⊎ Contains (Removed ∷ []) k → Shows Gone k
    go (inl e) = inl e
    go (inr there) = elim (there_or_first Removed [] k there) [ inl e ↦ inr e | inr none ↦ none_there k none ]
shown (Here b) k h = go (there_or_first Named (from_base b) k h)
  where
    go : (k ≡ Named) ⊎ Contains (from_base b) k → BodyShows b k
    go (inl e) = subst (BodyShows b) (sym e) tt
    go (inr there) = body_shown b k there

named_listed : (x : OrGone Body) → Contains (traces_in x) Named
named_listed Gone = first_there Named (Removed ∷ []) Named refl
named_listed (Here b) = first_there Named (from_base b) Named refl

-- ---- the marks of a slot
-- a mark of these traces
record IsAbout (e : List ℕ) (r : Stamp) (ks : List Trace) (m : Mark) : Type 0 where
  endpoint : m.endpoint ≡ e
  registration : m.registration ≡ r
  trace : Contains ks m.trace

about : (e : List ℕ) (r : Stamp) (ks : List Trace) (m : Mark) → Contains (marks_about e r ks) m → IsAbout e r ks m
about e r [] m h = none_there m h
about e r (k ∷ ks) m h = go (there_or_first (record { endpoint = e; registration = r; trace = k }) (marks_about e r ks) m h) (λ there. about e r ks m there)
  where
    go : (m ≡ record { endpoint = e; registration = r; trace = k }) ⊎ Contains (marks_about e r ks) m → (Contains (marks_about e r ks) m → IsAbout e r ks m) → IsAbout e r (k ∷ ks) m
    go (inl same) rest = record {
      endpoint = ap (λ (n : Mark). n.endpoint) same;
      registration = ap (λ (n : Mark). n.registration) same;
      trace = first_there k ks m.trace (ap (λ (n : Mark). n.trace) same);
    }
    go (inr there) rest = (let x = rest there in record { endpoint = x.endpoint; registration = x.registration; trace = more_there k ks m.trace x.trace })

is_about : (e : List ℕ) (r : Stamp) (ks : List Trace) (m : Mark) → IsAbout e r ks m → Contains (marks_about e r ks) m
is_about e r [] m h = none_there m.trace h.trace
is_about e r (k ∷ ks) m h = go (there_or_first k ks m.trace h.trace) (λ there. is_about e r ks m (record { endpoint = h.endpoint; registration = h.registration; trace = there }))
  where
    go : (m.trace ≡ k) ⊎ Contains ks m.trace → (Contains ks m.trace → Contains (marks_about e r ks) m) → Contains (marks_about e r (k ∷ ks)) m
    go (inl same) rest = first_there _ (marks_about e r ks) m (λ i. record { endpoint = h.endpoint i; registration = h.registration i; trace = same i })
    go (inr there) rest = more_there _ (marks_about e r ks) m (rest there)

-- marks of one registration, of which one names it
pub about_names : (e : List ℕ) (r : Stamp) (ks : List Trace) → Contains ks Named → NamesAll (among (marks_about e r ks))
about_names e r ks named f s k h =
    let x = about e r ks (record { endpoint = f; registration = s; trace = k }) h in
    is_about e r ks (record { endpoint = f; registration = s; trace = Named }) (record { endpoint = x.endpoint; registration = x.registration; trace = named })

abbrev slot_marks : List ℕ → Slot → List Mark
slot_marks e slot = marks_about e (stamp_of slot) (traces_in slot.registration.value)

slot_shows : (e : List ℕ) (slot : Slot) (m : Mark) → shown_by e slot m ↔ Contains (slot_marks e slot) m
slot_shows e slot m = (
  λ h. is_about e (stamp_of slot) (traces_in slot.registration.value) m (record { endpoint = h.0; registration = h.1; trace = listed slot.registration.value m.trace h.2 }),
  λ h. let x = about e (stamp_of slot) (traces_in slot.registration.value) m h in (x.endpoint, x.registration, shown slot.registration.value m.trace x.trace),
)

slot_names : (e : List ℕ) (slot : Slot) → NamesAll (among (slot_marks e slot))
slot_names e slot = about_names e (stamp_of slot) (traces_in slot.registration.value) (named_listed slot.registration.value)

-- a slot is the state of the marks that it shows
slot_state : (e : List ℕ) (slot : Slot) → one_key e slot ≡ state_of (slot_marks e slot)
slot_state e slot =
    state_facet.one (Holds (among (slot_marks e slot))) (one_key e slot) (state_of (slot_marks e slot))
    (map_single text_cmp SlotTells (Holds (among (slot_marks e slot))) text_order e slot (λ q x h. (about e (stamp_of slot) (traces_in slot.registration.value) (mark_at (q, x)) h).endpoint)
    (slot_facet.same (λ y. shown_by e slot (mark_at (e, y))) (λ y. Holds (among (slot_marks e slot)) (e, y)) slot (λ y. slot_shows e slot (mark_at (e, y))) (slot_self e slot)))
    (state_tells (slot_marks e slot) (slot_names e slot))

-- ---- the marks of slots
abbrev pub marks_shown : List (List ℕ × Slot) → List Mark
marks_shown [] = []
marks_shown (s ∷ ss) = slot_marks s.0 s.1 ++ marks_shown ss

pub shown_names : (slots : List (List ℕ × Slot)) → NamesAll (among (marks_shown slots))
shown_names [] = λ e r k h. none_there (record { endpoint = e; registration = r; trace = k }) h
shown_names (s ∷ ss) = append_names (slot_marks s.0 s.1) (marks_shown ss) (slot_names s.0 s.1) (shown_names ss)

-- the state of two lists of marks
pub state_append : (ms ns : List Mark) → state_join (state_of ms) (state_of ns) ≡ state_of (ms ++ ns)
state_append ms ns = state_is (ms ++ ns) _ (state_union ms ns _ _ (state_least ms) (state_least ns))

pub shown_state : (slots : List (List ℕ × Slot)) → state_in slots ≡ state_of (marks_shown slots)
shown_state [] = refl
shown_state (s ∷ ss) = (λ i. state_join (slot_state s.0 s.1 i) (shown_state ss i)) ∙ state_append (slot_marks s.0 s.1) (marks_shown ss)

to_shown : (slots : List (List ℕ × Slot)) (e : List ℕ) (slot : Slot) (m : Mark) → Contains slots (e, slot) → shown_by e slot m → Contains (marks_shown slots) m
to_shown [] e slot m there h = none_there (e, slot) there
to_shown (s ∷ ss) e slot m there h = go (there_or_first s ss (e, slot) there) (λ later. to_shown ss e slot m later h)
  where
    go : ((e, slot) ≡ s) ⊎ Contains ss (e, slot) → (Contains ss (e, slot) → Contains (marks_shown ss) m) → Contains (slot_marks s.0 s.1 ++ marks_shown ss) m
    go (inl same) rest = Contains-append_left (slot_marks s.0 s.1) (marks_shown ss) m ((slot_shows s.0 s.1 m).0 (subst (λ (x : List ℕ × Slot). shown_by x.0 x.1 m) same h))
    go (inr later) rest = Contains-append_right (slot_marks s.0 s.1) (marks_shown ss) m (rest later)

abbrev IsShown : List (List ℕ × Slot) → Mark → Type 0
IsShown slots m = (e : List ℕ) × (slot : Slot) × Contains slots (e, slot) × shown_by e slot m

of_shown : (slots : List (List ℕ × Slot)) (m : Mark) → Contains (marks_shown slots) m → IsShown slots m
of_shown [] m h = none_there m h
of_shown (s ∷ ss) m h = go (Contains-append_cases (slot_marks s.0 s.1) (marks_shown ss) m h) (λ later. of_shown ss m later)
  where
    go : Contains (slot_marks s.0 s.1) m ⊎ Contains (marks_shown ss) m → (Contains (marks_shown ss) m → IsShown ss m) → IsShown (s ∷ ss) m
    go (inl own) rest = (s.0, s.1, first_there s ss s refl, (slot_shows s.0 s.1 m).1 own)
    go (inr later) rest = (let x = rest later in (x.0, x.1, more_there s ss (x.0, x.1) x.2, x.3))

-- they are exactly those that the slots show
pub are_shown : (slots : List (List ℕ × Slot)) → AreShown slots (marks_shown slots)
are_shown slots m = (of_shown slots m, λ x. to_shown slots x.0 x.1 m x.2 x.3)
