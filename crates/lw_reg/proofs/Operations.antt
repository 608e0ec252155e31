-- The slot of an operation is the state of its marks, and joined slots are the state of all of them.
use Rattle.std.proofs.Common.{◌≡◌, ℕ, List, [], ◌∷◌, ◌++◌, Option, Some, None, sym, refl, ap, ◌∙◌, subst, inl, inr, ◌⊎◌}
use Rattle.std.specs.Prelude.{map}
use Rattle.std.specs.FinMap.{empty, get, get-empty}
use Rattle.std.specs.Ordering.{nat_cmp}
use Rattle.std.proofs.lemmas.List.Elements.{Contains-append_left, Contains-append_right, Contains-append_cases}
use Rattle.lw_stamp.specs.declared.moment.Moment.{Moment}
use Rattle.lw_stamp.specs.declared.stamp.Stamp.{Stamp}
use Rattle.lw_stamp.specs.StampOrder.{stamp_cmp}
use Rattle.lw_stamp.specs.TextOrder.{text_cmp}
use Rattle.lw_join.specs.Both.{both_join}
use Rattle.lw_join.specs.EntriesLaws.{join_none}
use Rattle.lw_join.specs.Greater.{greater}
use Rattle.lw_join.specs.Join.{IsJoin}
use Rattle.lw_join.specs.JoinLaws.{semilattice, absorbed}
use Rattle.lw_join.specs.Last.{last_join}
use Rattle.lw_join.specs.Least.{joined_all}
use Rattle.lw_join.specs.Lww.{write_cmp}
use Rattle.lw_join.specs.Maps.{one_key}
use Rattle.lw_join.specs.OptionLaws.{option_laws}
use Rattle.lw_join.specs.Options.{option_join}
use Rattle.lw_join.specs.OrGone.{gone_join}
use Rattle.lw_join.specs.Parts.{parts_below, parts_join}
use Rattle.lw_join.specs.PartsLaws.{parts_laws}
use Rattle.lw_join.specs.OrGoneLaws.{gone_laws}
use Rattle.lw_join.specs.declared.or_gone.OrGone.{OrGone}
use Rattle.lw_join.specs.declared.or_gone.OrGone.TheVariants.{Here}
use Rattle.lw_join.proofs.MapLemmas.{get-map_join, get-own_key, join-one_key, empty_below}
use Rattle.lw_reg.specs.declared.addr.Addr.{Addr}
use Rattle.lw_reg.specs.declared.base.Base.{Base}
use Rattle.lw_reg.specs.declared.binding.Binding.{Binding}
use Rattle.lw_reg.specs.declared.body.Body.{Body}
use Rattle.lw_reg.specs.declared.op.Op.{Op}
use Rattle.lw_reg.specs.declared.op.What.{What}
use Rattle.lw_reg.specs.declared.op.What.TheVariants.{Register, Update, Remove, Observe, Cancel, Expire}
use Rattle.lw_reg.specs.declared.path.Path.{Path}
use Rattle.lw_reg.specs.declared.slot.Slot.{Slot}
use Rattle.lw_reg.specs.Body.{Watches, Maps, watching_below, watching_join, body_join, no_watches, maps_of, no_maps, maps_alone}
use Rattle.lw_reg.specs.BodyLaws.{watching_laws, body_laws}
use Rattle.lw_reg.specs.Marks.{Trace, Mark, Has, NamesAll, AllAbout, among, left_by, marks_about, marks_of, all_marks, traces_of, written, attribute_traces}
use Rattle.lw_reg.specs.Marks.Trace.{Named, Based, AddressAt, SeenAt, LifetimeAt, BindingAt, SmsAt, ObjectsAt, AttributeAt}
use Rattle.lw_reg.specs.OrderLaws.{path_order, text_order}
use Rattle.lw_reg.specs.Orders.{addr_cmp, base_cmp, binding_cmp, moment_cmp, sms_cmp}
use Rattle.lw_reg.specs.Reading.{IsSlotOf}
use Rattle.lw_reg.specs.Slot.{slot_join, slot_at, told_by, told_of, slot_of, write_of, writes_of, some_text}
use Rattle.lw_reg.specs.SlotLaws.{slot_laws}
use Rattle.lw_reg.specs.State.{State, state_join, IsStateOf, state_of}
use Rattle.lw_reg.proofs.EndLemmas.{join_at}
use Rattle.lw_reg.proofs.Members.{none_there, first_there, more_there, there_or_first}
use Rattle.lw_reg.proofs.WriteLemmas.{no_attribute_first}
use Rattle.lw_reg.proofs.NothingLemmas.{joined_nothing}
use Rattle.lw_reg.proofs.WatchLemmas.{no_watches_below}
use Rattle.lw_reg.proofs.States.{state_laws, state_least, state_is, state_union}

-- ---- each operation names what it is about
about : (e f : List ℕ) (r s : Stamp) (k : Trace) (ks : List Trace) → Has (among (marks_about f s ks)) e r k → (e ≡ f) × (r ≡ s)
about e f r s k [] h = none_there (record { endpoint = e; registration = r; trace = k }) h
about e f r s k (j ∷ ks) h = go (there_or_first (record { endpoint = f; registration = s; trace = j }) (marks_about f s ks) (record { endpoint = e; registration = r; trace = k }) h) (λ there. about e f r s k ks there)
  where
    go : (◌≡◌ {A = Mark} (record { endpoint = e; registration = r; trace = k }) (record { endpoint = f; registration = s; trace = j })) ⊎ Has (among (marks_about f s ks)) e r k → (Has (among (marks_about f s ks)) e r k → (e ≡ f) × (r ≡ s)) → (e ≡ f) × (r ≡ s)
    go (inl p) rest = (ap (λ (m : Mark). m.endpoint) p, ap (λ (m : Mark). m.registration) p)
    go (inr there) rest = rest there

operation_names : (o : Op) → NamesAll (among (marks_of o))
operation_names o e r k h =
    let p = about e o.endpoint r o.reg k (Named ∷ traces_of o.stamp o.what) h in
    first_there _ _ (record { endpoint = e; registration = r; trace = Named }) (λ i. record { endpoint = p.0 i; registration = p.1 i; trace = Named })

pub append_names : (ms ns : List Mark) → NamesAll (among ms) → NamesAll (among ns) → NamesAll (among (ms ++ ns))
append_names ms ns p q e r k h = go (Contains-append_cases ms ns (record { endpoint = e; registration = r; trace = k }) h)
  where
    go : Has (among ms) e r k ⊎ Has (among ns) e r k → Has (among (ms ++ ns)) e r Named
    go (inl g) = Contains-append_left ms ns _ (p e r k g)
    go (inr g) = Contains-append_right ms ns _ (q e r k g)

pub all_names : (os : List Op) → NamesAll (left_by os)
all_names [] = λ e r k h. none_there (record { endpoint = e; registration = r; trace = k }) h
all_names (o ∷ os) = append_names (marks_of o) (all_marks os) (operation_names o) (all_names os)

-- ---- the state of one operation's marks
tell_all : Trace → List Trace → OrGone Body
tell_all k [] = told_by k
tell_all k (j ∷ ks) = gone_join body_join (told_by k) (tell_all j ks)

nothing_right : (s : State) → state_join s empty ≡ s
nothing_right s = absorbed state_laws s empty (empty_below text_order slot_laws s)

state_of-marks_about : (e : List ℕ) (r : Stamp) (k : Trace) (ks : List Trace) → state_of (marks_about e r (k ∷ ks)) ≡ one_key e (slot_at r (tell_all k ks))
unfolding tell_all
state_of-marks_about e r k [] = nothing_right _
state_of-marks_about e r k (j ∷ ks) =
    ap (state_join (one_key e (slot_at r (told_by k)))) (state_of-marks_about e r j ks)
    ∙ join-one_key text_order slot_join e (slot_at r (told_by k)) (slot_at r (tell_all j ks))
    ∙ ap (one_key e) (join_at r (told_by k) (tell_all j ks))

-- no watch is below all
none_first : (w : Watches) → parts_join watching_join no_watches w ≡ w
none_first w = laws.antisymmetric _ _ (laws.least no_watches w w (no_watches_below w) (laws.reflexive w)) (laws.above_right no_watches w)
  where
    laws : IsJoin {S = Watches} (parts_below watching_below) (parts_join watching_join)
    laws = parts_laws path_order watching_laws

no_maps_first : (m : Maps) → both_join (last_join text_cmp) watching_join no_maps m ≡ m
no_maps_first m = λ i. maps_of (no_attribute_first m.left i) (none_first m.right i)

-- ---- an operation's attributes
-- what the attributes of an operation tell
abbrev attributes_alone : Stamp → List (List ℕ × List ℕ) → OrGone Body
attributes_alone s attributes = Here (maps_alone (maps_of (writes_of s attributes) no_watches))

one_attribute_more : (s : Stamp) (a : List ℕ × List ℕ) (attributes : List (List ℕ × List ℕ)) → gone_join body_join (told_by (AttributeAt a.0 s a.1)) (attributes_alone s attributes) ≡ attributes_alone s (a ∷ attributes)
one_attribute_more s a attributes = ap (λ w. Here (maps_alone (maps_of (writes_of s (a ∷ attributes)) w))) (none_first no_watches)

told_behind : (s : Stamp) (attributes : List (List ℕ × List ℕ)) (k : Trace) → tell_all k (attribute_traces s attributes) ≡ gone_join body_join (told_by k) (attributes_alone s attributes)
unfolding tell_all
told_behind s [] k = joined_nothing (told_by k)
told_behind s (a ∷ attributes) k = ap (gone_join body_join (told_by k)) (told_behind s attributes (AttributeAt a.0 s a.1) ∙ one_attribute_more s a attributes)

-- traces, and behind them attributes
told_with : (s : Stamp) (attributes : List (List ℕ × List ℕ)) (k : Trace) (ks : List Trace) → tell_all k (ks ++ attribute_traces s attributes) ≡ gone_join body_join (tell_all k ks) (attributes_alone s attributes)
unfolding tell_all
told_with s attributes k [] = told_behind s attributes k
told_with s attributes k (j ∷ ks) =
    ap (gone_join body_join (told_by k)) (told_with s attributes j ks)
    ∙ sym ((semilattice (gone_laws body_laws)).associative (told_by k) (tell_all j ks) (attributes_alone s attributes))

abbrev with_maps : Body → Maps → Body
with_maps b m = record { base = b.base; address = b.address; seen = b.seen; lifetime = b.lifetime; binding = b.binding; sms = b.sms; objects = b.objects; ended = b.ended; maps = m }

maps_joined : (b : Body) (m : Maps) → b.maps ≡ no_maps → body_join b (maps_alone m) ≡ with_maps b m
maps_joined b m none =
    let maps = ap (λ n. both_join (last_join text_cmp) watching_join n m) none ∙ no_maps_first m in
    λ i. record {
      base = record { value = join_none (greater base_cmp) b.base.value i };
      address = record { write = join_none (greater (write_cmp addr_cmp)) b.address.write i };
      seen = record { write = join_none (greater (write_cmp moment_cmp)) b.seen.write i };
      lifetime = record { write = join_none (greater (write_cmp nat_cmp)) b.lifetime.write i };
      binding = record { write = join_none (greater (write_cmp binding_cmp)) b.binding.write i };
      sms = record { write = join_none (greater (write_cmp sms_cmp)) b.sms.write i };
      objects = record { write = join_none (greater (write_cmp text_cmp)) b.objects.write i };
      ended = record { value = join_none (greater stamp_cmp) b.ended.value i };
      maps = maps i;
    }

-- what traces without attributes tell, and attributes
told_beside : (s : Stamp) (attributes : List (List ℕ × List ℕ)) (ks : List Trace) (b : Body) → b.maps ≡ no_maps → tell_all Named ks ≡ Here b → tell_all Named (ks ++ attribute_traces s attributes) ≡ Here (with_maps b (maps_of (writes_of s attributes) no_watches))
told_beside s attributes ks b none told =
    told_with s attributes Named ks
    ∙ ap (λ x. gone_join body_join x (attributes_alone s attributes)) told
    ∙ ap Here (maps_joined b (maps_of (writes_of s attributes) no_watches) none)

-- ---- the settings of an operation
abbrev set_traces : Stamp → Base → Addr → Moment → ℕ → Binding → Option (List ℕ) → List ℕ → List Trace
set_traces s base address seen l b m o = Based base ∷ AddressAt s address ∷ SeenAt s seen ∷ LifetimeAt s l ∷ BindingAt s b ∷ SmsAt s m ∷ ObjectsAt s o ∷ []

abbrev set_body : Stamp → Base → Addr → Moment → ℕ → Binding → Option (List ℕ) → List ℕ → Body
set_body s base address seen l b m o = record {
  base = record { value = Some base };
  address = record { write = Some (s, address) };
  seen = record { write = Some (s, seen) };
  lifetime = record { write = Some (s, l) };
  binding = record { write = Some (s, b) };
  sms = record { write = Some (s, m) };
  objects = record { write = Some (s, o) };
  ended = record { value = None };
  maps = no_maps;
}

told_set : (s : Stamp) (base : Base) (address : Addr) (seen : Moment) (l : ℕ) (b : Binding) (m : Option (List ℕ)) (o : List ℕ) → tell_all Named (set_traces s base address seen l b m o) ≡ Here (set_body s base address seen l b m o)
unfolding tell_all
told_set s base address seen l b m o = simp (none_first, no_attribute_first)

abbrev given_traces : Stamp → Addr → Moment → Option ℕ → Option Binding → Option (List ℕ) → Option (List ℕ) → List Trace
given_traces s address seen l b m o = AddressAt s address ∷ SeenAt s seen ∷ (written (LifetimeAt s) l ++ written (BindingAt s) b ++ written (λ text. SmsAt s (Some text)) m ++ written (ObjectsAt s) o)

abbrev given_body : Stamp → Addr → Moment → Option ℕ → Option Binding → Option (List ℕ) → Option (List ℕ) → Body
given_body s address seen l b m o = record {
  base = record { value = None };
  address = record { write = Some (s, address) };
  seen = record { write = Some (s, seen) };
  lifetime = record { write = write_of s l };
  binding = record { write = write_of s b };
  sms = record { write = write_of s (some_text m) };
  objects = record { write = write_of s o };
  ended = record { value = None };
  maps = no_maps;
}

told_given : (s : Stamp) (address : Addr) (seen : Moment) (l : Option ℕ) (b : Option Binding) (m o : Option (List ℕ)) → tell_all Named (given_traces s address seen l b m o) ≡ Here (given_body s address seen l b m o)
unfolding tell_all
told_given s address seen None None None None = simp (none_first, no_attribute_first)
told_given s address seen None None None (Some o) = simp (none_first, no_attribute_first)
told_given s address seen None None (Some m) None = simp (none_first, no_attribute_first)
told_given s address seen None None (Some m) (Some o) = simp (none_first, no_attribute_first)
told_given s address seen None (Some b) None None = simp (none_first, no_attribute_first)
told_given s address seen None (Some b) None (Some o) = simp (none_first, no_attribute_first)
told_given s address seen None (Some b) (Some m) None = simp (none_first, no_attribute_first)
told_given s address seen None (Some b) (Some m) (Some o) = simp (none_first, no_attribute_first)
told_given s address seen (Some l) None None None = simp (none_first, no_attribute_first)
told_given s address seen (Some l) None None (Some o) = simp (none_first, no_attribute_first)
told_given s address seen (Some l) None (Some m) None = simp (none_first, no_attribute_first)
told_given s address seen (Some l) None (Some m) (Some o) = simp (none_first, no_attribute_first)
told_given s address seen (Some l) (Some b) None None = simp (none_first, no_attribute_first)
told_given s address seen (Some l) (Some b) None (Some o) = simp (none_first, no_attribute_first)
told_given s address seen (Some l) (Some b) (Some m) None = simp (none_first, no_attribute_first)
told_given s address seen (Some l) (Some b) (Some m) (Some o) = simp (none_first, no_attribute_first)

told_removed : (s : Stamp) → tell_all Named (traces_of s Remove) ≡ told_of s Remove
unfolding tell_all
told_removed s = refl

told_watched : (s : Stamp) (path : Path) (accept : Option ℕ) → tell_all Named (traces_of s (Observe path accept)) ≡ told_of s (Observe path accept)
unfolding tell_all
told_watched s path accept = simp (none_first, no_attribute_first)

told_cancelled : (s : Stamp) (path : Path) (token : Stamp) → tell_all Named (traces_of s (Cancel path token)) ≡ told_of s (Cancel path token)
unfolding tell_all
told_cancelled s path token = simp (none_first, no_attribute_first)

told_expired : (s upto : Stamp) → tell_all Named (traces_of s (Expire upto)) ≡ told_of s (Expire upto)
unfolding tell_all
told_expired s upto = simp (none_first, no_attribute_first)

told_all : (s : Stamp) (w : What) → tell_all Named (traces_of s w) ≡ told_of s w
told_all s (Register version queue address seen settings) =
    let base : Base = record { version = version; queue = queue } in
    told_beside s settings.attributes (set_traces s base address seen settings.lifetime settings.binding settings.sms settings.objects) (set_body s base address seen settings.lifetime settings.binding settings.sms settings.objects) refl
    (told_set s base address seen settings.lifetime settings.binding settings.sms settings.objects)
told_all s (Update address seen settings) =
    told_beside s settings.attributes (given_traces s address seen settings.lifetime settings.binding settings.sms settings.objects) (given_body s address seen settings.lifetime settings.binding settings.sms settings.objects) refl
    (told_given s address seen settings.lifetime settings.binding settings.sms settings.objects)
told_all s Remove = told_removed s
told_all s (Observe path accept) = told_watched s path accept
told_all s (Cancel path token) = told_cancelled s path token
told_all s (Expire upto) = told_expired s upto

state_of_marks : (o : Op) → state_of (marks_of o) ≡ one_key o.endpoint (slot_of o)
state_of_marks o = state_of-marks_about o.endpoint o.reg Named (traces_of o.stamp o.what) ∙ ap (λ x. one_key o.endpoint (slot_at o.reg x)) (told_all o.stamp o.what)

pub marks_state : (o : Op) → IsStateOf (marks_of o) (one_key o.endpoint (slot_of o))
marks_state o = subst (IsStateOf (marks_of o)) (state_of_marks o) (state_least (marks_of o))

-- ---- the state of several operations about one endpoint
-- the state after one more operation, at an endpoint
one_more : (o : Op) (os : List Op) (e : List ℕ) → get (state_of (all_marks (o ∷ os))) e ≡ option_join slot_join (get (one_key {R = text_cmp} o.endpoint (slot_of o)) e) (get (state_of (all_marks os)) e)
one_more o os e =
    ap (λ (s : State). get s e) (sym (state_is (marks_of o ++ all_marks os) _ (state_union (marks_of o) (all_marks os) _ _ (marks_state o) (state_least (all_marks os)))))
    ∙ get-map_join text_order slot_join (one_key o.endpoint (slot_of o)) (state_of (all_marks os)) e

at_own : (o : Op) (e : List ℕ) → o.endpoint ≡ e → get (one_key {R = text_cmp} o.endpoint (slot_of o)) e ≡ Some (slot_of o)
at_own o e same = ap (λ k. get (one_key {R = text_cmp} k (slot_of o)) e) same ∙ get-own_key text_order e (slot_of o)

joined_from : (e : List ℕ) (s : Slot) (os : List Op) → AllAbout e os → option_join slot_join (Some s) (get (state_of (all_marks os)) e) ≡ Some (joined_all slot_join s (map slot_of os))
joined_from e s [] h = ap (option_join slot_join (Some s)) (get-empty text_cmp e)
joined_from e s (o ∷ os) h =
    ap (option_join slot_join (Some s)) (one_more o os e ∙ ap (λ x. option_join slot_join x (get (state_of (all_marks os)) e)) (at_own o e (h o (first_there o os o refl))))
    ∙ sym ((semilattice (option_laws slot_laws)).associative (Some s) (Some (slot_of o)) (get (state_of (all_marks os)) e))
    ∙ joined_from e (slot_join s (slot_of o)) os (λ n p. h n (more_there o os n p))

-- the joined slots of operations about one endpoint are the state of all their marks there
pub joined_state : (o : Op) (os : List Op) → AllAbout o.endpoint os → IsSlotOf (all_marks (o ∷ os)) o.endpoint (joined_all slot_join (slot_of o) (map slot_of os))
joined_state o os h = (
  all_names (o ∷ os),
  (
    state_of (all_marks (o ∷ os)),
    state_least (all_marks (o ∷ os)),
    one_more o os o.endpoint
        ∙ ap (λ x. option_join slot_join x (get (state_of (all_marks os)) o.endpoint)) (at_own o o.endpoint refl)
        ∙ joined_from o.endpoint (slot_of o) os h,
  ),
)
