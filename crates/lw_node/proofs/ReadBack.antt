-- What a Register or an Update wrote is read back.
use Rattle.std.proofs.Common.{◌≡◌, inl, ℕ, zero, suc, ◌+◌, ◌*◌, ◌<◌, ◌≤◌, ◌||◌, ◌==◌, nat_lt, Bool, true, false, cond, List, Option, Some, None, refl, sym, ap, subst, ◌∙◌, arith}
use Rattle.std.proofs.lemmas.Bool.Decides.{nat_tests}
use Rattle.std.specs.Cmp.{nat_cmp_is, tied_itself}
use Rattle.std.specs.FinMap.{get}
use Rattle.std.specs.Ordering.{nat_cmp, ordering_then, match_ordering, is_gt}
use Rattle.std.specs.declared.cmp.Ordering.{Ordering}
use Rattle.std.specs.declared.cmp.Ordering.TheVariants.{Less, Greater}
use Rattle.lw_stamp.specs.declared.moment.Moment.{Moment}
use Rattle.lw_stamp.specs.declared.stamp.Stamp.{Stamp}
use Rattle.lw_stamp.specs.Moment.{ms_of}
use Rattle.lw_stamp.specs.StampOrder.{stamp_cmp}
use Rattle.lw_stamp.specs.TextOrder.{text_cmp}
use Rattle.lw_stamp.proofs.StampLemmas.{stamp_order}
use Rattle.lw_join.specs.Greater.{greater}
use Rattle.lw_join.specs.Entries.{Rises, get as entry_of}
use Rattle.lw_join.specs.EntriesLaws.{join_none}
use Rattle.lw_join.specs.Lww.{write_cmp}
use Rattle.lw_join.specs.Maps.{one_key}
use Rattle.lw_join.specs.Options.{option_join}
use Rattle.lw_join.specs.OrGone.{gone_join}
use Rattle.lw_join.specs.Parts.{entries_of}
use Rattle.lw_join.specs.declared.or_gone.OrGone.{OrGone}
use Rattle.lw_join.specs.declared.or_gone.OrGone.TheVariants.{Here, Gone}
use Rattle.lw_join.proofs.MapLemmas.{get-map_join, get-own_key}
use Rattle.lw_reg.specs.declared.addr.Addr.{Addr}
use Rattle.lw_reg.specs.declared.base.Base.{Base}
use Rattle.lw_reg.specs.declared.binding.Binding.{Binding}
use Rattle.lw_reg.specs.declared.body.Body.{Body}
use Rattle.lw_reg.specs.declared.op.Op.{Op}
use Rattle.lw_reg.specs.declared.op.What.{What}
use Rattle.lw_reg.specs.declared.settings.GivenSettings.{GivenSettings}
use Rattle.lw_reg.specs.declared.op.What.TheVariants.{Register, Update, Remove, Observe, Cancel, Expire}
use Rattle.lw_reg.specs.declared.slot.Slot.{Slot}
use Rattle.lw_reg.specs.Attribute.{values_of}
use Rattle.lw_reg.specs.Body.{body_join, no_watches, maps_of}
use Rattle.lw_reg.specs.Marks.{Trace, Marks, Has, marks_of}
use Rattle.lw_reg.specs.Marks.Trace.{Named, Based, AddressAt, SeenAt, LifetimeAt, BindingAt, SmsAt, ObjectsAt, AttributeAt, EndedAt}
use Rattle.lw_reg.specs.OrderLaws.{text_order}
use Rattle.lw_reg.specs.Orders.{addr_cmp, base_cmp, binding_cmp, moment_cmp, sms_cmp}
use Rattle.lw_reg.specs.Reading.{Shows, shown_in, shown_by_option, stamp_of, registration_of, registered_in, lasting, in_time, timely}
use Rattle.lw_reg.specs.Registration.{Registration}
use Rattle.lw_reg.specs.Showing.{IsBase, ShownOf, queue_of}
use Rattle.lw_reg.specs.Slot.{slot_join, slot_at, slot_of, told_of, write_of, writes_of, some_text}
use Rattle.lw_reg.specs.State.{State, state_join, state_of}
use Rattle.lw_reg.proofs.Operations.{marks_state}
use Rattle.lw_reg.proofs.States.{state_is}
use Rattle.lw_table.specs.inner.Found.{view_with, view_at}
use Rattle.lw_table.proofs.Answering.{read_by_endpoint}
use Rattle.lw_table.proofs.LookUpLemmas.{view_reads, read_tells, read_names}
use Rattle.lw_node.specs.Laws.{registered, AttributesRise, RegistersReadBack, or_before, or_kept, IsUpdated, UpdatesReadBack}
use Rattle.lw_node.specs.Within.{FitsClock, MarkWithin}
use Rattle.lw_node.proofs.Attributes.{write_later, written_values, AreOlder, after_writes, after_rises, after_values}

some_is : {A : Type 0} (v w : A) → Some v ≡ Some w → v ≡ w
some_is v w e = cc

-- ---- what is newer
counter_less : (a b : Stamp) → a.counter < b.counter → stamp_cmp a b ≡ Less
counter_less a b h = ap (λ o. ordering_then o (nat_cmp a.node b.node)) (sym (nat_cmp_is a.counter b.counter Less h))

counter_more : (a b : Stamp) → b.counter < a.counter → stamp_cmp a b ≡ Greater
counter_more a b h = ap (λ o. ordering_then o (nat_cmp a.node b.node)) (sym (nat_cmp_is a.counter b.counter Greater h))

-- what lasts was seen
lasting_seen : (o : Option Stamp) (s : Option (Stamp × Moment)) (w : Stamp × Moment) → lasting o s ≡ Some w → s ≡ Some w
lasting_seen None s w h = h
lasting_seen (Some upto) None w h = absurd cc
lasting_seen (Some upto) (Some v) w h = go (is_gt (stamp_cmp v.0 upto)) h
  where
    go : (b : Bool) → cond b (Some v) None ≡ Some w → Some v ≡ Some w
    go true k = k
    go false k = absurd cc

-- what is seen later than it was over lasts
later_lasts : (o : Option Stamp) (w : Stamp × Moment) → ((upto : Stamp) → o ≡ Some upto → stamp_cmp w.0 upto ≡ Greater) → lasting o (Some w) ≡ Some w
later_lasts None w later = refl
later_lasts (Some upto) w later = ap (λ r. cond (is_gt r) (Some w) None) (later upto refl)

-- the slot of a later registration wins whole
slot_later : (slot : Slot) (r : Stamp) (x : OrGone Body) → stamp_cmp (stamp_of slot) r ≡ Less → slot_join slot (slot_at r x) ≡ slot_at r x
slot_later slot r x h =
    ap (λ (p : Stamp × OrGone Body). slot_at p.0 p.1) (ap (λ o. match_ordering {X = Stamp × OrGone Body} o (r, x) (stamp_of slot, gone_join body_join slot.registration.value x) (stamp_of slot, slot.registration.value)) h)

-- at one registration the bodies are joined
slot_same : (r : Stamp) (x y : OrGone Body) → slot_join (slot_at r x) (slot_at r y) ≡ slot_at r (gone_join body_join x y)
slot_same r x y = ap (λ (p : Stamp × OrGone Body). slot_at p.0 p.1) (ap (λ o. match_ordering {X = Stamp × OrGone Body} o (r, y) (r, gone_join body_join x y) (r, x)) (tied_itself stamp_order.total r))

-- ---- the state after an operation
mark_state : (op : Op) → state_of (marks_of op) ≡ one_key op.endpoint (slot_of op)
mark_state op = sym (state_is (marks_of op) (one_key op.endpoint (slot_of op)) (marks_state op))

after_at : (s : State) (op : Op) → get (state_join s (state_of (marks_of op))) op.endpoint ≡ option_join slot_join (get s op.endpoint) (Some (slot_of op))
after_at s op =
    get-map_join text_order slot_join s (state_of (marks_of op)) op.endpoint
    ∙ ap (option_join slot_join (get s op.endpoint)) (ap (λ (t : State). get t op.endpoint) (mark_state op) ∙ get-own_key text_order op.endpoint (slot_of op))

-- what is shown by a slot of the state is within the clock
pub slot_within : (clock : ℕ) (s : State) → FitsClock clock s → (e : List ℕ) (slot : Slot) → get s e ≡ Some slot → (k : Trace) → Shows slot.registration.value k → MarkWithin clock (record { endpoint = e; registration = stamp_of slot; trace = k })
slot_within clock s fits e slot h k shows =
    fits (record { endpoint = e; registration = stamp_of slot; trace = k }) (subst (λ o. shown_by_option e o (record { endpoint = e; registration = stamp_of slot; trace = k })) (sym h) (refl, refl, shows))

pub named_shown : (x : OrGone Body) → Shows x Named
named_shown Gone = inl refl
named_shown (Here b) = tt

-- ---- a Register
-- it takes the place of what was there
placed : (clock : ℕ) (s : State) → FitsClock clock s → (op : Op) → op.stamp.counter ≡ clock + 1 → op.reg ≡ op.stamp → (o : Option Slot) → get s op.endpoint ≡ o → option_join slot_join o (Some (slot_of op)) ≡ Some (slot_of op)
placed clock s fits op next own None h = refl
placed clock s fits op next own (Some slot) h =
    let within : (stamp_of slot).counter ≤ clock = (slot_within clock s fits op.endpoint slot h Named (named_shown slot.registration.value)).0 in
    let reg : op.reg.counter ≡ clock + 1 = ap (λ (t : Stamp). t.counter) own ∙ next in
    ap (λ x. Some x) (slot_later slot op.reg (told_of op.stamp op.what) (counter_less (stamp_of slot) op.reg (omega arith)))

-- a registration is in time at its own moment
in_own_time : (r : Registration) → in_time (ms_of r.seen) r ≡ true
in_own_time r = go r.lifetime
  where
    go : (l : ℕ) → ((l == 0) || nat_lt (ms_of r.seen) (ms_of r.seen + 1000 * l)) ≡ true
    go zero = refl
    go (suc l) = grind (arith, nat_tests)

timely_own : (r : Registration) → timely (ms_of r.seen) (Some r) ≡ Some r
timely_own r = ap (λ b. cond b (Some r) None) (in_own_time r)

registers : (e : List ℕ) (id s : Stamp) (what : What) (r : Registration) → AttributesRise what → registered e id what ≡ Some r → registered_in e (slot_at id (told_of s what)) ≡ Some r
registers e id s (Register version queue address seen settings) r rise h =
    ap (registration_of e id (Some (record { version = version; queue = queue })) (Some (s, address)) (Some (s, seen)) (Some (s, settings.lifetime)) (Some (s, settings.binding)) (Some (s, settings.sms)) (Some (s, settings.objects))) (written_values s settings.attributes rise)
    ∙ h
registers e id s (Update address seen settings) r rise h = absurd cc
registers e id s Remove r rise h = absurd cc
registers e id s (Observe path accept) r rise h = absurd cc
registers e id s (Cancel path token) r rise h = absurd cc
registers e id s (Expire upto) r rise h = absurd cc

pub registers_read_back : RegistersReadBack
registers_read_back old new op f rise own r h =
    read_by_endpoint new.table.state (ms_of r.seen) op.endpoint (Some r) (sym found)
  where
    at : get new.table.state op.endpoint ≡ Some (slot_of op)
    at = ap (λ (t : State). get t op.endpoint) f.issued.state ∙ after_at old.table.state op ∙ placed old.clock old.table.state f.fits op f.next own (get old.table.state op.endpoint) refl

    found : view_at (ms_of r.seen) new.table.state op.endpoint ≡ Some r
    found =
        ap (view_with (ms_of r.seen) op.endpoint) at
        ∙ ap (timely (ms_of r.seen)) (registers op.endpoint op.reg op.stamp op.what r rise (ap (λ t. registered op.endpoint t op.what) own ∙ h))
        ∙ timely_own r

-- ---- an Update
-- what is shown of a slot, part by part
pub record IsWhole (e : List ℕ) (r : Stamp) (b : Body) (v : Registration) : Type 0 where
  pub base : Base
  pub address : Stamp × Addr
  pub seen : Stamp × Moment
  pub lifetime : Stamp × ℕ
  pub binding : Stamp × Binding
  pub sms : Stamp × Option (List ℕ)
  pub objects : Stamp × List ℕ
  pub base_is : b.base.value ≡ Some base
  pub address_is : b.address.write ≡ Some address
  pub seen_is : b.seen.write ≡ Some seen
  pub lifetime_is : b.lifetime.write ≡ Some lifetime
  pub binding_is : b.binding.write ≡ Some binding
  pub sms_is : b.sms.write ≡ Some sms
  pub objects_is : b.objects.write ≡ Some objects
  pub shown : registration_of e r (Some base) (Some address) (Some seen) (Some lifetime) (Some binding) (Some sms) (Some objects) (values_of (entries_of b.maps.left)) ≡ Some v

whole : (e : List ℕ) (r : Stamp) (b : Body) (v : Registration) (ob : Option Base) (oa : Option (Stamp × Addr)) (os : Option (Stamp × Moment)) (ol : Option (Stamp × ℕ)) (oi : Option (Stamp × Binding)) (om : Option (Stamp × Option (List ℕ))) (oo : Option (Stamp × List ℕ))
    → b.base.value ≡ ob → b.address.write ≡ oa → lasting b.ended.value b.seen.write ≡ os → b.lifetime.write ≡ ol → b.binding.write ≡ oi → b.sms.write ≡ om → b.objects.write ≡ oo
    → registration_of e r ob oa os ol oi om oo (values_of (entries_of b.maps.left)) ≡ Some v → IsWhole e r b v
whole e r b v (Some base) (Some address) (Some seen) (Some lifetime) (Some binding) (Some sms) (Some objects) hb ha hs hl hi hm ho h = record {
  base = base;
  address = address;
  seen = seen;
  lifetime = lifetime;
  binding = binding;
  sms = sms;
  objects = objects;
  base_is = hb;
  address_is = ha;
  seen_is = lasting_seen b.ended.value b.seen.write seen hs;
  lifetime_is = hl;
  binding_is = hi;
  sms_is = hm;
  objects_is = ho;
  shown = h;
}
whole e r b v _ _ _ _ _ _ _ hb ha hs hl hi hm ho h = absurd cc

timely_is : (now : ℕ) (o : Option Registration) (v : Registration) → timely now o ≡ Some v → o ≡ Some v
timely_is now None v h = absurd cc
timely_is now (Some w) v h = go (in_time now w) h
  where
    go : (b : Bool) → cond b (Some w) None ≡ Some v → Some w ≡ Some v
    go true k = k
    go false k = absurd cc

-- the slot of a registration that is shown has its parts
pub record HasBody (e : List ℕ) (slot : Slot) (v : Registration) : Type 0 where
  pub body : Body
  pub is : slot ≡ slot_at v.id (Here body)
  pub whole_is : IsWhole e v.id body v

has_body : (e : List ℕ) (slot : Slot) (v : Registration) → registered_in e slot ≡ Some v → HasBody e slot v
has_body e slot v = go slot.registration.stamp slot.registration.value
  where
    id_is : (r : Stamp) (b : Body) → IsWhole e r b v → r ≡ v.id
    id_is r b w = ap (λ (x : Registration). x.id) (some_is _ v w.shown)

    go : (r : Stamp) (x : OrGone Body) → registered_in e (slot_at r x) ≡ Some v → HasBody e (slot_at r x) v
    go r Gone h = absurd cc
    go r (Here b) h =
        let w = whole e r b v b.base.value b.address.write (lasting b.ended.value b.seen.write) b.lifetime.write b.binding.write b.sms.write b.objects.write refl refl refl refl refl refl refl h in
        let same = id_is r b w in
        record { body = b; is = ap (λ t. slot_at t (Here b)) same; whole_is = subst (λ t. IsWhole e t b v) same w }

-- a field that is written later has that value, and one that is not written keeps its own
abbrev stamp_after : {V : Type 0} → Stamp → Stamp → Option V → Stamp
stamp_after s t None = s
stamp_after s t (Some w) = t

field_after : {V : Type 0} (cmp : V → V → Ordering) (o : Option (Stamp × V)) (x : Stamp × V) (t : Stamp) (w : Option V) → o ≡ Some x → stamp_cmp x.0 t ≡ Less
    → option_join (greater (write_cmp cmp)) o (write_of t w) ≡ Some (stamp_after x.0 t w, or_before w x.1)
field_after cmp o x t None h less = ap (λ y. option_join (greater (write_cmp cmp)) y None) h
field_after cmp o x t (Some w) h less = ap (λ y. option_join (greater (write_cmp cmp)) y (Some (t, w))) h ∙ ap (λ y. Some y) (write_later cmp x.0 t x.1 w less)

sms_kept : (m v : Option (List ℕ)) → or_before (some_text m) v ≡ or_kept m v
sms_kept None v = refl
sms_kept (Some m) v = refl

-- what an Update leaves of a body
abbrev updated_body : Body → Stamp → Addr → Moment → GivenSettings → Body
updated_body b t address seen given = body_join b (record {
  base = record { value = None };
  address = record { write = Some (t, address) };
  seen = record { write = Some (t, seen) };
  lifetime = record { write = write_of t given.lifetime };
  binding = record { write = write_of t given.binding };
  sms = record { write = write_of t (some_text given.sms) };
  objects = record { write = write_of t given.objects };
  ended = record { value = None };
  maps = maps_of (writes_of t given.attributes) no_watches;
})

-- each field of the body was written before, and it was over before
record IsBefore (t : Stamp) {e : List ℕ} {r : Stamp} {b : Body} {v : Registration} (w : IsWhole e r b v) : Type 0 where
  address : stamp_cmp w.address.0 t ≡ Less
  seen : stamp_cmp w.seen.0 t ≡ Less
  lifetime : stamp_cmp w.lifetime.0 t ≡ Less
  binding : stamp_cmp w.binding.0 t ≡ Less
  sms : stamp_cmp w.sms.0 t ≡ Less
  objects : stamp_cmp w.objects.0 t ≡ Less
  ended : (upto : Stamp) → b.ended.value ≡ Some upto → stamp_cmp t upto ≡ Greater
  attributes : AreOlder b.maps.left t

record Updated (M : Marks) (e : List ℕ) (before : Registration) (c : Body) (address : Addr) (seen : Moment) (given : GivenSettings) : Type 0 where
  registration : Registration
  shown : registered_in e (slot_at before.id (Here c)) ≡ Some registration
  is : IsUpdated M before address seen given registration

updates : (M : Marks) (e : List ℕ) (before : Registration) (b : Body) (w : IsWhole e before.id b before) (t : Stamp) (address : Addr) (seen : Moment) (given : GivenSettings)
    → ((base : Base) → IsBase M before.endpoint before.id base → w.base ≡ base) → Rises text_cmp given.attributes → IsBefore t w → Updated M e before (updated_body b t address seen given) address seen given
updates M e before b w t address seen given stood rise older =
    let hb = ap (λ o. option_join (greater base_cmp) o None) w.base_is in
    let ha = field_after addr_cmp b.address.write w.address t (Some address) w.address_is older.address in
    let over : Option Stamp = option_join (greater stamp_cmp) b.ended.value None in
    let hs = ap (lasting over) (field_after moment_cmp b.seen.write w.seen t (Some seen) w.seen_is older.seen) ∙ later_lasts over (t, seen) (λ upto is. older.ended upto (sym (join_none (greater stamp_cmp) b.ended.value) ∙ is)) in
    let hl = field_after nat_cmp b.lifetime.write w.lifetime t given.lifetime w.lifetime_is older.lifetime in
    let hi = field_after binding_cmp b.binding.write w.binding t given.binding w.binding_is older.binding in
    let hm = field_after sms_cmp b.sms.write w.sms t (some_text given.sms) w.sms_is older.sms in
    let ho = field_after text_cmp b.objects.write w.objects t given.objects w.objects_is older.objects in
    record { registration = r; shown = λ i. registration_of e before.id (hb i) (ha i) (hs i) (hl i) (hi i) (hm i) (ho i) (after_writes b.maps.left t given.attributes); is = updated }
  where
    same : ◌≡◌ {A = Registration} (record {
      endpoint = e;
      id = before.id;
      address = w.address.1;
      seen = w.seen.1;
      lifetime = w.lifetime.1;
      version = w.base.version;
      binding = w.binding.1;
      queue = queue_of w.base w.binding.1;
      sms = w.sms.1;
      objects = w.objects.1;
      attributes = values_of (entries_of b.maps.left);
    }) before
    same = some_is _ before w.shown

    r : Registration
    r = record {
      endpoint = e;
      id = before.id;
      address = address;
      seen = seen;
      lifetime = or_before given.lifetime w.lifetime.1;
      version = w.base.version;
      binding = or_before given.binding w.binding.1;
      queue = queue_of w.base (or_before given.binding w.binding.1);
      sms = or_before (some_text given.sms) w.sms.1;
      objects = or_before given.objects w.objects.1;
      attributes = after_writes b.maps.left t given.attributes;
    }

    updated : IsUpdated M before address seen given r
    updated = record {
      endpoint = ap (λ (x : Registration). x.endpoint) same;
      id = refl;
      address_is = refl;
      seen_is = refl;
      lifetime_is = ap (λ (x : Registration). or_before given.lifetime x.lifetime) same;
      version = ap (λ (x : Registration). x.version) same;
      binding_is = ap (λ (x : Registration). or_before given.binding x.binding) same;
      queue = λ base is. ap (λ b. queue_of b (or_before given.binding w.binding.1)) (stood base is);
      sms_is = sms_kept given.sms w.sms.1 ∙ ap (λ (x : Registration). or_kept given.sms x.sms) same;
      objects_is = ap (λ (x : Registration). or_before given.objects x.objects) same;
      attributes_rise = after_rises b.maps.left t given.attributes;
      attributes_are = λ name.
          after_values b.maps.left t given.attributes rise older.attributes name
          ∙ ap (λ (x : Registration). or_kept (entry_of text_cmp given.attributes name) (entry_of text_cmp x.attributes name)) same;
    }

-- all that the state shows is older than the operation
older_than : (clock : ℕ) (s : State) → FitsClock clock s → (op : Op) → op.stamp.counter ≡ clock + 1 → (before : Registration) (b : Body) → get s op.endpoint ≡ Some (slot_at before.id (Here b)) → (w : IsWhole op.endpoint before.id b before) → IsBefore op.stamp w
older_than clock s fits op next before b h w = record {
  address = less (AddressAt w.address.0 w.address.1) w.address.0 w.address_is (λ m. m.1);
  seen = less (SeenAt w.seen.0 w.seen.1) w.seen.0 w.seen_is (λ m. m.1);
  lifetime = less (LifetimeAt w.lifetime.0 w.lifetime.1) w.lifetime.0 w.lifetime_is (λ m. m.1);
  binding = less (BindingAt w.binding.0 w.binding.1) w.binding.0 w.binding_is (λ m. m.1);
  sms = less (SmsAt w.sms.0 w.sms.1) w.sms.0 w.sms_is (λ m. m.1);
  objects = less (ObjectsAt w.objects.0 w.objects.1) w.objects.0 w.objects_is (λ m. m.1);
  ended = λ upto there. counter_more op.stamp upto (below (EndedAt upto) upto there (λ m. m.1));
  attributes = λ name last there. less (AttributeAt name last.write.0 last.write.1) last.write.0 there (λ m. m.1);
}
  where
    below : (k : Trace) (t : Stamp) → Shows (Here b) k → (MarkWithin clock (record { endpoint = op.endpoint; registration = before.id; trace = k }) → t.counter ≤ clock) → t.counter < op.stamp.counter
    below k t shows within =
        let most : t.counter ≤ clock = within (slot_within clock s fits op.endpoint (slot_at before.id (Here b)) h k shows) in
        let after : op.stamp.counter ≡ clock + 1 = next in
        omega arith

    less : (k : Trace) (t : Stamp) → Shows (Here b) k → (MarkWithin clock (record { endpoint = op.endpoint; registration = before.id; trace = k }) → t.counter ≤ clock) → stamp_cmp t op.stamp ≡ Less
    less k t shows within = counter_less t op.stamp (below k t shows within)

pub updates_read_back : UpdatesReadBack
updates_read_back old new op f rise now before s here own address seen given what =
    go (get old.table.state op.endpoint) refl ((view_reads (shown_in old.table.state) (read_names old.table.state) old.table.state (read_tells old.table.state) now op.endpoint before).1 (sym here, s))
  where
    go : (o : Option Slot) → get old.table.state op.endpoint ≡ o → view_with now op.endpoint o ≡ Some before
        → (r : Registration) × IsUpdated (shown_in old.table.state) before address seen given r × ShownOf (shown_in new.table.state) (ms_of seen) op.endpoint (Some r)
    go None h k = absurd cc
    go (Some slot) h k = (u.registration, u.is, read_by_endpoint new.table.state (ms_of seen) op.endpoint (Some u.registration) (sym found))
      where
        body : HasBody op.endpoint slot before
        body = has_body op.endpoint slot before (timely_is now (registered_in op.endpoint slot) before k)

        there : get old.table.state op.endpoint ≡ Some (slot_at before.id (Here body.body))
        there = h ∙ ap (λ x. Some x) body.is

        stood : (base : Base) → IsBase (shown_in old.table.state) before.endpoint before.id base → body.whole_is.base ≡ base
        stood base is =
            some_is body.whole_is.base base
            (sym body.whole_is.base_is
            ∙ (subst (λ o. shown_by_option op.endpoint o (record { endpoint = op.endpoint; registration = before.id; trace = Based base })) there
            (subst (λ e. Has (shown_in old.table.state) e before.id (Based base)) (sym here) is.member)).2)

        u : Updated (shown_in old.table.state) op.endpoint before (updated_body body.body op.stamp address seen given) address seen given
        u = updates (shown_in old.table.state) op.endpoint before body.body body.whole_is op.stamp address seen given stood (subst AttributesRise what rise) (older_than old.clock old.table.state f.fits op f.next before body.body there body.whole_is)

        joined : option_join slot_join (get old.table.state op.endpoint) (Some (slot_of op)) ≡ Some (slot_at before.id (Here (updated_body body.body op.stamp address seen given)))
        joined =
            ap (λ o. option_join slot_join o (Some (slot_of op))) there
            ∙ ap (λ (p : Stamp × What). Some (slot_join (slot_at before.id (Here body.body)) (slot_at p.0 (told_of op.stamp p.1)))) (λ i. (own i, what i))
            ∙ ap (λ x. Some x) (slot_same before.id (Here body.body) (told_of op.stamp (Update address seen given)))

        found : view_at (ms_of seen) new.table.state op.endpoint ≡ Some u.registration
        found =
            ap (λ (t : State). view_with (ms_of seen) op.endpoint (get t op.endpoint)) f.issued.state
            ∙ ap (view_with (ms_of seen) op.endpoint) (after_at old.table.state op ∙ joined)
            ∙ ap (timely (ms_of seen)) u.shown
            ∙ subst (λ (m : Moment). timely (ms_of m) (Some u.registration) ≡ Some u.registration) u.is.seen_is (timely_own u.registration)
