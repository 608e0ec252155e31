-- What a slot shows is what the relations say of the set that it tells of.
use Rattle.std.proofs.Common.{◌≡◌, ℕ, Bool, true, false, cond, List, Option, Some, None, refl, sym, ap, ◌∙◌, subst, inl, inr}
use Rattle.std.specs.Prelude.{◌↔◌}
use Rattle.std.specs.declared.cmp.Ordering.{Ordering}
use Rattle.std.specs.Option.{option_map}
use Rattle.std.specs.Ordering.{nat_cmp, is_gt}
use Rattle.lw_stamp.specs.declared.moment.Moment.{Moment}
use Rattle.lw_stamp.specs.declared.stamp.Stamp.{Stamp}
use Rattle.lw_stamp.specs.Order.{AtMost, IsExactOrder, IsGreatest}
use Rattle.lw_stamp.specs.StampOrder.{stamp_cmp}
use Rattle.lw_stamp.specs.TextOrder.{text_cmp}
use Rattle.lw_stamp.proofs.StampLemmas.{stamp_order}
use Rattle.lw_join.specs.inner.Facets.{OptionTells, KeyedTells, LastTells}
use Rattle.lw_join.specs.Lww.{write_cmp}
use Rattle.lw_join.specs.Entries.{get}
use Rattle.lw_join.specs.EntriesLaws.{same_entries}
use Rattle.lw_join.specs.GreaterLaws.{at_most_trans}
use Rattle.lw_join.specs.LwwLaws.{write_order}
use Rattle.lw_join.specs.Parts.{entries_of, value_at}
use Rattle.lw_join.specs.declared.last.Last.{Last}
use Rattle.lw_join.specs.declared.lww.Lww.{Lww}
use Rattle.lw_join.specs.declared.once.Once.{Once}
use Rattle.lw_join.specs.declared.or_gone.OrGone.{OrGone}
use Rattle.lw_join.specs.declared.or_gone.OrGone.TheVariants.{Here, Gone}
use Rattle.lw_join.proofs.FacetLemmas.{greatest_same, greatest_one}
use Rattle.lw_join.proofs.Lookups.{get-map, Rises-map}
use Rattle.lw_reg.specs.declared.addr.Addr.{Addr}
use Rattle.lw_reg.specs.declared.base.Base.{Base}
use Rattle.lw_reg.specs.declared.binding.Binding.{Binding}
use Rattle.lw_reg.specs.declared.body.Body.{Body}
use Rattle.lw_reg.specs.declared.path.Path.{Path}
use Rattle.lw_reg.specs.BindingLaws.{binding_order}
use Rattle.lw_reg.specs.Attribute.{values_of}
use Rattle.lw_reg.specs.Body.{Watching, AttributeMap}
use Rattle.lw_reg.specs.Marks.{Trace, Marks, Has}
use Rattle.lw_reg.specs.Marks.Trace.{Named, Based, AddressAt, SeenAt, LifetimeAt, BindingAt, SmsAt, ObjectsAt, AttributeAt, EndedAt, Watched, Cancelled}
use Rattle.lw_reg.specs.OrderLaws.{addr_order, moment_order, number_order, sms_order, text_order, format_order}
use Rattle.lw_reg.specs.Orders.{addr_cmp, base_cmp, binding_cmp, moment_cmp, path_cmp, sms_cmp, format_cmp}
use Rattle.lw_reg.specs.Reading.{registration_of, registered_in, lasting, watches_of}
use Rattle.lw_reg.specs.Registration.{Registration}
use Rattle.lw_reg.specs.Showing.{IsCurrent, IsRegistered, IsToken, IsNamedValue, HasAttributes, queue_of}
use Rattle.lw_reg.specs.Slot.{slot_at, observed}
use Rattle.lw_reg.proofs.EndLemmas.{lasting_some}
use Rattle.lw_reg.proofs.Tells.{Sign, sign_trace, FieldTells, AttributesTell, WatchTells, ToldTells, base_facet, field_facet}
use Rattle.lw_reg.proofs.Tells.Sign.{Asked, Ended}

abbrev value_in : Last (List ℕ) → List ℕ
value_in l = l.write.1

-- the parts that a registration is shown of
pub record ShownParts (e : List ℕ) (r : Stamp) (base : Option Base) (address : Option (Stamp × Addr)) (seen : Option (Stamp × Moment)) (lifetime : Option (Stamp × ℕ)) (binding : Option (Stamp × Binding)) (sms : Option (Stamp × Option (List ℕ))) (objects : Option (Stamp × List ℕ)) (attributes : List (List ℕ × List ℕ)) (v : Registration) : Type 0 where
  endpoint : e ≡ v.endpoint
  id : r ≡ v.id
  base_value : Base
  base_is : base ≡ Some base_value
  version : base_value.version ≡ v.version
  queue : queue_of base_value v.binding ≡ v.queue
  address_at : Stamp
  address_is : address ≡ Some (address_at, v.address)
  seen_at : Stamp
  seen_is : seen ≡ Some (seen_at, v.seen)
  lifetime_at : Stamp
  lifetime_is : lifetime ≡ Some (lifetime_at, v.lifetime)
  binding_at : Stamp
  binding_is : binding ≡ Some (binding_at, v.binding)
  sms_at : Stamp
  sms_is : sms ≡ Some (sms_at, v.sms)
  objects_at : Stamp
  objects_is : objects ≡ Some (objects_at, v.objects)
  attributes_are : attributes ≡ v.attributes

some_registration : (v w : Registration) → Some v ≡ Some w → v ≡ w
some_registration v w e = cc

parts_shown : (e : List ℕ) (r : Stamp) (ob : Option Base) (oa : Option (Stamp × Addr)) (os : Option (Stamp × Moment)) (ol : Option (Stamp × ℕ)) (oi : Option (Stamp × Binding)) (om : Option (Stamp × Option (List ℕ))) (oo : Option (Stamp × List ℕ)) (pairs : List (List ℕ × List ℕ)) (v : Registration) → registration_of e r ob oa os ol oi om oo pairs ≡ Some v → ShownParts e r ob oa os ol oi om oo pairs v
parts_shown e r (Some b) (Some a) (Some s) (Some l) (Some i) (Some m) (Some o) pairs v h =
    let same = some_registration _ v h in
    record {
      endpoint = ap (λ (w : Registration). w.endpoint) same;
      id = ap (λ (w : Registration). w.id) same;
      base_value = b;
      base_is = λ j. Some b;
      version = ap (λ (w : Registration). w.version) same;
      queue = sym (ap (λ (w : Registration). queue_of b w.binding) same) ∙ ap (λ (w : Registration). w.queue) same;
      address_at = a.0;
      address_is = ap (λ (w : Registration). Some (a.0, w.address)) same;
      seen_at = s.0;
      seen_is = ap (λ (w : Registration). Some (s.0, w.seen)) same;
      lifetime_at = l.0;
      lifetime_is = ap (λ (w : Registration). Some (l.0, w.lifetime)) same;
      binding_at = i.0;
      binding_is = ap (λ (w : Registration). Some (i.0, w.binding)) same;
      sms_at = m.0;
      sms_is = ap (λ (w : Registration). Some (m.0, w.sms)) same;
      objects_at = o.0;
      objects_is = ap (λ (w : Registration). Some (o.0, w.objects)) same;
      attributes_are = ap (λ (w : Registration). w.attributes) same;
    }
parts_shown e r _ _ _ _ _ _ _ pairs v h = absurd cc

shown_of_parts : (e : List ℕ) (r : Stamp) (ob : Option Base) (oa : Option (Stamp × Addr)) (os : Option (Stamp × Moment)) (ol : Option (Stamp × ℕ)) (oi : Option (Stamp × Binding)) (om : Option (Stamp × Option (List ℕ))) (oo : Option (Stamp × List ℕ)) (pairs : List (List ℕ × List ℕ)) (v : Registration) → ShownParts e r ob oa os ol oi om oo pairs v → registration_of e r ob oa os ol oi om oo pairs ≡ Some v
shown_of_parts e r ob oa os ol oi om oo pairs v p =
    (λ j. registration_of (p.endpoint j) (p.id j) (p.base_is j) (p.address_is j) (p.seen_is j) (p.lifetime_is j) (p.binding_is j) (p.sms_is j) (p.objects_is j) (p.attributes_are j))
    ∙ (λ j. Some (record {
      endpoint = v.endpoint;
      id = v.id;
      address = v.address;
      seen = v.seen;
      lifetime = v.lifetime;
      version = p.version j;
      binding = v.binding;
      queue = p.queue j;
      sms = v.sms;
      objects = v.objects;
      attributes = v.attributes;
    }))

-- ---- ends
module _ (P : Stamp → Type 0) where
  -- of what is above the greatest stamp of an end, none is over
  above_ends : (o : Option Stamp) → OptionTells (IsGreatest stamp_cmp) P o → (at upto : Stamp) → P upto → AtMost stamp_cmp at upto → ¬ ((t : Stamp) → o ≡ Some t → is_gt (stamp_cmp at t) ≡ true)
  above_ends None told at upto over reached above = told upto over
  above_ends (Some t) told at upto over reached above =
      let no : is_gt (stamp_cmp at t) ≡ false = at_most_trans stamp_order at upto t reached (told.above upto over) in
      let yes = above t refl in
      cc

  -- what is not over lasts
  lasts_still : (o : Option Stamp) → OptionTells (IsGreatest stamp_cmp) P o → (s : Option (Stamp × Moment)) (w : Stamp × Moment) → s ≡ Some w → ((upto : Stamp) → P upto → ¬ AtMost stamp_cmp w.0 upto) → lasting o s ≡ Some w
  lasts_still None told s w e lasts = e
  lasts_still (Some t) told s w e lasts = ap (lasting (Some t)) e ∙ go (is_gt (stamp_cmp w.0 t)) refl
    where
      go : (b : Bool) → is_gt (stamp_cmp w.0 t) ≡ b → cond b (Some w) None ≡ Some w
      go true same = refl
      go false same = absurd (lasts t told.member same)

-- ---- attributes
module _ (M : Marks) (e : List ℕ) (r : Stamp) where
  named_from : (name : List ℕ) (o : Option (Last (List ℕ))) → OptionTells (LastTells text_cmp) (λ (w : Stamp × List ℕ). Has M e r (AttributeAt name w.0 w.1)) o → IsNamedValue M e r name (option_map value_in o)
  named_from name None told = λ at value has. told (at, value) has
  named_from name (Some l) told = (l.write.0, told)

  -- the values of writes that tell of a set are the set's attributes
  pub attributes_from : (writes : AttributeMap) → AttributesTell (λ k. Has M e r k) writes → HasAttributes M e r (values_of (entries_of writes))
  attributes_from writes told = record {
    rise = Rises-map text_cmp value_in (entries_of writes) writes.rises;
    each = λ name. subst (IsNamedValue M e r name) (sym (get-map text_cmp value_in (entries_of writes) name)) (named_from name (value_at writes name) (told name));
  }

  named_one : (name : List ℕ) (x y : Option (List ℕ)) → IsNamedValue M e r name x → IsNamedValue M e r name y → x ≡ y
  named_one name None None g h = refl
  named_one name None (Some v) g h = absurd (g h.0 v h.1.member)
  named_one name (Some v) None g h = absurd (h g.0 v g.1.member)
  named_one name (Some v) (Some u) g h = ap (λ (w : Stamp × List ℕ). Some w.1) (greatest_one (write_order text_order) (λ w. Has M e r (AttributeAt name w.0 w.1)) (g.0, v) (h.0, u) g.1 h.1)

  -- the attributes of one set are one
  pub attributes_one : (xs ys : List (List ℕ × List ℕ)) → HasAttributes M e r xs → HasAttributes M e r ys → xs ≡ ys
  attributes_one xs ys g h = same_entries text_order xs ys g.rise h.rise (λ name. named_one name (get text_cmp xs name) (get text_cmp ys name) (g.each name) (h.each name))

module _ (M : Marks) (e : List ℕ) (names : (r : Stamp) (k : Trace) → Has M e r k → Has M e r Named) where
  abbrev pub Told : Stamp × OrGone Body → Type 0
  Told x = KeyedTells stamp_cmp ToldTells (λ y. Has M e y.0 y.1) x

  named_keys : (r : Stamp) → ((k : Trace) × Has M e r k) ↔ Has M e r Named
  named_keys r = (λ x. names r x.0 x.1, λ h. (Named, h))

  pub current_from : (x : Stamp × OrGone Body) → Told x → IsCurrent M e x.0
  current_from x g = greatest_same stamp_order _ _ x.0 named_keys g.key

  -- the endpoint and the registration of what the slot shows
  place_of : (r : Stamp) (v : Registration) → e ≡ v.endpoint → r ≡ v.id → ◌≡◌ {A = List ℕ × Stamp} (e, r) (v.endpoint, v.id)
  place_of r v p q i = (p i, q i)

  pub shown_from : (r : Stamp) (x : OrGone Body) (v : Registration) → Told (r, x) → registered_in e (slot_at r x) ≡ Some v → (v.endpoint ≡ e) × IsRegistered M v
  shown_from r Gone v g h = absurd cc
  shown_from r (Here b) v g h =
      let p = parts_shown e r b.base.value b.address.write (lasting b.ended.value b.seen.write) b.lifetime.write b.binding.write b.sms.write b.objects.write (values_of (entries_of b.maps.left)) v h in
      let place = place_of r v p.endpoint p.id in
      let told : ToldTells (λ k. Has M v.endpoint v.id k) (Here b) = subst (λ (x : List ℕ × Stamp). ToldTells (λ k. Has M x.0 x.1 k) (Here b)) place g.told in
      let last = lasting_some b.ended.value b.seen.write (p.seen_at, v.seen) p.seen_is in
      let seen : IsGreatest (write_cmp moment_cmp) (λ w. Has M v.endpoint v.id (SeenAt w.0 w.1)) (p.seen_at, v.seen) = subst (OptionTells (IsGreatest (write_cmp moment_cmp)) (λ w. Has M v.endpoint v.id (SeenAt w.0 w.1))) last.0 told.1.seen in (
        sym p.endpoint,
        record {
          complete = record {
            current = subst (λ (x : List ℕ × Stamp). IsCurrent M x.0 x.1) place (current_from (r, Here b) g);
            base = p.base_value;
            is_base = subst (OptionTells (IsGreatest base_cmp) (λ c. Has M v.endpoint v.id (Based c))) p.base_is told.1.base;
            version = sym p.version;
            queue = sym p.queue;
            address = (p.address_at, subst (OptionTells (IsGreatest (write_cmp addr_cmp)) (λ w. Has M v.endpoint v.id (AddressAt w.0 w.1))) p.address_is told.1.address);
            seen = (p.seen_at, seen);
            lifetime = (p.lifetime_at, subst (OptionTells (IsGreatest (write_cmp nat_cmp)) (λ w. Has M v.endpoint v.id (LifetimeAt w.0 w.1))) p.lifetime_is told.1.lifetime);
            binding = (p.binding_at, subst (OptionTells (IsGreatest (write_cmp binding_cmp)) (λ w. Has M v.endpoint v.id (BindingAt w.0 w.1))) p.binding_is told.1.binding);
            sms = (p.sms_at, subst (OptionTells (IsGreatest (write_cmp sms_cmp)) (λ w. Has M v.endpoint v.id (SmsAt w.0 w.1))) p.sms_is told.1.sms);
            objects = (p.objects_at, subst (OptionTells (IsGreatest (write_cmp text_cmp)) (λ w. Has M v.endpoint v.id (ObjectsAt w.0 w.1))) p.objects_is told.1.objects);
            attributes = subst (HasAttributes M v.endpoint v.id) p.attributes_are (attributes_from M v.endpoint v.id b.maps.left told.1.attributes);
          };
          kept = told.0;
          lasts = λ h. above_ends (λ t. Has M v.endpoint v.id (EndedAt t)) b.ended.value told.1.ended p.seen_at h.upto h.over
              (subst (λ (s : Stamp). AtMost stamp_cmp s h.upto) (ap (λ (w : Stamp × Moment). w.0) (greatest_one (write_order moment_order) (λ w. Has M v.endpoint v.id (SeenAt w.0 w.1)) h.seen (p.seen_at, v.seen) h.is_seen seen)) h.reached)
              last.1;
        },
      )

  -- a slot and a registration of the endpoint have one stamp
  pub one_current : (x : Stamp × OrGone Body) (r : Stamp) → Told x → IsCurrent M e r → x.0 ≡ r
  one_current x r g c = greatest_one stamp_order (λ s. Has M e s Named) x.0 r (current_from x g) c

  write_is : {V : Type 0} {cmp : V → V → Ordering} → IsExactOrder cmp → (field : Stamp → V → Trace) (P : Trace → Type 0) (lww : Lww V) (at : Stamp) (v : V) → FieldTells cmp field P lww → IsGreatest (write_cmp cmp) (λ w. P (field w.0 w.1)) (at, v) → lww.write ≡ Some (at, v)
  write_is order field P lww at v told h = ap (λ l. l.write) ((field_facet order field).one P lww (record { write = Some (at, v) }) told h)

  pub shown_to : (r : Stamp) (x : OrGone Body) (v : Registration) → Told (r, x) → v.endpoint ≡ e → IsRegistered M v → registered_in e (slot_at r x) ≡ Some v
  shown_to r x v g same h = go x g
    where
      id_is : (x : OrGone Body) → Told (r, x) → r ≡ v.id
      id_is x g = one_current (r, x) v.id g (subst (λ f. IsCurrent M f v.id) same h.complete.current)

      told_at : (x : OrGone Body) → Told (r, x) → ToldTells (λ k. Has M v.endpoint v.id k) x
      told_at x g = subst (λ (y : List ℕ × Stamp). ToldTells (λ k. Has M y.0 y.1 k) x) (place_of r v (sym same) (id_is x g)) g.told

      go : (x : OrGone Body) → Told (r, x) → registered_in e (slot_at r x) ≡ Some v
      go Gone g = absurd (h.kept (told_at Gone g))
      go (Here b) g =
          let told = told_at (Here b) g in
          let P : Trace → Type 0 = λ k. Has M v.endpoint v.id k in
          let c = h.complete in
          shown_of_parts e r b.base.value b.address.write (lasting b.ended.value b.seen.write) b.lifetime.write b.binding.write b.sms.write b.objects.write (values_of (entries_of b.maps.left)) v (record {
            endpoint = sym same;
            id = id_is (Here b) g;
            base_value = c.base;
            base_is = ap (λ (o : Once Base). o.value) (base_facet.one P b.base (record { value = Some c.base }) told.1.base c.is_base);
            version = sym c.version;
            queue = sym c.queue;
            address_at = c.address.0;
            address_is = write_is addr_order AddressAt P b.address c.address.0 v.address told.1.address c.address.1;
            seen_at = c.seen.0;
            seen_is = lasts_still (λ t. P (EndedAt t)) b.ended.value told.1.ended b.seen.write (c.seen.0, v.seen) (write_is moment_order SeenAt P b.seen c.seen.0 v.seen told.1.seen c.seen.1)
                (λ upto over reached. h.lasts (record { upto = upto; over = over; seen = (c.seen.0, v.seen); is_seen = c.seen.1; reached = reached }));
            lifetime_at = c.lifetime.0;
            lifetime_is = write_is number_order LifetimeAt P b.lifetime c.lifetime.0 v.lifetime told.1.lifetime c.lifetime.1;
            binding_at = c.binding.0;
            binding_is = write_is binding_order BindingAt P b.binding c.binding.0 v.binding told.1.binding c.binding.1;
            sms_at = c.sms.0;
            sms_is = write_is sms_order SmsAt P b.sms c.sms.0 v.sms told.1.sms c.sms.1;
            objects_at = c.objects.0;
            objects_is = write_is text_order ObjectsAt P b.objects c.objects.0 v.objects told.1.objects c.objects.1;
            attributes_are = attributes_one M v.endpoint v.id _ v.attributes (attributes_from M v.endpoint v.id b.maps.left told.1.attributes) c.attributes;
          })

  -- ---- watches
  token_keys : (r : Stamp) (p : Path) (t : Stamp) → ((g : Sign) × Has M e r (sign_trace p t g)) ↔ IsToken M e r p t
  token_keys r p t = (λ x. go x.0 x.1, back)
    where
      go : (g : Sign) → Has M e r (sign_trace p t g) → IsToken M e r p t
      go (Asked a) h = inl (a, h)
      go Ended h = inr h

      back : IsToken M e r p t → (g : Sign) × Has M e r (sign_trace p t g)
      back (inl x) = (Asked x.0, x.1)
      back (inr h) = (Ended, h)

  -- the last watch of a registration on a path was not cancelled
  pub record IsWatch (r : Stamp) (p : Path) (t : Stamp) (a : Option ℕ) : Type 0 where
    pub newest : IsGreatest stamp_cmp (IsToken M e r p) t
    pub watched : IsGreatest format_cmp (λ b. Has M e r (Watched p t b)) a
    pub kept : ¬ Has M e r (Cancelled p t)

  abbrev OfPath : Stamp → Path → Stamp × Sign → Type 0
  OfPath r p x = Has M e r (sign_trace p x.0 x.1)

  pub path_from : (r : Stamp) (p : Path) (o : Option Watching) (t : Stamp) (a : Option ℕ) → OptionTells WatchTells (OfPath r p) o → o ≡ Some (observed t a) → IsWatch r p t a
  path_from r p o t a told h =
      let g : WatchTells (OfPath r p) (observed t a) = subst (OptionTells WatchTells (OfPath r p)) h told in
      record { newest = greatest_same stamp_order _ _ t (token_keys r p) g.key; watched = g.told.1; kept = g.told.0 }

  pub path_to : (r : Stamp) (p : Path) (o : Option Watching) (t : Stamp) (a : Option ℕ) → OptionTells WatchTells (OfPath r p) o → IsWatch r p t a → o ≡ Some (observed t a)
  path_to r p None t a g h = absurd (g (t, Asked a) h.watched.member)
  path_to r p (Some w) t a g h = go w.stamp w.value g
    where
      token : (u : Stamp) (x : OrGone (Once ℕ)) → WatchTells (OfPath r p) (record { stamp = u; value = x }) → u ≡ t
      token u x g = greatest_one stamp_order (IsToken M e r p) u t (greatest_same stamp_order _ _ u (token_keys r p) g.key) h.newest

      go : (u : Stamp) (x : OrGone (Once ℕ)) → WatchTells (OfPath r p) (record { stamp = u; value = x }) → ◌≡◌ {A = Option Watching} (Some (record { stamp = u; value = x })) (Some (observed t a))
      go u Gone g = absurd (h.kept (subst (λ s. Has M e r (Cancelled p s)) (token u Gone g) g.told))
      go u (Here x) g =
          let same = token u (Here x) g in
          let accept : x.value ≡ a = greatest_one format_order (λ b. Has M e r (Watched p t b)) x.value a (subst (λ s. IsGreatest format_cmp (λ b. Has M e r (Watched p s b)) x.value) same g.told.1) h.watched in
          λ i. Some (record { stamp = same i; value = Here (record { value = accept i }) })

  -- the watches of a slot that shows a registration
  pub watch_from : (r : Stamp) (x : OrGone Body) (v : Registration) (p : Path) (t : Stamp) (a : Option ℕ) → Told (r, x) → registered_in e (slot_at r x) ≡ Some v → get path_cmp (watches_of (slot_at r x)) p ≡ Some (observed t a) → IsWatch r p t a
  watch_from r Gone v p t a g h k = absurd cc
  watch_from r (Here b) v p t a g h k = path_from r p (value_at b.maps.right p) t a (g.told.1.watches p) k

  pub watch_to : (r : Stamp) (x : OrGone Body) (v : Registration) (p : Path) (t : Stamp) (a : Option ℕ) → Told (r, x) → registered_in e (slot_at r x) ≡ Some v → IsWatch r p t a → get path_cmp (watches_of (slot_at r x)) p ≡ Some (observed t a)
  watch_to r Gone v p t a g h k = absurd cc
  watch_to r (Here b) v p t a g h k = path_to r p (value_at b.maps.right p) t a (g.told.1.watches p) k
