-- What slots and states tell of a set of marks, and that the state of a set tells of that set.
use Rattle.std.proofs.Common.{◌≡◌, ◌∙◌, ℕ, sym, refl, ap, subst, inl, inr, ◌⊎◌, List, [], ◌∷◌, Option, Some, None}
use Rattle.std.specs.Prelude.{◌↔◌, Contains}
use Rattle.std.specs.declared.cmp.Ordering.{Ordering}
use Rattle.std.specs.declared.cmp.Ordering.TheVariants.{Less, Equal, Greater}
use Rattle.std.specs.Ordering.{nat_cmp, max_by_ordering}
use Rattle.lw_stamp.specs.declared.stamp.Stamp.{Stamp}
use Rattle.lw_stamp.specs.Order.{IsExactOrder, IsGreatest}
use Rattle.lw_stamp.specs.StampOrder.{stamp_cmp}
use Rattle.lw_stamp.specs.TextOrder.{text_cmp}
use Rattle.lw_stamp.proofs.StampLemmas.{stamp_order}
use Rattle.lw_join.specs.inner.Facets.{IsFacet, Through, OnceTells, LwwTells, LastTells, LexTells, GoneTells, PartsTells, MapTells}
use Rattle.lw_join.specs.Last.{last_join}
use Rattle.lw_join.specs.Lww.{lww_join}
use Rattle.lw_join.specs.LwwLaws.{write_order}
use Rattle.lw_join.specs.Greater.{greater}
use Rattle.lw_join.specs.Once.{once_join}
use Rattle.lw_join.specs.Options.{option_join}
use Rattle.lw_join.specs.OrGone.{gone_join}
use Rattle.lw_join.specs.Parts.{parts_join}
use Rattle.lw_join.specs.PartsLaws.{entries_made}
use Rattle.lw_join.specs.declared.lex.Lex.{Lex}
use Rattle.lw_join.specs.declared.lww.Lww.{Lww}
use Rattle.lw_join.specs.declared.once.Once.{Once}
use Rattle.lw_join.specs.declared.or_gone.OrGone.{OrGone}
use Rattle.lw_join.specs.declared.or_gone.OrGone.TheVariants.{Here, Gone}
use Rattle.lw_join.proofs.FacetLemmas.{greatest_facet, greatest_single, through_facet, facet_along, once_facet, lww_facet, last_facet, last_some, gone_facet, keyed_single, lex_facet, lex_some, parts_facet, parts_empty, parts_single}
use Rattle.lw_join.proofs.MapLemmas.{map_facet, map_empty, map_single}
use Rattle.lw_reg.specs.declared.base.Base.{Base}
use Rattle.lw_reg.specs.declared.body.Body.{Body}
use Rattle.lw_reg.specs.declared.path.Path.{Path}
use Rattle.lw_reg.specs.declared.slot.Slot.{Slot}
use Rattle.lw_reg.specs.BindingLaws.{binding_order}
use Rattle.lw_reg.specs.Body.{Watching, Watches, AttributeMap, watching_join, body_join, no_watches, one_watch, no_attributes, one_attribute, maps_of}
use Rattle.lw_reg.specs.Marks.{Trace, Mark, Marks, among, NamesAll}
use Rattle.lw_reg.specs.Marks.Trace.{Named, Based, AddressAt, SeenAt, LifetimeAt, BindingAt, SmsAt, ObjectsAt, AttributeAt, EndedAt, Removed, Watched, Cancelled}
use Rattle.lw_reg.specs.OrderLaws.{addr_order, base_order, moment_order, number_order, path_order, sms_order, text_order, format_order}
use Rattle.lw_reg.specs.Orders.{addr_cmp, base_cmp, binding_cmp, format_cmp, moment_cmp, sms_cmp}
use Rattle.lw_reg.specs.Slot.{slot_join, slot_at, base_in, address_in, seen_in, lifetime_in, binding_in, sms_in, objects_in, ended_in, attributes_in, watches_in, body_in, told_by}
use Rattle.lw_reg.specs.State.{State, state_join, atom_of, state_of}
use Rattle.lw_reg.proofs.Members.{none_there, first_there, more_there, there_or_first}

-- what a watch with a token is: asked for, or ended
pub data Sign : Type 0 where
  Asked : Option ℕ → Sign
  Ended : Sign

abbrev pub sign_trace : Path → Stamp → Sign → Trace
sign_trace p t (Asked a) = Watched p t a
sign_trace p t Ended = Cancelled p t

abbrev pub watch_trace : Path × (Stamp × Sign) → Trace
watch_trace x = sign_trace x.0 x.1.0 x.1.1

abbrev pub attribute_trace : List ℕ × (Stamp × List ℕ) → Trace
attribute_trace x = AttributeAt x.0 x.1.0 x.1.1

abbrev pub field_trace : {V : Type 0} → (Stamp → V → Trace) → Stamp × V → Trace
field_trace field w = field w.0 w.1

-- ---- what each part of a state tells
abbrev pub FieldTells : {V : Type 0} → (V → V → Ordering) → (Stamp → V → Trace) → (Trace → Type 0) → Lww V → Type 0
FieldTells cmp field = Through (field_trace field) (LwwTells cmp)

abbrev pub BaseTells : (Trace → Type 0) → Once Base → Type 0
BaseTells = Through Based (OnceTells base_cmp)

-- up to which stamp what was seen is over
abbrev pub LastsTells : (Trace → Type 0) → Once Stamp → Type 0
LastsTells = Through EndedAt (OnceTells stamp_cmp)

abbrev pub AcceptTells : (Option ℕ → Type 0) → Once ℕ → Type 0
AcceptTells P accept = IsGreatest format_cmp P accept.value

abbrev pub EndTells : (Sign → Type 0) → OrGone (Once ℕ) → Type 0
EndTells = GoneTells Ended (Through Asked AcceptTells)

abbrev pub WatchTells : (Stamp × Sign → Type 0) → Watching → Type 0
WatchTells = LexTells EndTells

abbrev pub WatchesTell : (Trace → Type 0) → Watches → Type 0
WatchesTell = Through watch_trace (PartsTells WatchTells)

abbrev pub AttributesTell : (Trace → Type 0) → AttributeMap → Type 0
AttributesTell = Through attribute_trace (PartsTells (LastTells text_cmp))

pub record BodyTells (P : Trace → Type 0) (b : Body) : Type 0 where
  pub named : P Named
  pub base : BaseTells P b.base
  pub address : FieldTells addr_cmp AddressAt P b.address
  pub seen : FieldTells moment_cmp SeenAt P b.seen
  pub lifetime : FieldTells nat_cmp LifetimeAt P b.lifetime
  pub binding : FieldTells binding_cmp BindingAt P b.binding
  pub sms : FieldTells sms_cmp SmsAt P b.sms
  pub objects : FieldTells text_cmp ObjectsAt P b.objects
  pub ended : LastsTells P b.ended
  pub attributes : AttributesTell P b.maps.left
  pub watches : WatchesTell P b.maps.right

abbrev pub ToldTells : (Trace → Type 0) → OrGone Body → Type 0
ToldTells = GoneTells Removed BodyTells

abbrev pub SlotTells : (Stamp × Trace → Type 0) → Slot → Type 0
SlotTells P slot = LexTells ToldTells P slot.registration

abbrev pub Tells : (List ℕ × (Stamp × Trace) → Type 0) → State → Type 0
Tells = MapTells SlotTells

-- ---- they are facets
pub base_facet : IsFacet (once_join base_cmp) BaseTells
base_facet = through_facet Based (once_facet base_order)

pub lasts_facet : IsFacet (once_join stamp_cmp) LastsTells
lasts_facet = through_facet EndedAt (once_facet stamp_order)

pub field_facet : {V : Type 0} {cmp : V → V → Ordering} → IsExactOrder cmp → (field : Stamp → V → Trace) → IsFacet (lww_join cmp) (FieldTells cmp field)
field_facet order field = through_facet (field_trace field) (lww_facet order)

-- the greater of two formats that may be absent
greater_some : (o : Ordering) (x y : ℕ) → max_by_ordering o (Some x) (Some y) ≡ Some (max_by_ordering o x y)
greater_some Less x y = refl
greater_some Equal x y = refl
greater_some Greater x y = refl

greater_format : (x y : Option ℕ) → greater format_cmp x y ≡ option_join (greater nat_cmp) x y
greater_format None None = refl
greater_format None (Some y) = refl
greater_format (Some x) None = refl
greater_format (Some x) (Some y) = greater_some (nat_cmp x y) x y

accept_facet : IsFacet (once_join nat_cmp) AcceptTells
accept_facet =
    subst (λ (join : Once ℕ → Once ℕ → Once ℕ). IsFacet join AcceptTells) (λ i x y. record { value = greater_format x.value y.value i })
    (facet_along (λ (a : Once ℕ). a.value) (λ (o : Option ℕ). record { value = o }) (λ s. refl) (λ t. refl) (greatest_facet format_order))

pub watches_facet : IsFacet (parts_join watching_join) WatchesTell
watches_facet = through_facet watch_trace (parts_facet path_order (lex_facet (gone_facet Ended (through_facet Asked accept_facet))) (lex_some EndTells))

pub attributes_facet : IsFacet (parts_join (last_join text_cmp)) AttributesTell
attributes_facet = through_facet attribute_trace (parts_facet text_order (last_facet text_order) (last_some text_cmp))

pub body_facet : IsFacet body_join BodyTells
body_facet =
    let address = field_facet addr_order AddressAt in
    let seen = field_facet moment_order SeenAt in
    let lifetime = field_facet number_order LifetimeAt in
    let binding = field_facet binding_order BindingAt in
    let sms = field_facet sms_order SmsAt in
    let objects = field_facet text_order ObjectsAt in
    record {
      union = λ P Q a b g h. record {
        named = inl g.named;
        base = base_facet.union P Q a.base b.base g.base h.base;
        address = address.union P Q a.address b.address g.address h.address;
        seen = seen.union P Q a.seen b.seen g.seen h.seen;
        lifetime = lifetime.union P Q a.lifetime b.lifetime g.lifetime h.lifetime;
        binding = binding.union P Q a.binding b.binding g.binding h.binding;
        sms = sms.union P Q a.sms b.sms g.sms h.sms;
        objects = objects.union P Q a.objects b.objects g.objects h.objects;
        ended = lasts_facet.union P Q a.ended b.ended g.ended h.ended;
        attributes = attributes_facet.union P Q a.maps.left b.maps.left g.attributes h.attributes;
        watches = watches_facet.union P Q a.maps.right b.maps.right g.watches h.watches;
      };
      same = λ P Q a h g. record {
        named = (h Named).0 g.named;
        base = base_facet.same P Q a.base h g.base;
        address = address.same P Q a.address h g.address;
        seen = seen.same P Q a.seen h g.seen;
        lifetime = lifetime.same P Q a.lifetime h g.lifetime;
        binding = binding.same P Q a.binding h g.binding;
        sms = sms.same P Q a.sms h g.sms;
        objects = objects.same P Q a.objects h g.objects;
        ended = lasts_facet.same P Q a.ended h g.ended;
        attributes = attributes_facet.same P Q a.maps.left h g.attributes;
        watches = watches_facet.same P Q a.maps.right h g.watches;
      };
      one = λ P a b g h i. record {
        base = base_facet.one P a.base b.base g.base h.base i;
        address = address.one P a.address b.address g.address h.address i;
        seen = seen.one P a.seen b.seen g.seen h.seen i;
        lifetime = lifetime.one P a.lifetime b.lifetime g.lifetime h.lifetime i;
        binding = binding.one P a.binding b.binding g.binding h.binding i;
        sms = sms.one P a.sms b.sms g.sms h.sms i;
        objects = objects.one P a.objects b.objects g.objects h.objects i;
        ended = lasts_facet.one P a.ended b.ended g.ended h.ended i;
        maps = maps_of (attributes_facet.one P a.maps.left b.maps.left g.attributes h.attributes i) (watches_facet.one P a.maps.right b.maps.right g.watches h.watches i);
      };
    }

pub told_facet : IsFacet (gone_join body_join) ToldTells
told_facet = gone_facet Removed body_facet

pub slot_facet : IsFacet slot_join SlotTells
slot_facet = facet_along (λ (s : Slot). s.registration) (λ (x : Lex (OrGone Body)). record { registration = x }) (λ s. refl) (λ t. refl) (lex_facet told_facet)

pub state_facet : IsFacet state_join Tells
state_facet = map_facet text_order slot_facet (record { some = λ P s g. (lex_some ToldTells).some P s.registration g })

-- ---- one mark, with the naming of its registration
abbrev pub With : Trace → Trace → Type 0
With k x = (x ≡ k) ⊎ (x ≡ Named)

base_told : (k : Trace) → BaseTells (With k) (record { value = base_in k })
base_told (Based b) = greatest_single base_order _ b (inl refl) (λ y. elim [ inl p ↦ cc | inr p ↦ absurd cc ])
base_told _ = λ x. elim [ inl p ↦ cc | inr p ↦ cc ]

lasts_told : (k : Trace) → LastsTells (With k) (record { value = ended_in k })
lasts_told (EndedAt s) = greatest_single stamp_order _ s (inl refl) (λ y. elim [ inl p ↦ cc | inr p ↦ absurd cc ])
lasts_told _ = λ x. elim [ inl p ↦ cc | inr p ↦ cc ]

-- what is read of a trace that writes a field is that write, and of any other nothing
module _ {V : Type 0} {cmp : V → V → Ordering} (order : IsExactOrder cmp) (field : Stamp → V → Trace) (read : Trace → Option (Stamp × V)) (written : (w : Stamp × V) → read (field_trace field w) ≡ Some w) (unnamed : read Named ≡ None) where
  one_read : (k : Trace) (w : Stamp × V) → k ≡ field_trace field w → (y : Stamp × V) → With k (field_trace field y) → y ≡ w
  one_read k w e y (inl p) = let same : Some y ≡ Some w = sym (written y) ∙ ap read (p ∙ e) ∙ written w in cc
  one_read k w e y (inr p) = let none : Some y ≡ None = sym (written y) ∙ ap read p ∙ unnamed in absurd cc

  none_read : (k : Trace) → read k ≡ None → (y : Stamp × V) → ¬ With k (field_trace field y)
  none_read k e y (inl p) = let none : Some y ≡ None = sym (written y) ∙ ap read p ∙ e in cc
  none_read k e y (inr p) = let none : Some y ≡ None = sym (written y) ∙ ap read p ∙ unnamed in cc

  field_told : ((k : Trace) → (read k ≡ None) ⊎ ((w : Stamp × V) × (k ≡ field_trace field w))) → (k : Trace) → FieldTells cmp field (With k) (record { write = read k })
  field_told each k = go (each k)
    where
      go : (read k ≡ None) ⊎ ((w : Stamp × V) × (k ≡ field_trace field w)) → FieldTells cmp field (With k) (record { write = read k })
      go (inl e) = rw e (none_read k e)
      go (inr x) = rw (ap read x.1 ∙ written x.0) (greatest_single (write_order order) _ x.0 (inl (sym x.1)) (one_read k x.0 x.1))

-- a trace of no attribute
no_attribute : (k : Trace) → ((name : List ℕ) (s : Stamp) (v : List ℕ) → ¬ (AttributeAt name s v ≡ k)) → AttributesTell (With k) no_attributes
no_attribute k none = parts_empty (LastTells text_cmp) (λ y. With k (attribute_trace y)) no_attributes (entries_made _ _ _ [] tt) (λ name w. go name w.0 w.1)
  where
    go : (name : List ℕ) (s : Stamp) (v : List ℕ) → ¬ With k (AttributeAt name s v)
    go name s v (inl e) = none name s v e
    go name s v (inr e) = cc

same_attribute : (m n : List ℕ) (s t : Stamp) (v u : List ℕ) → With (AttributeAt n t u) (AttributeAt m s v) → (m ≡ n) × (s ≡ t) × (v ≡ u)
same_attribute m n s t v u (inl e) = (cc, (cc), (cc))
same_attribute m n s t v u (inr e) = absurd cc

attributes_told : (k : Trace) → AttributesTell (With k) (attributes_in k)
attributes_told (AttributeAt name s v) =
    parts_single (LastTells text_cmp) (λ y. With (AttributeAt name s v) (attribute_trace y)) (one_attribute name (s, v)) text_order name (record { write = (s, v) })
    (entries_made _ _ _ ((name, record { write = (s, v) }) ∷ []) (tt, tt))
    (λ n w e. (same_attribute n name w.0 s w.1 v e).0)
    (greatest_single (write_order text_order) _ (s, v) (inl refl) (λ w e. let same = same_attribute name name w.0 s w.1 v e in λ i. (same.1 i, same.2 i)))
attributes_told _ = no_attribute _ (λ name s v e. cc)

-- a trace of no watch
no_watch : (k : Trace) → ((p : Path) (t : Stamp) (g : Sign) → ¬ (sign_trace p t g ≡ k)) → WatchesTell (With k) no_watches
no_watch k none = parts_empty WatchTells (λ y. With k (watch_trace y)) no_watches (entries_made _ _ _ [] tt) (λ p x. go p x.0 x.1)
  where
    go : (p : Path) (t : Stamp) (g : Sign) → ¬ With k (sign_trace p t g)
    go p t g (inl e) = none p t g e
    go p t (Asked a) (inr e) = cc
    go p t Ended (inr e) = cc

same_watched : (p q : Path) (t u : Stamp) (g : Sign) (a : Option ℕ) → With (Watched p t a) (sign_trace q u g) → (q ≡ p) × (u ≡ t) × (g ≡ Asked a)
same_watched p q t u (Asked b) a (inl e) = (cc, (cc), (cc))
same_watched p q t u (Asked b) a (inr e) = absurd cc
same_watched p q t u Ended a (inl e) = absurd cc
same_watched p q t u Ended a (inr e) = absurd cc

same_cancelled : (p q : Path) (t u : Stamp) (g : Sign) → With (Cancelled p t) (sign_trace q u g) → (q ≡ p) × (u ≡ t) × (g ≡ Ended)
same_cancelled p q t u (Asked b) (inl e) = absurd cc
same_cancelled p q t u (Asked b) (inr e) = absurd cc
same_cancelled p q t u Ended (inl e) = (cc, (cc), refl)
same_cancelled p q t u Ended (inr e) = absurd cc

-- one watch tells of a set of traces that has one watch
one_watch_tells : (k : Trace) (p : Path) (t : Stamp) (g : Sign) (x : OrGone (Once ℕ)) → With k (sign_trace p t g) → ((q : Path) (u : Stamp) (h : Sign) → With k (sign_trace q u h) → (q ≡ p) × (u ≡ t)) → EndTells (λ h. With k (sign_trace p t h)) x → WatchesTell (With k) (one_watch p (record { stamp = t; value = x }))
one_watch_tells k p t g x member only told =
    parts_single WatchTells (λ y. With k (watch_trace y)) (one_watch p (record { stamp = t; value = x })) path_order p (record { stamp = t; value = x })
    (entries_made _ _ _ ((p, record { stamp = t; value = x }) ∷ []) (tt, tt))
    (λ q y e. (only q y.0 y.1 e).0)
    (keyed_single stamp_order EndTells (λ y. With k (watch_trace (p, y))) t g x member (λ u h e. (only p u h e).1) told)

watches_told : (k : Trace) → WatchesTell (With k) (watches_in k)
watches_told (Watched p t a) =
    one_watch_tells (Watched p t a) p t (Asked a) (Here (record { value = a })) (inl refl)
    (λ q u h e. let s = same_watched p q t u h a e in (s.0, s.1))
    (λ e. asked_ended (same_watched p p t t Ended a e).2, greatest_single format_order _ a (inl refl) (λ b e. same_asked a b (same_watched p p t t (Asked b) a e).2))
  where
    asked_ended : (Ended ≡ Asked a) → ⊥
    asked_ended e = cc

    same_asked : (a b : Option ℕ) → Asked b ≡ Asked a → b ≡ a
    same_asked a b e = cc
watches_told (Cancelled p t) =
    one_watch_tells (Cancelled p t) p t Ended Gone (inl refl) (λ q u h e. let s = same_cancelled p q t u h e in (s.0, s.1)) (inl refl)
watches_told Named = no_watch Named (λ p t. elim [ Asked a ↦ λ e. cc | Ended ↦ λ e. cc ])
watches_told (Based b) = no_watch (Based b) (λ p t. elim [ Asked a ↦ λ e. cc | Ended ↦ λ e. cc ])
watches_told (AddressAt s v) = no_watch (AddressAt s v) (λ p t. elim [ Asked a ↦ λ e. cc | Ended ↦ λ e. cc ])
watches_told (SeenAt s v) = no_watch (SeenAt s v) (λ p t. elim [ Asked a ↦ λ e. cc | Ended ↦ λ e. cc ])
watches_told (LifetimeAt s v) = no_watch (LifetimeAt s v) (λ p t. elim [ Asked a ↦ λ e. cc | Ended ↦ λ e. cc ])
watches_told (BindingAt s v) = no_watch (BindingAt s v) (λ p t. elim [ Asked a ↦ λ e. cc | Ended ↦ λ e. cc ])
watches_told (SmsAt s v) = no_watch (SmsAt s v) (λ p t. elim [ Asked a ↦ λ e. cc | Ended ↦ λ e. cc ])
watches_told (AttributeAt n s v) = no_watch (AttributeAt n s v) (λ p t. elim [ Asked a ↦ λ e. cc | Ended ↦ λ e. cc ])
watches_told (ObjectsAt s v) = no_watch (ObjectsAt s v) (λ p t. elim [ Asked a ↦ λ e. cc | Ended ↦ λ e. cc ])
watches_told (EndedAt s) = no_watch (EndedAt s) (λ p t. elim [ Asked a ↦ λ e. cc | Ended ↦ λ e. cc ])
watches_told Removed = no_watch Removed (λ p t. elim [ Asked a ↦ λ e. cc | Ended ↦ λ e. cc ])

body_told : (k : Trace) → BodyTells (With k) (body_in k)
body_told k = record {
  named = inr refl;
  base = base_told k;
  address = field_told addr_order AddressAt address_in (λ w. refl) refl (elim [ AddressAt s v ↦ inr ((s, v), refl) | _ ↦ inl refl ]) k;
  seen = field_told moment_order SeenAt seen_in (λ w. refl) refl (elim [ SeenAt s v ↦ inr ((s, v), refl) | _ ↦ inl refl ]) k;
  lifetime = field_told number_order LifetimeAt lifetime_in (λ w. refl) refl (elim [ LifetimeAt s v ↦ inr ((s, v), refl) | _ ↦ inl refl ]) k;
  binding = field_told binding_order BindingAt binding_in (λ w. refl) refl (elim [ BindingAt s v ↦ inr ((s, v), refl) | _ ↦ inl refl ]) k;
  sms = field_told sms_order SmsAt sms_in (λ w. refl) refl (elim [ SmsAt s v ↦ inr ((s, v), refl) | _ ↦ inl refl ]) k;
  objects = field_told text_order ObjectsAt objects_in (λ w. refl) refl (elim [ ObjectsAt s v ↦ inr ((s, v), refl) | _ ↦ inl refl ]) k;
  ended = lasts_told k;
  attributes = attributes_told k;
  watches = watches_told k;
}

not_removed : (k : Trace) → ¬ (Removed ≡ k) → ¬ With k Removed
not_removed k other (inl e) = other e
not_removed k other (inr e) = cc

trace_told : (k : Trace) → ToldTells (With k) (told_by k)
trace_told Removed = inl refl
trace_told Named = (not_removed Named (λ e. cc), body_told Named)
trace_told (Based b) = (not_removed (Based b) (λ e. cc), body_told (Based b))
trace_told (AddressAt s v) = (not_removed (AddressAt s v) (λ e. cc), body_told (AddressAt s v))
trace_told (SeenAt s v) = (not_removed (SeenAt s v) (λ e. cc), body_told (SeenAt s v))
trace_told (LifetimeAt s v) = (not_removed (LifetimeAt s v) (λ e. cc), body_told (LifetimeAt s v))
trace_told (BindingAt s v) = (not_removed (BindingAt s v) (λ e. cc), body_told (BindingAt s v))
trace_told (SmsAt s v) = (not_removed (SmsAt s v) (λ e. cc), body_told (SmsAt s v))
trace_told (ObjectsAt s v) = (not_removed (ObjectsAt s v) (λ e. cc), body_told (ObjectsAt s v))
trace_told (AttributeAt n s v) = (not_removed (AttributeAt n s v) (λ e. cc), body_told (AttributeAt n s v))
trace_told (EndedAt s) = (not_removed (EndedAt s) (λ e. cc), body_told (EndedAt s))
trace_told (Watched p t a) = (not_removed (Watched p t a) (λ e. cc), body_told (Watched p t a))
trace_told (Cancelled p t) = (not_removed (Cancelled p t) (λ e. cc), body_told (Cancelled p t))

-- a mark, by its parts
abbrev pub mark_at : List ℕ × (Stamp × Trace) → Mark
mark_at x = record { endpoint = x.0; registration = x.1.0; trace = x.1.1 }

abbrev pub naming : Mark → Mark
naming m = record { endpoint = m.endpoint; registration = m.registration; trace = Named }

-- the mark, and the naming of its registration
abbrev pub Pair : Mark → List ℕ × (Stamp × Trace) → Type 0
Pair m x = (mark_at x ≡ m) ⊎ (mark_at x ≡ naming m)

pair_endpoint : (m : Mark) (x : List ℕ × (Stamp × Trace)) → Pair m x → x.0 ≡ m.endpoint
pair_endpoint m x (inl e) = ap (λ (n : Mark). n.endpoint) e
pair_endpoint m x (inr e) = ap (λ (n : Mark). n.endpoint) e

pair_registration : (m : Mark) (x : List ℕ × (Stamp × Trace)) → Pair m x → x.1.0 ≡ m.registration
pair_registration m x (inl e) = ap (λ (n : Mark). n.registration) e
pair_registration m x (inr e) = ap (λ (n : Mark). n.registration) e

pair_trace : (m : Mark) (k : Trace) → With m.trace k ↔ Pair m (m.endpoint, (m.registration, k))
pair_trace m k = (go, back)
  where
    go : With m.trace k → Pair m (m.endpoint, (m.registration, k))
    go (inl e) = inl (λ i. record { endpoint = m.endpoint; registration = m.registration; trace = e i })
    go (inr e) = inr (λ i. record { endpoint = m.endpoint; registration = m.registration; trace = e i })

    back : Pair m (m.endpoint, (m.registration, k)) → With m.trace k
    back (inl e) = inl (ap (λ (n : Mark). n.trace) e)
    back (inr e) = inr (ap (λ (n : Mark). n.trace) e)

pub atom_tells : (m : Mark) → Tells (Pair m) (atom_of m)
atom_tells m =
    map_single text_cmp SlotTells (Pair m) text_order m.endpoint (slot_at m.registration (told_by m.trace)) (λ q x e. pair_endpoint m (q, x) e)
    (keyed_single stamp_order ToldTells (λ y. Pair m (m.endpoint, y)) m.registration Named (told_by m.trace) (inr refl) (λ u k e. pair_registration m (m.endpoint, (u, k)) e)
    (told_facet.same (With m.trace) (λ k. Pair m (m.endpoint, (m.registration, k))) (told_by m.trace) (pair_trace m) (trace_told m.trace)))

-- ---- a whole set
abbrev pub Holds : Marks → List ℕ × (Stamp × Trace) → Type 0
Holds M x = M (mark_at x)

-- a member, or the naming of a member's registration
abbrev pub Closure : List Mark → List ℕ × (Stamp × Trace) → Type 0
Closure [] x = ⊥
Closure (m ∷ ms) x = Pair m x ⊎ Closure ms x

pub closure_tells : (ms : List Mark) → Tells (Closure ms) (state_of ms)
closure_tells [] = map_empty text_cmp SlotTells (λ x. ⊥) (λ e x h. h)
closure_tells (m ∷ ms) = state_facet.union (Pair m) (Closure ms) (atom_of m) (state_of ms) (atom_tells m) (closure_tells ms)

in_closure : (ms : List Mark) (x : List ℕ × (Stamp × Trace)) → Holds (among ms) x → Closure ms x
in_closure [] x h = absurd (none_there (mark_at x) h)
in_closure (m ∷ ms) x h = go (there_or_first m ms (mark_at x) h) (λ k. in_closure ms x k)
  where
    go : (mark_at x ≡ m) ⊎ Contains ms (mark_at x) → (Contains ms (mark_at x) → Closure ms x) → Closure (m ∷ ms) x
    go (inl e) rest = inl (inl e)
    go (inr k) rest = inr (rest k)

-- what is in the closure is a member, or names what a member is about
from_closure : (ms : List Mark) (x : List ℕ × (Stamp × Trace)) → Closure ms x → Holds (among ms) x ⊎ ((m : Mark) × Contains ms m × (mark_at x ≡ naming m))
from_closure [] x h = absurd h
from_closure (m ∷ ms) x (inl (inl e)) = inl (first_there m ms (mark_at x) e)
from_closure (m ∷ ms) x (inl (inr e)) = inr (m, first_there m ms m refl, e)
from_closure (m ∷ ms) x (inr h) = weaker (from_closure ms x h)
  where
    weaker : Holds (among ms) x ⊎ ((n : Mark) × Contains ms n × (mark_at x ≡ naming n)) → Holds (among (m ∷ ms)) x ⊎ ((n : Mark) × Contains (m ∷ ms) n × (mark_at x ≡ naming n))
    weaker (inl k) = inl (more_there m ms (mark_at x) k)
    weaker (inr k) = inr (k.0, more_there m ms k.0 k.1, k.2)

closed : (ms : List Mark) → NamesAll (among ms) → (x : List ℕ × (Stamp × Trace)) → Closure ms x ↔ Holds (among ms) x
closed ms names x = (λ h. go (from_closure ms x h), in_closure ms x)
  where
    go : Holds (among ms) x ⊎ ((m : Mark) × Contains ms m × (mark_at x ≡ naming m)) → Holds (among ms) x
    go (inl h) = h
    go (inr k) = subst (Contains ms) (sym k.2) (names k.0.endpoint k.0.registration k.0.trace k.1)

-- the state of a set of marks tells of that set
pub state_tells : (ms : List Mark) → NamesAll (among ms) → Tells (Holds (among ms)) (state_of ms)
state_tells ms names = state_facet.same (Closure ms) (Holds (among ms)) (state_of ms) (closed ms names) (closure_tells ms)
