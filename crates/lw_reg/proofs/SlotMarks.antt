-- A slot, and a state, tell of the marks that they show.
use Rattle.std.proofs.Common.{◌≡◌, ℕ, List, Option, Some, None, sym, refl, ap, inl, inr}
use Rattle.std.specs.Prelude.{◌↔◌}
use Rattle.std.specs.declared.cmp.Ordering.{Ordering}
use Rattle.lw_stamp.specs.declared.stamp.Stamp.{Stamp}
use Rattle.lw_stamp.specs.Order.{IsExactOrder, IsGreatest}
use Rattle.lw_stamp.proofs.StampLemmas.{stamp_order}
use Rattle.lw_join.specs.inner.Facets.{OptionTells, LastTells}
use Rattle.lw_join.specs.Lww.{write_cmp}
use Rattle.lw_join.specs.LwwLaws.{write_order}
use Rattle.lw_join.specs.Parts.{value_at}
use Rattle.lw_join.specs.declared.last.Last.{Last}
use Rattle.lw_join.specs.declared.or_gone.OrGone.{OrGone}
use Rattle.lw_join.specs.declared.or_gone.OrGone.TheVariants.{Here, Gone}
use Rattle.lw_join.proofs.FacetLemmas.{greatest_single, keyed_single}
use Rattle.lw_join.specs.declared.once.Once.{Once}
use Rattle.lw_stamp.specs.TextOrder.{text_cmp}
use Rattle.lw_reg.specs.declared.body.Body.{Body}
use Rattle.lw_reg.specs.declared.path.Path.{Path}
use Rattle.lw_reg.specs.declared.slot.Slot.{Slot}
use Rattle.lw_reg.specs.BindingLaws.{binding_order}
use Rattle.lw_reg.specs.Body.{Watching}
use Rattle.lw_reg.specs.Marks.{Trace, Has}
use Rattle.lw_reg.specs.Marks.Trace.{Named}
use Rattle.lw_reg.specs.OrderLaws.{addr_order, base_order, moment_order, number_order, sms_order, text_order, format_order}
use Rattle.lw_reg.specs.Reading.{BodyShows, Shows, shown_by}
use Rattle.lw_reg.proofs.FirstWatch.{one_watching}
use Rattle.lw_reg.proofs.Tells.{Sign, sign_trace, EndTells, WatchTells, AttributesTell, WatchesTell, BodyTells, ToldTells, SlotTells, told_facet}
use Rattle.lw_reg.proofs.Tells.Sign.{Asked, Ended}

-- an option tells of what it has
option_self : {A : Type 0} {cmp : A → A → Ordering} → IsExactOrder cmp → (o : Option A) → OptionTells (IsGreatest cmp) (λ x. o ≡ Some x) o
option_self order None = λ x e. cc
option_self order (Some a) = greatest_single order _ a refl (λ y e. cc)

field_self : {V : Type 0} {cmp : V → V → Ordering} → IsExactOrder cmp → (o : Option (Stamp × V)) → OptionTells (IsGreatest (write_cmp cmp)) (λ x. o ≡ Some (x.0, x.1)) o
field_self order o = option_self (write_order order) o

abbrev sign_value : Sign → OrGone (Once ℕ)
sign_value (Asked a) = Here (record { value = a })
sign_value Ended = Gone

abbrev signed : Stamp → Sign → Watching
signed t g = record { stamp = t; value = sign_value g }

abbrev format_in : Option ℕ → OrGone (Once ℕ) → Option ℕ
format_in o Gone = o
format_in o (Here a) = a.value

watch_self : (o : Option Watching) (P : Stamp × Sign → Type 0) → ((t : Stamp) (g : Sign) → P (t, g) ↔ (o ≡ Some (signed t g))) → OptionTells WatchTells P o
watch_self None P h = λ y p. (let e : ◌≡◌ {A = Option Watching} None (Some (signed y.0 y.1)) = (h y.0 y.1).0 p in cc)
watch_self (Some w) P h = go w.stamp w.value h
  where
    go : (t : Stamp) (x : OrGone (Once ℕ)) → ((u : Stamp) (g : Sign) → P (u, g) ↔ (◌≡◌ {A = Option Watching} (Some (record { stamp = t; value = x })) (Some (signed u g)))) → WatchTells P (record { stamp = t; value = x })
    go t Gone h = keyed_single stamp_order EndTells P t Ended Gone ((h t Ended).1 refl) (λ u g p. sym (one_watching t u Gone (sign_value g) ((h u g).0 p)).0) ((h t Ended).1 refl)
    go t (Here a) h = keyed_single stamp_order EndTells P t (Asked a.value) (Here a) ((h t (Asked a.value)).1 refl) (λ u g p. sym (one_watching t u (Here a) (sign_value g) ((h u g).0 p)).0)
        (λ p. not_gone (one_watching t t (Here a) Gone ((h t Ended).0 p)).1, greatest_single format_order (λ b. P (t, Asked b)) a.value ((h t (Asked a.value)).1 refl) (λ b p. sym (ap (format_in None) (one_watching t t (Here a) (Here (record { value = b })) ((h t (Asked b)).0 p)).1)))
      where
        not_gone : ◌≡◌ {A = OrGone (Once ℕ)} (Here a) Gone → ⊥
        not_gone e = cc

watches_self : (b : Body) → WatchesTell (BodyShows b) b.maps.right
watches_self b = λ p. watch_self (value_at b.maps.right p) (λ y. BodyShows b (sign_trace p y.0 y.1)) (signs p)
  where
    signs : (p : Path) (t : Stamp) (g : Sign) → BodyShows b (sign_trace p t g) ↔ (value_at b.maps.right p ≡ Some (signed t g))
    signs p t (Asked a) = (λ h. h, λ h. h)
    signs p t Ended = (λ h. h, λ h. h)

last_self : (o : Option (Last (List ℕ))) → OptionTells (LastTells text_cmp) (λ (w : Stamp × List ℕ). o ≡ Some (record { write = (w.0, w.1) })) o
last_self None = λ w e. cc
last_self (Some l) = greatest_single (write_order text_order) _ l.write refl (λ w e. (let same : l ≡ record { write = (w.0, w.1) } = cc in sym (ap (λ (x : Last (List ℕ)). x.write) same)))

attributes_self : (b : Body) → AttributesTell (BodyShows b) b.maps.left
attributes_self b = λ name. last_self (value_at b.maps.left name)

body_self : (b : Body) → BodyTells (BodyShows b) b
body_self b = record {
  named = tt;
  base = option_self base_order b.base.value;
  address = field_self addr_order b.address.write;
  seen = field_self moment_order b.seen.write;
  lifetime = field_self number_order b.lifetime.write;
  binding = field_self binding_order b.binding.write;
  sms = field_self sms_order b.sms.write;
  objects = field_self text_order b.objects.write;
  ended = option_self stamp_order b.ended.value;
  attributes = attributes_self b;
  watches = watches_self b;
}

named_shown : (x : OrGone Body) → Shows x Named
named_shown Gone = inl refl
named_shown (Here b) = tt

told_self : (x : OrGone Body) → ToldTells (Shows x) x
told_self Gone = inr refl
told_self (Here b) = (λ h. h, body_self b)

-- the marks about the endpoint that a slot shows are those that it tells of
pub slot_self : (e : List ℕ) (slot : Slot) → SlotTells (λ y. Has (shown_by e slot) e y.0 y.1) slot
slot_self e slot =
    keyed_single stamp_order ToldTells (λ y. Has (shown_by e slot) e y.0 y.1) slot.registration.stamp Named slot.registration.value (refl, refl, named_shown slot.registration.value) (λ u k h. h.1)
    (told_facet.same (Shows slot.registration.value) (λ k. Has (shown_by e slot) e slot.registration.stamp k) slot.registration.value (λ k. (λ h. (refl, refl, h), λ h. h.2)) (told_self slot.registration.value))

pub shown_names : (e : List ℕ) (slot : Slot) (r : Stamp) (k : Trace) → Has (shown_by e slot) e r k → Has (shown_by e slot) e r Named
shown_names e slot r k h = (h.0, h.1, named_shown slot.registration.value)
