-- A registration that has expired, and what its slot and its table are once it has ended.
use Rattle.std.proofs.Common.{◌≡◌, ◌↔◌, ℕ, true, false, cond, List, [], Option, Some, None, refl, sym, ap, ◌∙◌, subst}
use Rattle.std.specs.Cmp.{tied_itself}
use Rattle.std.specs.FinMap.{get}
use Rattle.std.specs.Ordering.{is_gt, max_by_ordering, ordering_reverse}
use Rattle.std.specs.Option.{IsSome, IsNone}
use Rattle.std.specs.declared.cmp.Ordering.{Ordering}
use Rattle.std.specs.declared.cmp.Ordering.TheVariants.{Less, Equal, Greater}
use Rattle.lw_stamp.specs.declared.moment.Moment.{Moment}
use Rattle.lw_stamp.specs.declared.stamp.Stamp.{Stamp}
use Rattle.lw_stamp.specs.StampOrder.{stamp_cmp}
use Rattle.lw_stamp.specs.TextOrder.{text_cmp}
use Rattle.lw_stamp.proofs.StampLemmas.{stamp_order}
use Rattle.lw_join.specs.Greater.{greater}
use Rattle.lw_join.specs.Options.{option_join}
use Rattle.lw_join.specs.Parts.{entries_of}
use Rattle.lw_join.specs.declared.or_gone.OrGone.{OrGone}
use Rattle.lw_join.specs.declared.or_gone.OrGone.TheVariants.{Here, Gone}
use Rattle.lw_reg.specs.declared.addr.Addr.{Addr}
use Rattle.lw_reg.specs.declared.base.Base.{Base}
use Rattle.lw_reg.specs.declared.binding.Binding.{Binding}
use Rattle.lw_reg.specs.declared.body.Body.{Body}
use Rattle.lw_reg.specs.declared.slot.Slot.{Slot}
use Rattle.lw_reg.specs.Attribute.{values_of}
use Rattle.lw_reg.specs.Marks.{Mark, Marks, NamesAll, among}
use Rattle.lw_reg.specs.Reading.{IsRemoved, deadline_in, deadline_of, ended_of, is_late, lasting, registered_in, registration_of, seen_of, shown_in, stamp_of}
use Rattle.lw_reg.specs.Slot.{slot_at, slot_join, ending}
use Rattle.lw_reg.specs.State.{State, IsStateOf}
use Rattle.lw_reg.proofs.EndLemmas.{ended_with, ending_joined, lasting_some, with_end}
use Rattle.lw_reg.proofs.Tells.{Holds, Tells}
use Rattle.lw_table.specs.inner.Found.{expired_at, expired_with, named}
use Rattle.lw_table.specs.Keys.{HasKey}
use Rattle.lw_table.specs.Lifts.{Lifts, LiftsFirst}
use Rattle.lw_table.specs.LookUps.{ExpiredAfter}
use Rattle.lw_table.specs.inner.Moves.{LiftsRow}
use Rattle.lw_table.specs.Table.{TableContent}
use Rattle.lw_table.specs.declared.key.Key.{Key}
use Rattle.lw_table.specs.declared.key.Key.TheVariants.{Id, Address, Token}
use Rattle.lw_table.specs.declared.row.Row.{Row}
use Rattle.lw_table.proofs.LookUpLemmas.{expired_first, expired_none, read_names, read_tells, marks_tell}

-- ---- what has expired lasts
abbrev pub Lasting : Slot → Stamp × Moment → Type 0
Lasting slot w = lasting (ended_of slot) (seen_of slot) ≡ Some w

-- a registration that is complete was seen since it was over
parts_last : (e : List ℕ) (r : Stamp) (ob : Option Base) (oa : Option (Stamp × Addr)) (os : Option (Stamp × Moment)) (ol : Option (Stamp × ℕ)) (oi : Option (Stamp × Binding)) (om : Option (Stamp × Option (List ℕ))) (oo : Option (Stamp × List ℕ)) (oc : List (List ℕ × List ℕ)) (now : ℕ)
    → is_late now (registration_of e r ob oa os ol oi om oo oc) ≡ true → (w : Stamp × Moment) × (os ≡ Some w)
parts_last e r (Some b) (Some a) (Some s) (Some l) (Some i) (Some m) (Some o) oc now h = (s, refl)
parts_last e r _ _ _ _ _ _ _ _ now h = absurd cc

pub late_lasts : (now : ℕ) (slot : Slot) → is_late now (registered_in [] slot) ≡ true → (w : Stamp × Moment) × Lasting slot w
late_lasts now slot = go slot.registration.stamp slot.registration.value
  where
    go : (r : Stamp) (x : OrGone Body) → is_late now (registered_in [] (slot_at r x)) ≡ true → (w : Stamp × Moment) × Lasting (slot_at r x) w
    go r Gone h = absurd cc
    go r (Here b) h = parts_last [] r b.base.value b.address.write (lasting b.ended.value b.seen.write) b.lifetime.write b.binding.write b.sms.write b.objects.write (values_of (entries_of b.maps.left)) now h

pub lasting_seen : (slot : Slot) (w : Stamp × Moment) → Lasting slot w → IsSome (seen_of slot)
lasting_seen slot w h = subst IsSome (sym (lasting_some (ended_of slot) (seen_of slot) w h).0) refl

-- what was seen last is what lasts
pub lasts_as_seen : (slot : Slot) (w v : Stamp × Moment) → Lasting slot w → seen_of slot ≡ Some v → Lasting slot v
lasts_as_seen slot w v h seen = h ∙ sym (lasting_some (ended_of slot) (seen_of slot) w h).0 ∙ seen

-- ---- the slot once it has ended
not_above_itself : (w : Stamp × Moment) → lasting (Some w.0) (Some w) ≡ None
not_above_itself w = ap (λ o. cond (is_gt o) (Some w) None) (tied_itself stamp_order.total w.0)

greater_is : (t s : Stamp) → is_gt (stamp_cmp s t) ≡ true → greater stamp_cmp t s ≡ s
greater_is t s above = go (stamp_cmp t s) refl
  where
    go : (o : Ordering) → stamp_cmp t s ≡ o → max_by_ordering o t s ≡ s
    go Less h = refl
    go Equal h = refl
    go Greater h = absurd (let bad : false ≡ true = sym (ap is_gt (stamp_order.total.antisymm s t ∙ ap ordering_reverse h)) ∙ above in cc)

no_longer : (o : Option Stamp) (s : Option (Stamp × Moment)) (w : Stamp × Moment) → lasting o s ≡ Some w → lasting (option_join (greater stamp_cmp) o (Some w.0)) s ≡ None
no_longer None s w h = ap (lasting (Some w.0)) h ∙ not_above_itself w
no_longer (Some t) s w h =
    let last = lasting_some (Some t) s w h in
    (λ i. lasting (Some (greater_is t w.0 (last.1 t refl) i)) (last.0 i)) ∙ not_above_itself w

unseen : (e : List ℕ) (r : Stamp) (ob : Option Base) (oa : Option (Stamp × Addr)) (ol : Option (Stamp × ℕ)) (oi : Option (Stamp × Binding)) (om : Option (Stamp × Option (List ℕ))) (oo : Option (Stamp × List ℕ)) (oc : List (List ℕ × List ℕ)) → registration_of e r ob oa None ol oi om oo oc ≡ None
unseen e r None oa ol oi om oo oc = refl
unseen e r (Some b) None ol oi om oo oc = refl
unseen e r (Some b) (Some a) ol oi om oo oc = refl

-- it keeps its keys, is not removed, and expires no more
pub record KeepsKeys (old new : Slot) : Type 0 where
  pub was : ¬ IsRemoved old
  pub is : ¬ IsRemoved new
  pub keys : (k : Key) → HasKey new k ↔ HasKey old k
  pub none : deadline_in new ≡ None

pub ended_keeps : (slot : Slot) (w : Stamp × Moment) → Lasting slot w → KeepsKeys slot (slot_join slot (ending (stamp_of slot) w.0))
ended_keeps slot w = go slot.registration.stamp slot.registration.value
  where
    keys_of : (r : Stamp) (b : Body) (k : Key) → HasKey (slot_at r (Here (with_end b (ended_with b w.0)))) k ↔ HasKey (slot_at r (Here b)) k
    keys_of r b (Id id) = (λ h. (λ gone. cc, h.1), λ h. (λ gone. cc, h.1))
    keys_of r b (Address address) = (λ h. h, λ h. h)
    keys_of r b (Token token) = (λ h. h, λ h. h)

    go : (r : Stamp) (x : OrGone Body) → Lasting (slot_at r x) w → KeepsKeys (slot_at r x) (slot_join (slot_at r x) (ending r w.0))
    go r Gone h = absurd cc
    go r (Here b) h = subst (KeepsKeys (slot_at r (Here b))) (sym (ending_joined r b w.0)) (record {
      was = λ gone. cc;
      is = λ gone. cc;
      keys = keys_of r b;
      none =
          ap (λ os. deadline_of (registration_of [] r b.base.value b.address.write os b.lifetime.write b.binding.write b.sms.write b.objects.write (values_of (entries_of b.maps.left)))) (no_longer b.ended.value b.seen.write w h)
          ∙ ap deadline_of (unseen [] r b.base.value b.address.write b.lifetime.write b.binding.write b.sms.write b.objects.write (values_of (entries_of b.maps.left)));
    })

-- ---- the row
pub lifted_row : (old : Row) (new : Slot) (number : ℕ) (id : Stamp) → id ≡ stamp_of old.slot → IsSome (seen_of old.slot)
    → ((at : Stamp) (v : Moment) → seen_of old.slot ≡ Some (at, v) → new ≡ slot_join old.slot (ending (stamp_of old.slot) at))
    → LiftsRow number id old (record { slot = new; number = number })
lifted_row old new number id is there lifted = go (seen_of old.slot) refl there
  where
    with_slot : Slot → Row
    with_slot slot = record { slot = slot; number = number }

    go : (o : Option (Stamp × Moment)) → seen_of old.slot ≡ o → IsSome o → LiftsRow number id old (record { slot = new; number = number })
    go None seen h = absurd cc
    go (Some w) seen h = record {
      id_is = sym is;
      seen = w;
      seen_is = seen;
      moved = ap with_slot (lifted w.0 w.1 seen ∙ ap (λ r. slot_join old.slot (ending r w.0)) (sym is));
    }

-- ---- the least that has expired
-- the registration of the least endpoint that is found to have expired ends; or none is found, and nothing is changed
abbrev pub LiftsFound : ℕ → TableContent → Option Stamp → TableContent → Type 0
LiftsFound now old None new = ((e : List ℕ) → expired_at now old.state e ≡ None) × (new ≡ old)
LiftsFound now old (Some id) new =
    (e : List ℕ) × (expired_at now old.state e ≡ Some (e, id)) × ((n : List ℕ) → text_cmp n e ≡ Less → expired_at now old.state n ≡ None) × Lifts old e id new

found_first : (M : Marks) → NamesAll M → (old : TableContent) → Tells (Holds M) old.state → (now : ℕ) (o : Option Stamp) (new : TableContent) → LiftsFound now old o new → LiftsFirst M now old o new
found_first M names old tells now None new h = (expired_none M names old.state tells now h.0, h.1)
found_first M names old tells now (Some id) new h = (h.0, expired_first M names old.state tells now h.0 id h.1 h.2, h.3)

pub read_lifts : (now : ℕ) (old : TableContent) (o : Option Stamp) (new : TableContent) → LiftsFound now old o new → LiftsFirst (shown_in old.state) now old o new
read_lifts now old = found_first (shown_in old.state) (read_names old.state) old (read_tells old.state) now

pub marks_lifts : (now : ℕ) (old : TableContent) (o : Option Stamp) (new : TableContent) → LiftsFound now old o new
    → (ms : List Mark) → NamesAll (among ms) → IsStateOf ms old.state → LiftsFirst (among ms) now old o new
marks_lifts now old o new h ms p s = found_first (among ms) p old (marks_tell ms p old.state s) now o new h

-- the answer is none only where none has expired
pub none_lifts : (M : Marks) (now : ℕ) (old : TableContent) (o : Option Stamp) (new : TableContent) → LiftsFirst M now old o new → IsNone o ↔ ExpiredAfter M now None None
none_lifts M now old None new h = (λ none. h.0, λ none. refl)
none_lifts M now old (Some id) new h = (λ none. absurd cc, λ none. absurd (none h.1.0 h.1.1.fits))

-- ---- an endpoint in a state
pub expired_here : (now : ℕ) (state : State) (e : List ℕ) (slot : Slot) → get state e ≡ Some slot → is_late now (registered_in [] slot) ≡ true → expired_at now state e ≡ Some (e, stamp_of slot)
expired_here now state e slot is late = ap (λ o. named e (expired_with now o)) is ∙ ap (λ b. named e (cond b (Some (stamp_of slot)) None)) late

pub not_expired_here : (now : ℕ) (state : State) (e : List ℕ) → expired_with now (get state e) ≡ None → expired_at now state e ≡ None
not_expired_here now state e h = ap (named e) h
