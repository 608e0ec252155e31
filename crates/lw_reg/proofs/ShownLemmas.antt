-- What a slot shows at a moment, and its live watches, of a set that it tells of.
use Rattle.std.proofs.Common.{◌≡◌, ℕ, ◌+◌, ◌*◌, Bool, true, false, cond, List, [], Option, Some, None, sym, refl, ap, ◌∙◌, subst, inl, inr, arith}
use Rattle.std.specs.Prelude.{◌↔◌, ◌==◌, ◌||◌, nat_lt, not}
use Rattle.std.specs.Option.{option_map}
use Rattle.std.proofs.lemmas.Bool.Decides.{nat_tests}
use Rattle.lw_stamp.specs.declared.moment.Moment.{Moment}
use Rattle.lw_stamp.specs.declared.stamp.Stamp.{Stamp}
use Rattle.lw_stamp.specs.Moment.{ms_of}
use Rattle.lw_stamp.specs.Order.{IsGreatest}
use Rattle.lw_stamp.specs.StampOrder.{stamp_cmp}
use Rattle.lw_join.specs.Entries.{Rises}
use Rattle.lw_join.specs.Parts.{entries_of}
use Rattle.lw_join.specs.declared.or_gone.OrGone.{OrGone}
use Rattle.lw_join.specs.declared.or_gone.OrGone.TheVariants.{Here, Gone}
use Rattle.lw_reg.specs.declared.addr.Addr.{Addr}
use Rattle.lw_reg.specs.declared.base.Base.{Base}
use Rattle.lw_reg.specs.declared.binding.Binding.{Binding}
use Rattle.lw_reg.specs.declared.body.Body.{Body}
use Rattle.lw_reg.specs.declared.slot.Slot.{Slot}
use Rattle.lw_reg.specs.declared.watch.Watch.{Watch}
use Rattle.lw_reg.specs.Attribute.{values_of}
use Rattle.lw_reg.specs.Marks.{Trace, Marks, Has}
use Rattle.lw_reg.specs.Marks.Trace.{Named, Watched, Cancelled}
use Rattle.lw_reg.specs.Orders.{path_cmp, format_cmp}
use Rattle.lw_reg.specs.Reading.{registration_of, registered_in, lasting, in_time, timely, view_in, is_late, watches_of, first_watch, if_shown, live_watch}
use Rattle.lw_reg.specs.Registration.{Registration}
use Rattle.lw_reg.specs.Showing.{IsCurrent, IsToken, IsInTime, IsShown, ShownOf, LivesOf, HasExpired, IsFirstOfWatches}
use Rattle.lw_reg.specs.Slot.{slot_at}
use Rattle.lw_reg.proofs.FirstWatch.{HasWatch, FirstOf, first_is}
use Rattle.lw_reg.proofs.Readings.{shown_from, shown_to, one_current, IsWatch, watch_from, watch_to}
use Rattle.lw_reg.proofs.Tells.{SlotTells}

-- ---- time
time_true : (now : ℕ) (v : Registration) → in_time now v ≡ true → IsInTime now v
time_true now v h = go (v.lifetime == 0) refl h
  where
    go : (b : Bool) → v.lifetime == 0 ≡ b → (b || nat_lt now (ms_of v.seen + 1000 * v.lifetime)) ≡ true → IsInTime now v
    go true e h = inl (grind (arith, nat_tests))
    go false e h = inr (grind (arith, nat_tests))

true_time : (now : ℕ) (v : Registration) → IsInTime now v → in_time now v ≡ true
true_time now v (inl e) = grind (arith, nat_tests)
true_time now v (inr h) = grind (arith, nat_tests)

timely_some : (now : ℕ) (o : Option Registration) (v : Registration) → timely now o ≡ Some v → (o ≡ Some v) × IsInTime now v
timely_some now None v h = absurd cc
timely_some now (Some w) v h = go (in_time now w) refl h
  where
    go : (b : Bool) → in_time now w ≡ b → cond b (Some w) None ≡ Some v → (Some w ≡ Some v) × IsInTime now v
    go true e k = (k, let same : w ≡ v = cc in subst (IsInTime now) same (time_true now w e))
    go false e k = absurd cc

some_timely : (now : ℕ) (o : Option Registration) (v : Registration) → o ≡ Some v → IsInTime now v → timely now o ≡ Some v
some_timely now o v e h = ap (timely now) e ∙ ap (λ b. cond b (Some v) None) (true_time now v h)

not_both : (b : Bool) → b ≡ true → not b ≡ true → ⊥
not_both true h k = cc
not_both false h k = cc

-- ---- the endpoint is only lent
abbrev named_for : List ℕ → Registration → Registration
named_for e v = record {
  endpoint = e;
  id = v.id;
  address = v.address;
  seen = v.seen;
  lifetime = v.lifetime;
  version = v.version;
  binding = v.binding;
  queue = v.queue;
  sms = v.sms;
  objects = v.objects;
  attributes = v.attributes;
}

renamed_parts : (e f : List ℕ) (r : Stamp) (ob : Option Base) (oa : Option (Stamp × Addr)) (os : Option (Stamp × Moment)) (ol : Option (Stamp × ℕ)) (oi : Option (Stamp × Binding)) (om : Option (Stamp × Option (List ℕ))) (oo : Option (Stamp × List ℕ)) (pairs : List (List ℕ × List ℕ)) → registration_of f r ob oa os ol oi om oo pairs ≡ option_map (named_for f) (registration_of e r ob oa os ol oi om oo pairs)
renamed_parts e f r (Some b) (Some a) (Some s) (Some l) (Some i) (Some m) (Some o) pairs = refl
renamed_parts e f r _ _ _ _ _ _ _ pairs = refl

renamed : (e f : List ℕ) (r : Stamp) (x : OrGone Body) → registered_in f (slot_at r x) ≡ option_map (named_for f) (registered_in e (slot_at r x))
renamed e f r Gone = refl
renamed e f r (Here b) = renamed_parts e f r b.base.value b.address.write (lasting b.ended.value b.seen.write) b.lifetime.write b.binding.write b.sms.write b.objects.write (values_of (entries_of b.maps.left))

late_named : (now : ℕ) (f : List ℕ) (o : Option Registration) → is_late now (option_map (named_for f) o) ≡ is_late now o
late_named now f None = refl
late_named now f (Some v) = refl

pub late_for_any : (now : ℕ) (e f : List ℕ) (slot : Slot) → is_late now (registered_in f slot) ≡ is_late now (registered_in e slot)
late_for_any now e f slot = ap (is_late now) (renamed e f slot.registration.stamp slot.registration.value) ∙ late_named now f (registered_in e slot)

timely_named : (now : ℕ) (f : List ℕ) (o : Option Registration) (w : Option Watch) → if_shown (timely now (option_map (named_for f) o)) w ≡ if_shown (timely now o) w
timely_named now f None w = refl
timely_named now f (Some v) w = go (in_time now v)
  where
    go : (b : Bool) → if_shown (cond b (Some (named_for f v)) None) w ≡ if_shown (cond b (Some v) None) w
    go true = refl
    go false = refl

shown_for_any : (now : ℕ) (e f : List ℕ) (slot : Slot) (w : Option Watch) → if_shown (view_in now f slot) w ≡ if_shown (view_in now e slot) w
shown_for_any now e f slot w = ap (λ o. if_shown (timely now o) w) (renamed e f slot.registration.stamp slot.registration.value) ∙ timely_named now f (registered_in e slot) w

-- ---- what the slot shows
module _ (M : Marks) (e : List ℕ) (names : (r : Stamp) (k : Trace) → Has M e r k → Has M e r Named) (slot : Slot) (tells : SlotTells (λ y. Has M e y.0 y.1) slot) where
  pub shown_reads : (now : ℕ) (v : Registration) → (view_in now e slot ≡ Some v) ↔ ((v.endpoint ≡ e) × IsShown M now v)
  shown_reads now v = (
    λ h. let p = timely_some now (registered_in e slot) v h in
        let r = shown_from M e names slot.registration.stamp slot.registration.value v tells p.0 in
        (r.0, record { registered = r.1; in_time = p.1 }),
    λ s. some_timely now (registered_in e slot) v (shown_to M e names slot.registration.stamp slot.registration.value v tells s.0 s.1.registered) s.1.in_time,
  )

  pub shown_of : (now : ℕ) → ShownOf M now e (view_in now e slot)
  shown_of now = go (view_in now e slot) refl
    where
      go : (o : Option Registration) → view_in now e slot ≡ o → ShownOf M now e o
      go None h = λ v s. (let some = (shown_reads now v).1 s in let none = h in absurd cc)
      go (Some v) h = (shown_reads now v).0 h

  late_true : (now : ℕ) (o : Option Registration) → registered_in e slot ≡ o → is_late now o ≡ true → HasExpired M now e
  late_true now None h late = absurd cc
  late_true now (Some v) h late =
      let r = shown_from M e names slot.registration.stamp slot.registration.value v tells h in
      (v, r.0, record { registered = r.1; late = λ good. not_both (in_time now v) (true_time now v good) late })

  true_late : (now : ℕ) → HasExpired M now e → is_late now (registered_in e slot) ≡ true
  true_late now x =
      ap (is_late now) (shown_to M e names slot.registration.stamp slot.registration.value x.0 tells x.1 x.2.registered)
      ∙ go (in_time now x.0) refl
    where
      go : (b : Bool) → in_time now x.0 ≡ b → not b ≡ true
      go true h = absurd (x.2.late (time_true now x.0 h))
      go false h = refl

  pub expired_reads : (now : ℕ) → (is_late now (registered_in [] slot) ≡ true) ↔ HasExpired M now e
  expired_reads now = (
    λ h. late_true now (registered_in e slot) refl (late_for_any now [] e slot ∙ h),
    λ x. sym (late_for_any now [] e slot) ∙ true_late now x,
  )

  -- ---- its watches
  -- what the slot shows has the slot's stamp
  place_of : (now : ℕ) (v : Registration) → v.endpoint ≡ e → IsShown M now v → ◌≡◌ {A = List ℕ × Stamp} (v.endpoint, v.id) (e, slot.registration.stamp)
  place_of now v same s =
      let current = subst (λ f. IsCurrent M f v.id) same s.registered.complete.current in
      let id = one_current M e names (slot.registration.stamp, slot.registration.value) v.id tells current in
      λ i. (same i, sym id i)

  -- the slot shows a registration, and has the watch
  pub lives_reads : (now : ℕ) (w : Watch) → LivesOf M now e w ↔ (((v : Registration) × (view_in now e slot ≡ Some v)) × HasWatch (watches_of slot) w)
  lives_reads now w = (there, λ h. back h.0.0 h.0.1 h.1)
    where
      there : LivesOf M now e w → ((v : Registration) × (view_in now e slot ≡ Some v)) × HasWatch (watches_of slot) w
      there l =
          let place = place_of now l.0 l.1 l.2.shown in
          let shown = (shown_reads now l.0).1 (l.1, l.2.shown) in
          let watch : IsWatch M e names slot.registration.stamp w.path w.token w.accept = record {
            newest = subst (λ (x : List ℕ × Stamp). IsGreatest stamp_cmp (IsToken M x.0 x.1 w.path) w.token) place l.2.newest;
            watched = subst (λ (x : List ℕ × Stamp). IsGreatest format_cmp (λ a. Has M x.0 x.1 (Watched w.path w.token a)) w.accept) place l.2.watched;
            kept = subst (λ (x : List ℕ × Stamp). ¬ Has M x.0 x.1 (Cancelled w.path w.token)) place l.2.kept;
          } in
          ((l.0, shown), watch_to M e names slot.registration.stamp slot.registration.value l.0 w.path w.token w.accept tells (timely_some now (registered_in e slot) l.0 shown).0 watch)

      back : (v : Registration) → view_in now e slot ≡ Some v → HasWatch (watches_of slot) w → LivesOf M now e w
      back v h k =
          let s = (shown_reads now v).0 h in
          let place = sym (place_of now v s.0 s.1) in
          let watch = watch_from M e names slot.registration.stamp slot.registration.value v w.path w.token w.accept tells (timely_some now (registered_in e slot) v h).0 k in (
            v,
            s.0,
            record {
              shown = s.1;
              newest = subst (λ (x : List ℕ × Stamp). IsGreatest stamp_cmp (IsToken M x.0 x.1 w.path) w.token) place watch.newest;
              watched = subst (λ (x : List ℕ × Stamp). IsGreatest format_cmp (λ a. Has M x.0 x.1 (Watched w.path w.token a)) w.accept) place watch.watched;
              kept = subst (λ (x : List ℕ × Stamp). ¬ Has M x.0 x.1 (Cancelled w.path w.token)) place watch.kept;
            },
          )

  -- the first that passes the test is the first live watch that fits
  pub live_reads : (now : ℕ) (test : Watch → Bool) (Fits : Watch → Type 0) → ((w : Watch) → (test w ≡ true) ↔ Fits w) → Rises path_cmp (watches_of slot) → IsFirstOfWatches M now e Fits (live_watch test now slot)
  live_reads now test Fits decides rises =
      subst (IsFirstOfWatches M now e Fits) (shown_for_any now [] e slot (first_watch test (watches_of slot)))
      (go (view_in now e slot) refl (first_watch test (watches_of slot)) (first_is test (watches_of slot) rises))
    where
      go : (o : Option Registration) → view_in now e slot ≡ o → (f : Option Watch) → FirstOf test (watches_of slot) f → IsFirstOfWatches M now e Fits (if_shown o f)
      go None h f first = λ w l fits. (let some = ((lives_reads now w).0 l).0.1 in let none = h in absurd cc)
      go (Some v) h None first = λ w l fits. first w ((lives_reads now w).0 l).1 ((decides w).1 fits)
      go (Some v) h (Some w) first = record {
        lives = (lives_reads now w).1 ((v, h), first.there);
        fits = (decides w).0 first.passes;
        first = λ u l fits. first.first u ((lives_reads now u).0 l).1 ((decides u).1 fits);
      }
