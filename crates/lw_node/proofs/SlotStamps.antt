-- No stamp of a slot is above a clock, as the writer of deltas asks it, and as a node keeps it.
use Rattle.std.proofs.Common.{◌≡◌, ℕ, ◌≤◌, Bool, true, false, cond, List, [], ◌∷◌, Option, Some, None, IfSome, refl, sym, subst, inl, inr}
use Rattle.std.specs.FinMap.{empty, get, get-empty}
use Rattle.std.specs.Ordering.{eq_by_cmp}
use Rattle.lw_stamp.specs.declared.stamp.Stamp.{Stamp}
use Rattle.lw_stamp.specs.TextOrder.{text_cmp}
use Rattle.lw_join.specs.Entries.{get as entry_of}
use Rattle.lw_join.specs.Maps.{one_key}
use Rattle.lw_join.specs.Parts.{entries_of}
use Rattle.lw_join.specs.declared.last.Last.{Last}
use Rattle.lw_join.specs.declared.once.Once.{Once}
use Rattle.lw_join.specs.declared.or_gone.OrGone.{OrGone}
use Rattle.lw_join.specs.declared.or_gone.OrGone.TheVariants.{Here, Gone}
use Rattle.lw_join.proofs.Each.{each_get, each_from_get}
use Rattle.lw_join.proofs.MapLemmas.{get-one_key}
use Rattle.lw_reg.specs.OrderLaws.{path_order, text_order}
use Rattle.lw_reg.specs.Orders.{path_cmp}
use Rattle.lw_reg.specs.declared.body.Body.{Body}
use Rattle.lw_reg.specs.declared.path.Path.{Path}
use Rattle.lw_reg.specs.declared.slot.Slot.{Slot}
use Rattle.lw_reg.specs.Body.{Watching}
use Rattle.lw_reg.specs.Marks.{Trace, Mark}
use Rattle.lw_reg.specs.Marks.Trace.{Named, Based, AddressAt, SeenAt, LifetimeAt, BindingAt, SmsAt, ObjectsAt, AttributeAt, EndedAt, Removed, Watched, Cancelled}
use Rattle.lw_reg.specs.Reading.{BodyShows, Shows, shown_by_option}
use Rattle.lw_reg.specs.Slot.{slot_at, observed, cancelled}
use Rattle.lw_reg.specs.State.{State}
use Rattle.lw_delta.specs.Writable.{StampsWithin, AllFollow}
use Rattle.lw_node.specs.Exchange.{state_in}
use Rattle.lw_node.specs.Within.{TraceWithin, MarkWithin, FitsClock}
use Rattle.lw_node.proofs.Within.{fits_join}

-- ---- from the stamps of a slot
write_within : {V : Type 0} (clock : ℕ) (o : Option (Stamp × V)) (s : Stamp) (v : V) → o ≡ Some (s, v) → IfSome o (λ w. w.0.counter ≤ clock) → s.counter ≤ clock
write_within clock o s v h within = subst (λ x. IfSome x (λ w. w.0.counter ≤ clock)) h within

-- the stamp of a write of an attribute, and the token of a watch, is within the clock
abbrev WriteWithin : ℕ → List ℕ × Last (List ℕ) → Type 0
WriteWithin clock w = w.1.write.0.counter ≤ clock

abbrev WatchWithin : ℕ → Path × Watching → Type 0
WatchWithin clock w = w.1.stamp.counter ≤ clock

body_within : (clock : ℕ) (r : Stamp) (b : Body) → StampsWithin clock (slot_at r (Here b)) → (k : Trace) → BodyShows b k → TraceWithin clock k
body_within clock r b h Named shows = tt
body_within clock r b h (Based v) shows = tt
body_within clock r b h (AddressAt s v) shows = write_within clock b.address.write s v shows h.address
body_within clock r b h (SeenAt s v) shows = write_within clock b.seen.write s v shows h.seen
body_within clock r b h (LifetimeAt s v) shows = write_within clock b.lifetime.write s v shows h.lifetime
body_within clock r b h (BindingAt s v) shows = write_within clock b.binding.write s v shows h.binding
body_within clock r b h (SmsAt s v) shows = write_within clock b.sms.write s v shows h.sms
body_within clock r b h (ObjectsAt s v) shows = write_within clock b.objects.write s v shows h.objects
body_within clock r b h (AttributeAt name s v) shows = each_get text_order (WriteWithin clock) (entries_of b.maps.left) name (record { write = (s, v) }) h.attributes shows
body_within clock r b h (EndedAt s) shows = subst (λ (o : Option Stamp). IfSome o (λ t. t.counter ≤ clock)) shows h.ended
body_within clock r b h Removed shows = tt
body_within clock r b h (Watched p t a) shows = each_get path_order (WatchWithin clock) (entries_of b.maps.right) p (observed t a) h.watches shows
body_within clock r b h (Cancelled p t) shows = each_get path_order (WatchWithin clock) (entries_of b.maps.right) p (cancelled t) h.watches shows

told_within : (clock : ℕ) (r : Stamp) (x : OrGone Body) → StampsWithin clock (slot_at r x) → (k : Trace) → Shows x k → TraceWithin clock k
told_within clock r Gone h k (inl e) = subst (TraceWithin clock) (sym e) tt
told_within clock r Gone h k (inr e) = subst (TraceWithin clock) (sym e) tt
told_within clock r (Here b) h k shows = body_within clock r b h k shows

pub one_fits : (clock : ℕ) (e : List ℕ) (slot : Slot) → StampsWithin clock slot → FitsClock clock (one_key e slot)
one_fits clock e slot h m shown = go (eq_by_cmp text_cmp m.endpoint e) (subst (λ (o : Option Slot). shown_by_option m.endpoint o m) (get-one_key text_order e slot m.endpoint) shown)
  where
    go : (b : Bool) → shown_by_option m.endpoint (cond b (Some slot) None) m → MarkWithin clock m
    go true by = (subst (λ (r : Stamp). r.counter ≤ clock) (sym by.1) h.registration, told_within clock slot.registration.stamp slot.registration.value h m.trace by.2)
    go false by = absurd by

pub empty_fits : (clock : ℕ) → FitsClock clock empty
empty_fits clock m shown = absurd (subst (λ (o : Option Slot). shown_by_option m.endpoint o m) (get-empty text_cmp m.endpoint) shown)

pub slots_fit : (clock : ℕ) (after : Option (List ℕ)) (slots : List (List ℕ × Slot)) → AllFollow clock after slots → FitsClock clock (state_in slots)
slots_fit clock after [] h = empty_fits clock
slots_fit clock after (s ∷ ss) h = fits_join clock (one_key s.0 s.1) (state_in ss) (one_fits clock s.0 s.1 h.0.stamps) (slots_fit clock (Some s.0) ss h.1)

-- ---- to the stamps of a slot
module _ (clock : ℕ) (state : State) (fits : FitsClock clock state) (e : List ℕ) where
  abbrev mark : Stamp → Trace → Mark
  mark r k = record { endpoint = e; registration = r; trace = k }

  shown_within : (r : Stamp) (x : OrGone Body) → get state e ≡ Some (slot_at r x) → (k : Trace) → Shows x k → MarkWithin clock (mark r k)
  shown_within r x is k shows = fits (mark r k) (subst (λ (o : Option Slot). shown_by_option e o (mark r k)) (sym is) (refl, refl, shows))

  each_write : {V : Type 0} (r : Stamp) (b : Body) (field : Stamp → V → Trace) → get state e ≡ Some (slot_at r (Here b)) → ((s : Stamp) (v : V) → TraceWithin clock (field s v) → s.counter ≤ clock)
      → (o : Option (Stamp × V)) → ((s : Stamp) (v : V) → o ≡ Some (s, v) → BodyShows b (field s v)) → IfSome o (λ w. w.0.counter ≤ clock)
  each_write r b field is reads None shows = tt
  each_write r b field is reads (Some w) shows = reads w.0 w.1 (shown_within r (Here b) is (field w.0 w.1) (shows w.0 w.1 refl)).1

  ended_stamp : (r : Stamp) (b : Body) → get state e ≡ Some (slot_at r (Here b)) → (o : Option Stamp) → ((s : Stamp) → o ≡ Some s → BodyShows b (EndedAt s)) → IfSome o (λ s. s.counter ≤ clock)
  ended_stamp r b is None shows = tt
  ended_stamp r b is (Some s) shows = (shown_within r (Here b) is (EndedAt s) (shows s refl)).1

  token_of : (r : Stamp) (b : Body) → get state e ≡ Some (slot_at r (Here b)) → (p : Path) (t : Stamp) (x : OrGone (Once ℕ)) → entry_of path_cmp (entries_of b.maps.right) p ≡ Some (record { stamp = t; value = x }) → t.counter ≤ clock
  token_of r b is p t Gone there = (shown_within r (Here b) is (Cancelled p t) there).1
  token_of r b is p t (Here a) there = (shown_within r (Here b) is (Watched p t a.value) there).1

  told_stamps : (r : Stamp) (x : OrGone Body) → get state e ≡ Some (slot_at r x) → StampsWithin clock (slot_at r x)
  told_stamps r Gone is = record { registration = (shown_within r Gone is Named (inl refl)).0; address = tt; seen = tt; lifetime = tt; binding = tt; sms = tt; objects = tt; attributes = tt; ended = tt; watches = tt }
  told_stamps r (Here b) is = record {
    registration = (shown_within r (Here b) is Named tt).0;
    address = each_write r b AddressAt is (λ s v h. h) b.address.write (λ s v h. h);
    seen = each_write r b SeenAt is (λ s v h. h) b.seen.write (λ s v h. h);
    lifetime = each_write r b LifetimeAt is (λ s v h. h) b.lifetime.write (λ s v h. h);
    binding = each_write r b BindingAt is (λ s v h. h) b.binding.write (λ s v h. h);
    sms = each_write r b SmsAt is (λ s v h. h) b.sms.write (λ s v h. h);
    objects = each_write r b ObjectsAt is (λ s v h. h) b.objects.write (λ s v h. h);
    attributes = each_from_get text_order (WriteWithin clock) (entries_of b.maps.left) b.maps.left.rises (λ name w there. (shown_within r (Here b) is (AttributeAt name w.write.0 w.write.1) there).1);
    ended = ended_stamp r b is b.ended.value (λ s h. h);
    watches = each_from_get path_order (WatchWithin clock) (entries_of b.maps.right) b.maps.right.rises (λ p w there. token_of r b is p w.stamp w.value there);
  }

  -- no stamp of a slot is above a clock that fits the state
  pub stamps_within : (slot : Slot) → get state e ≡ Some slot → StampsWithin clock slot
  stamps_within slot is = told_stamps slot.registration.stamp slot.registration.value is
