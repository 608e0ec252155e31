-- What can be read from a slot, as functions of its parts; and the marks that it shows.
use Rattle.std.specs.Prelude.{◌≡◌, ℕ, ◌+◌, ◌*◌, ◌==◌, ◌⊎◌, ◌||◌, nat_lt, Bool, true, false, not, if◌then◌else◌, List, [], ◌∷◌, Option, Some, None}
use Rattle.std.specs.Ordering.{is_lt, is_gt}
use Rattle.std.specs.FinMap.{get}
use Rattle.lw_stamp.specs.contracts.stamp.StampPartialEq.TheImpl as stamps
use Rattle.lw_stamp.specs.declared.stamp.Stamp.{Stamp}
use Rattle.lw_stamp.specs.declared.moment.Moment.{Moment}
use Rattle.lw_stamp.specs.Moment.{ms_of}
use Rattle.lw_stamp.specs.StampOrder.{stamp_cmp}
use Rattle.lw_join.specs.Entries.{get as entry_of}
use Rattle.lw_join.specs.Parts.{entries_of, value_at}
use Rattle.lw_join.specs.declared.last.Last.{Last}
use Rattle.lw_join.specs.declared.once.Once.{Once}
use Rattle.lw_join.specs.declared.or_gone.OrGone.{OrGone}
use Rattle.lw_join.specs.declared.or_gone.OrGone.TheVariants.{Here, Gone}
use Rattle.lw_reg.specs.declared.addr.Addr.{Addr}
use Rattle.lw_reg.specs.declared.base.Base.{Base}
use Rattle.lw_reg.specs.declared.binding.Binding.{Binding}
use Rattle.lw_reg.specs.declared.body.Body.{Body}
use Rattle.lw_reg.specs.declared.path.Path.{Path}
use Rattle.lw_reg.specs.declared.slot.Slot.{Slot}
use Rattle.lw_reg.specs.declared.watch.Watch.{Watch}
use Rattle.lw_reg.specs.Attribute.{values_of}
use Rattle.lw_reg.specs.Body.{Watching}
use Rattle.lw_reg.specs.BodyOrGone.{known_in}
use Rattle.lw_reg.specs.Slot.{observed, cancelled}
use Rattle.lw_reg.specs.State.{State, IsStateOf}
use Rattle.lw_reg.specs.Registration.{Registration}
use Rattle.lw_reg.specs.Orders.{path_cmp}
use Rattle.lw_reg.specs.Showing.{queue_of}
use Rattle.lw_reg.specs.Marks.{Trace, Mark, Marks, among, NamesAll}
use Rattle.lw_reg.specs.Marks.Trace.{Named, Based, AddressAt, SeenAt, LifetimeAt, BindingAt, SmsAt, ObjectsAt, AttributeAt, EndedAt, Removed, Watched, Cancelled}

-- ---- the parts of a slot; of a removed registration there are none
abbrev pub here : OrGone Body → Option Body
here Gone = None
here (Here body) = Some body

abbrev pub body_of : Slot → Option Body
body_of slot = here slot.registration.value

-- what is known of the registration
abbrev pub known_of : Slot → Body
known_of slot = known_in slot.registration.value

abbrev pub stamp_of : Slot → Stamp
stamp_of slot = slot.registration.stamp

-- the registration was removed
abbrev pub IsRemoved : Slot → Type 0
IsRemoved slot = slot.registration.value ≡ Gone

abbrev pub base_of : Slot → Option Base
base_of slot = (known_of slot).base.value

abbrev pub address_of : Slot → Option (Stamp × Addr)
address_of slot = (known_of slot).address.write

abbrev pub seen_of : Slot → Option (Stamp × Moment)
seen_of slot = (known_of slot).seen.write

abbrev pub lifetime_of : Slot → Option (Stamp × ℕ)
lifetime_of slot = (known_of slot).lifetime.write

abbrev pub binding_of : Slot → Option (Stamp × Binding)
binding_of slot = (known_of slot).binding.write

abbrev pub sms_of : Slot → Option (Stamp × Option (List ℕ))
sms_of slot = (known_of slot).sms.write

abbrev pub objects_of : Slot → Option (Stamp × List ℕ)
objects_of slot = (known_of slot).objects.write

abbrev pub told_attributes : OrGone Body → List (List ℕ × Last (List ℕ))
told_attributes Gone = []
told_attributes (Here body) = entries_of body.maps.left

-- the last write of each attribute, names rising
abbrev pub attributes_of : Slot → List (List ℕ × Last (List ℕ))
attributes_of slot = told_attributes slot.registration.value

abbrev pub ended_of : Slot → Option Stamp
ended_of slot = (known_of slot).ended.value

abbrev pub told_watches : OrGone Body → List (Path × Watching)
told_watches Gone = []
told_watches (Here body) = entries_of body.maps.right

-- the watches, paths rising
abbrev pub watches_of : Slot → List (Path × Watching)
watches_of slot = told_watches slot.registration.value

-- the last watch of a path
abbrev pub watching_of : Slot → Path → Option Watching
watching_of slot path = entry_of path_cmp (watches_of slot) path

-- ---- what is shown
-- what was seen last, unless it was over by then
abbrev pub lasting : Option Stamp → Option (Stamp × Moment) → Option (Stamp × Moment)
lasting None seen = seen
lasting (Some upto) None = None
lasting (Some upto) (Some seen) = if is_gt (stamp_cmp seen.0 upto) then Some seen else None

-- the registration of these parts, where all are there
abbrev pub registration_of : List ℕ → Stamp → Option Base → Option (Stamp × Addr) → Option (Stamp × Moment) → Option (Stamp × ℕ) → Option (Stamp × Binding) → Option (Stamp × Option (List ℕ)) → Option (Stamp × List ℕ) → List (List ℕ × List ℕ) → Option Registration
registration_of e r (Some base) (Some address) (Some seen) (Some lifetime) (Some binding) (Some sms) (Some objects) attributes = Some (record {
  endpoint = e;
  id = r;
  address = address.1;
  seen = seen.1;
  lifetime = lifetime.1;
  version = base.version;
  binding = binding.1;
  queue = queue_of base binding.1;
  sms = sms.1;
  objects = objects.1;
  attributes = attributes;
})
registration_of e r _ _ _ _ _ _ _ _ = None

abbrev pub registered_in : List ℕ → Slot → Option Registration
registered_in e slot = registration_of e (stamp_of slot) (base_of slot) (address_of slot) (lasting (ended_of slot) (seen_of slot)) (lifetime_of slot) (binding_of slot) (sms_of slot) (objects_of slot) (values_of (attributes_of slot))

abbrev pub in_time : ℕ → Registration → Bool
in_time now r = (r.lifetime == 0) || nat_lt now (ms_of r.seen + 1000 * r.lifetime)

abbrev pub timely : ℕ → Option Registration → Option Registration
timely now None = None
timely now (Some r) = if in_time now r then Some r else None

-- what the slot shows of the endpoint
abbrev pub view_in : ℕ → List ℕ → Slot → Option Registration
view_in now e slot = timely now (registered_in e slot)

abbrev pub is_late : ℕ → Option Registration → Bool
is_late now None = false
is_late now (Some r) = not (in_time now r)

-- the moment from which on a registration has expired, in milliseconds; one that never expires has none
abbrev pub end_of : Registration → Option ℕ
end_of r = if r.lifetime == 0 then None else Some (ms_of r.seen + 1000 * r.lifetime)

abbrev pub deadline_of : Option Registration → Option ℕ
deadline_of None = None
deadline_of (Some r) = end_of r

-- from which moment on the registration of the slot has expired
abbrev pub deadline_in : Slot → Option ℕ
deadline_in slot = deadline_of (registered_in [] slot)

-- ---- the watches
abbrev pub watch_of : Path × Watching → Option Watch
watch_of entry = watch_by entry.0 entry.1.stamp entry.1.value
  where
    watch_by : Path → Stamp → OrGone (Once ℕ) → Option Watch
    watch_by path token Gone = None
    watch_by path token (Here accept) = Some (record { token = token; path = path; accept = accept.value })

-- the first watch that was not cancelled and passes the test
abbrev pub first_or : (Watch → Bool) → Option Watch → Option Watch → Option Watch
first_or test None rest = rest
first_or test (Some w) rest = if test w then Some w else rest

abbrev pub first_watch : (Watch → Bool) → List (Path × Watching) → Option Watch
first_watch test [] = None
first_watch test (entry ∷ entries) = first_or test (watch_of entry) (first_watch test entries)

abbrev pub has_token : Stamp → Watch → Bool
has_token token w = (stamps.ghosts).eq w.token token

abbrev pub is_above : Option Path → Watch → Bool
is_above None w = true
is_above (Some after) w = is_lt (path_cmp after w.path)

abbrev pub if_shown : Option Registration → Option Watch → Option Watch
if_shown None w = None
if_shown (Some r) w = w

-- the first that passes, where the slot shows a registration
abbrev pub live_watch : (Watch → Bool) → ℕ → Slot → Option Watch
live_watch test now slot = if_shown (view_in now [] slot) (first_watch test (watches_of slot))

abbrev pub token_then : Option Watch → List Stamp → List Stamp
token_then None tokens = tokens
token_then (Some w) tokens = w.token ∷ tokens

-- the tokens of the watches that were not cancelled
abbrev pub tokens_in : List (Path × Watching) → List Stamp
tokens_in [] = []
tokens_in (entry ∷ entries) = token_then (watch_of entry) (tokens_in entries)

-- ---- the marks that a slot shows
abbrev pub BodyShows : Body → Trace → Type 0
BodyShows b Named = Unit {0}
BodyShows b (Based v) = b.base.value ≡ Some v
BodyShows b (AddressAt s v) = b.address.write ≡ Some (s, v)
BodyShows b (SeenAt s v) = b.seen.write ≡ Some (s, v)
BodyShows b (LifetimeAt s v) = b.lifetime.write ≡ Some (s, v)
BodyShows b (BindingAt s v) = b.binding.write ≡ Some (s, v)
BodyShows b (SmsAt s v) = b.sms.write ≡ Some (s, v)
BodyShows b (ObjectsAt s v) = b.objects.write ≡ Some (s, v)
BodyShows b (AttributeAt name s v) = value_at b.maps.left name ≡ Some (record { write = (s, v) })
BodyShows b (EndedAt s) = b.ended.value ≡ Some s
BodyShows b Removed = ⊥
BodyShows b (Watched path t accept) = value_at b.maps.right path ≡ Some (observed t accept)
BodyShows b (Cancelled path t) = value_at b.maps.right path ≡ Some (cancelled t)

-- what is gone shows that it is named and removed, alone
abbrev pub Shows : OrGone Body → Trace → Type 0
Shows Gone k = (k ≡ Named) ⊎ (k ≡ Removed)
Shows (Here b) k = BodyShows b k

-- the marks about the endpoint that the slot shows
abbrev pub shown_by : List ℕ → Slot → Marks
shown_by e slot m = (m.endpoint ≡ e) × (m.registration ≡ stamp_of slot) × Shows slot.registration.value m.trace

abbrev pub shown_by_option : List ℕ → Option Slot → Marks
shown_by_option e None m = ⊥
shown_by_option e (Some slot) m = shown_by e slot m

-- the marks that a state shows
abbrev pub shown_in : State → Marks
shown_in state m = shown_by_option m.endpoint (get state m.endpoint) m

-- the slot is the one that the state of the marks has for the endpoint
abbrev pub IsSlotOf : List Mark → List ℕ → Slot → Type 0
IsSlotOf ms e slot = NamesAll (among ms) × ((state : State) × IsStateOf ms state × (get state e ≡ Some slot))
