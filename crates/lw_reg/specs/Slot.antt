-- What is known of an endpoint, its order and its join; the slot of a mark, and that of an operation.
use Rattle.std.specs.Prelude.{ℕ, List, [], ◌∷◌, Option, Some, None}
use Rattle.lw_stamp.specs.declared.stamp.Stamp.{Stamp}
use Rattle.lw_stamp.specs.declared.moment.Moment.{Moment}
use Rattle.lw_stamp.specs.TextOrder.{text_cmp}
use Rattle.lw_join.specs.Last.{last_join}
use Rattle.lw_join.specs.Lex.{lex_below, lex_join, lex_in_place}
use Rattle.lw_join.specs.OrGone.{gone_below, gone_join, gone_in_place}
use Rattle.lw_join.specs.Parts.{parts_join}
use Rattle.lw_join.specs.declared.or_gone.OrGone.{OrGone}
use Rattle.lw_join.specs.declared.or_gone.OrGone.TheVariants.{Here, Gone}
use Rattle.lw_reg.specs.declared.addr.Addr.{Addr}
use Rattle.lw_reg.specs.declared.base.Base.{Base}
use Rattle.lw_reg.specs.declared.binding.Binding.{Binding}
use Rattle.lw_reg.specs.declared.body.Body.{Body}
use Rattle.lw_reg.specs.declared.op.Op.{Op}
use Rattle.lw_reg.specs.declared.op.What.{What}
use Rattle.lw_reg.specs.declared.op.What.TheVariants.{Register, Update, Remove, Observe, Cancel, Expire}
use Rattle.lw_reg.specs.declared.slot.Slot.{Slot}
use Rattle.lw_reg.specs.Body.{Watching, Watches, AttributeMap, no_watches, one_watch, no_attributes, one_attribute, maps_of, maps_alone, ended_alone, BodyBelow, body_join, body_in_place}
use Rattle.lw_reg.specs.Marks.{Trace}
use Rattle.lw_reg.specs.Marks.Trace.{Based, AddressAt, SeenAt, LifetimeAt, BindingAt, SmsAt, ObjectsAt, AttributeAt, EndedAt, Removed, Watched, Cancelled}

abbrev pub slot_below : Slot → Slot → Type 0
slot_below x y = lex_below (gone_below BodyBelow) x.registration y.registration

abbrev pub slot_join : Slot → Slot → Slot
slot_join x y = record { registration = lex_join (gone_join body_join) x.registration y.registration }

-- where both are about one registration that neither removed, no name that is written and no path that is watched
-- in the right is new
abbrev pub slot_in_place : Slot → Slot → Type 0
slot_in_place x y = lex_in_place (gone_in_place body_in_place) x.registration y.registration

abbrev pub slot_at : Stamp → OrGone Body → Slot
slot_at r x = record { registration = record { stamp = r; value = x } }

-- ---- the atom of a mark: the slot that shows it, and that its registration is named, alone
abbrev pub base_in : Trace → Option Base
base_in (Based b) = Some b
base_in _ = None

abbrev pub address_in : Trace → Option (Stamp × Addr)
address_in (AddressAt s v) = Some (s, v)
address_in _ = None

abbrev pub seen_in : Trace → Option (Stamp × Moment)
seen_in (SeenAt s v) = Some (s, v)
seen_in _ = None

abbrev pub lifetime_in : Trace → Option (Stamp × ℕ)
lifetime_in (LifetimeAt s v) = Some (s, v)
lifetime_in _ = None

abbrev pub binding_in : Trace → Option (Stamp × Binding)
binding_in (BindingAt s v) = Some (s, v)
binding_in _ = None

abbrev pub sms_in : Trace → Option (Stamp × Option (List ℕ))
sms_in (SmsAt s v) = Some (s, v)
sms_in _ = None

abbrev pub objects_in : Trace → Option (Stamp × List ℕ)
objects_in (ObjectsAt s v) = Some (s, v)
objects_in _ = None

abbrev pub ended_in : Trace → Option Stamp
ended_in (EndedAt s) = Some s
ended_in _ = None

abbrev pub attributes_in : Trace → AttributeMap
attributes_in (AttributeAt name s v) = one_attribute name (s, v)
attributes_in _ = no_attributes

-- a watch with a token: observed, or cancelled
abbrev pub observed : Stamp → Option ℕ → Watching
observed t accept = record { stamp = t; value = Here (record { value = accept }) }

abbrev pub cancelled : Stamp → Watching
cancelled t = record { stamp = t; value = Gone }

abbrev pub watches_in : Trace → Watches
watches_in (Watched path t accept) = one_watch path (observed t accept)
watches_in (Cancelled path t) = one_watch path (cancelled t)
watches_in _ = no_watches

abbrev pub body_in : Trace → Body
body_in k = record {
  base = record { value = base_in k };
  address = record { write = address_in k };
  seen = record { write = seen_in k };
  lifetime = record { write = lifetime_in k };
  binding = record { write = binding_in k };
  sms = record { write = sms_in k };
  objects = record { write = objects_in k };
  ended = record { value = ended_in k };
  maps = maps_of (attributes_in k) (watches_in k);
}

abbrev pub told_by : Trace → OrGone Body
told_by Removed = Gone
told_by k = Here (body_in k)

-- ---- the slot that one operation makes
abbrev pub write_of : {V : Type 0} → Stamp → Option V → Option (Stamp × V)
write_of s None = None
write_of s (Some v) = Some (s, v)

abbrev pub some_text : Option (List ℕ) → Option (Option (List ℕ))
some_text None = None
some_text (Some text) = Some (Some text)

-- the writes of one operation
abbrev pub writes_of : Stamp → List (List ℕ × List ℕ) → AttributeMap
writes_of s [] = no_attributes
writes_of s (a ∷ attributes) = parts_join (last_join text_cmp) (one_attribute a.0 (s, a.1)) (writes_of s attributes)

abbrev pub told_of : Stamp → What → OrGone Body
told_of s (Register version queue address seen settings) = Here (record {
  base = record { value = Some (record { version = version; queue = queue }) };
  address = record { write = Some (s, address) };
  seen = record { write = Some (s, seen) };
  lifetime = record { write = Some (s, settings.lifetime) };
  binding = record { write = Some (s, settings.binding) };
  sms = record { write = Some (s, settings.sms) };
  objects = record { write = Some (s, settings.objects) };
  ended = record { value = None };
  maps = maps_of (writes_of s settings.attributes) no_watches;
})
told_of s (Update address seen settings) = Here (record {
  base = record { value = None };
  address = record { write = Some (s, address) };
  seen = record { write = Some (s, seen) };
  lifetime = record { write = write_of s settings.lifetime };
  binding = record { write = write_of s settings.binding };
  sms = record { write = write_of s (some_text settings.sms) };
  objects = record { write = write_of s settings.objects };
  ended = record { value = None };
  maps = maps_of (writes_of s settings.attributes) no_watches;
})
told_of s Remove = Gone
told_of s (Observe path accept) = Here (maps_alone (maps_of no_attributes (one_watch path (observed s accept))))
told_of s (Cancel path token) = Here (maps_alone (maps_of no_attributes (one_watch path (cancelled token))))
told_of s (Expire upto) = Here (ended_alone upto)

abbrev pub slot_of : Op → Slot
slot_of o = slot_at o.reg (told_of o.stamp o.what)

-- the slot of an Expire: what was seen of the registration up to the stamp is over
abbrev pub ending : Stamp → Stamp → Slot
ending r upto = slot_at r (Here (ended_alone upto))
