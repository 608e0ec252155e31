-- The parts of which the fields of a slot, and a slot, are put together.
use Rattle.std.proofs.Common.{◌≡◌, ℕ, List, [], Option, Some, None, IfSome, refl, sym, subst}
use Rattle.lw_stamp.specs.declared.stamp.Stamp.{Stamp}
use Rattle.lw_join.specs.declared.last.Last.{Last}
use Rattle.lw_reg.specs.declared.slot.Slot.{Slot}
use Rattle.lw_delta.specs.declared.form.Form.{Form}
use Rattle.lw_delta.specs.Form.{has_attributes, has_end}
use Rattle.lw_delta.specs.Part.{Found, byte, means, followed, when, optional}
use Rattle.lw_delta.specs.Format.{number32, stamp, written, base as base_part, address as address_part, moment, binding as binding_part, sms_number, objects as objects_part, attributes as attributes_part, ended as ended_part, watches as watches_part, behind, endpoint, fields, slot}
use Rattle.lw_delta.specs.Values.{is_set, FieldContent, Behind, slot_from, list_or_none, end_from}
use Rattle.lw_delta.proofs.Kept.{Each, when_each, optional_each}

-- each field where its flag is set, one behind the other
pub record FieldsAt (clock flags : ℕ) (bytes : List ℕ) (k : FieldContent) (rest : List ℕ) : Type 0 where
  pub behind_base : List ℕ
  pub behind_address : List ℕ
  pub behind_seen : List ℕ
  pub behind_lifetime : List ℕ
  pub behind_binding : List ℕ
  pub behind_sms : List ℕ
  pub base : Found (when (is_set flags 1) base_part) bytes k.base behind_base
  pub address : Found (when (is_set flags 2) (written clock address_part)) behind_base k.address behind_address
  pub seen : Found (when (is_set flags 4) (written clock moment)) behind_address k.seen behind_seen
  pub lifetime : Found (when (is_set flags 8) (written clock number32)) behind_seen k.lifetime behind_lifetime
  pub binding : Found (when (is_set flags 16) (written clock binding_part)) behind_lifetime k.binding behind_binding
  pub sms : Found (when (is_set flags 32) (written clock (optional sms_number))) behind_binding k.sms behind_sms
  pub objects : Found (when (is_set flags 64) (written clock objects_part)) behind_sms k.objects rest

pub fields_at : (clock flags : ℕ) (bytes : List ℕ) (k : FieldContent) (rest : List ℕ) → Found (fields clock flags) bytes k rest → FieldsAt clock flags bytes k rest
unfolding followed means
fields_at clock flags bytes k rest f =
    let a = f.is.3.is in
    let s = a.3.is in
    let l = s.3.is in
    let b = l.3.is in
    let n = b.3.is in
    let o = n.3.is in
    let last = o.3.is in
    subst (λ x. FieldsAt clock flags bytes x rest) (sym last.1) (record {
      behind_base = f.is.1;
      behind_address = a.1;
      behind_seen = s.1;
      behind_lifetime = l.1;
      behind_binding = b.1;
      behind_sms = n.1;
      base = f.is.2;
      address = a.2;
      seen = s.2;
      lifetime = l.2;
      binding = b.2;
      sms = n.2;
      objects = subst (λ (x : List ℕ). Found (when (is_set flags 64) (written clock objects_part)) n.1 o.0 x) last.0 o.2;
    })

-- what stands behind the fields, part by part
pub record BehindAt (form : Form) (clock : ℕ) (bytes : List ℕ) (more : Behind) (rest : List ℕ) : Type 0 where
  pub there : Option (List (List ℕ × Last (List ℕ)))
  pub behind_attributes : List ℕ
  pub attributes : Found (when (has_attributes form) (attributes_part clock)) bytes there behind_attributes
  pub said : Option (Option Stamp)
  pub behind_end : List ℕ
  pub ended : Found (when (has_end form) (ended_part clock)) behind_attributes said behind_end
  pub watches : Found (watches_part clock) behind_end more.watches rest
  pub same : more.attributes ≡ list_or_none there
  pub same_end : more.ended ≡ end_from said

pub behind_at : (form : Form) (clock : ℕ) (bytes : List ℕ) (more : Behind) (rest : List ℕ) → Found (behind form clock) bytes more rest → BehindAt form clock bytes more rest
unfolding followed means
behind_at form clock bytes more rest f =
    let o = f.is.3.is in
    let ws = o.3.is in
    let last = ws.3.is in
    subst (λ x. BehindAt form clock bytes x rest) (sym last.1) (record {
      there = f.is.0;
      behind_attributes = f.is.1;
      attributes = f.is.2;
      said = o.0;
      behind_end = o.1;
      ended = o.2;
      watches = subst (λ (x : List ℕ). Found (watches_part clock) o.1 ws.0 x) last.0 ws.2;
      same = refl;
      same_end = refl;
    })

none_or_each : {A : Type 0} (P : List A → Type 0) → P [] → (o : Option (List A)) → IfSome o P → P (list_or_none o)
none_or_each P none None h = none
none_or_each P none (Some xs) h = h

-- what holds of attributes, and of none, holds of those that stand behind the fields
pub attributes_each : (form : Form) (clock : ℕ) (P : List (List ℕ × Last (List ℕ)) → Type 0) → P [] → Each (attributes_part clock) P → Each (behind form clock) (λ more. P more.attributes)
attributes_each form clock P none each bytes more rest f =
    let parts = behind_at form clock bytes more rest f in
    subst P (sym parts.same) (none_or_each P none parts.there (when_each (attributes_part clock) P each (has_attributes form) bytes parts.there parts.behind_attributes parts.attributes))

said_each : (P : Stamp → Type 0) (o : Option (Option Stamp)) → IfSome o (λ said. IfSome said P) → IfSome (end_from o) P
said_each P None h = tt
said_each P (Some said) h = h

-- what holds of stamps holds of the one up to which it is over
pub ended_each : (form : Form) (clock : ℕ) (P : Stamp → Type 0) → Each (stamp clock) P → Each (behind form clock) (λ more. IfSome more.ended P)
ended_each form clock P each bytes more rest f =
    let parts = behind_at form clock bytes more rest f in
    subst (λ o. IfSome o P) (sym parts.same_end)
    (said_each P parts.said (when_each (ended_part clock) (λ o. IfSome o P) (optional_each (stamp clock) P each) (has_end form) parts.behind_attributes parts.said parts.behind_end parts.ended))

-- the endpoint, the stamp of the registration, the flags, the fields and what stands behind them
pub record SlotAt (form : Form) (clock : ℕ) (after : Option (List ℕ)) (bytes : List ℕ) (s : List ℕ × Slot) (rest : List ℕ) : Type 0 where
  pub name : List ℕ
  pub registration : Stamp
  pub flags : ℕ
  pub kept : FieldContent
  pub more : Behind
  pub behind_name : List ℕ
  pub behind_registration : List ℕ
  pub behind_flags : List ℕ
  pub behind_fields : List ℕ
  pub named : Found (endpoint after) bytes name behind_name
  pub stamped : Found (stamp clock) behind_name registration behind_registration
  pub flagged : Found byte behind_registration flags behind_flags
  pub fielded : Found (fields clock flags) behind_flags kept behind_fields
  pub ended : Found (behind form clock) behind_fields more rest
  pub same : s ≡ (name, slot_from registration (is_set flags 128) kept more)

pub slot_at : (form : Form) (clock : ℕ) (after : Option (List ℕ)) (bytes : List ℕ) (s : List ℕ × Slot) (rest : List ℕ) → Found (slot form clock after) bytes s rest → SlotAt form clock after bytes s rest
unfolding followed means
slot_at form clock after bytes s rest f =
    let r = f.is.3.is in
    let flags = r.3.is in
    let k = flags.3.is in
    let b = k.3.is in
    let last = b.3.is in
    record {
      name = f.is.0;
      registration = r.0;
      flags = flags.0;
      kept = k.0;
      more = b.0;
      behind_name = f.is.1;
      behind_registration = r.1;
      behind_flags = flags.1;
      behind_fields = k.1;
      named = f.is.2;
      stamped = r.2;
      flagged = flags.2;
      fielded = k.2;
      ended = subst (λ (x : List ℕ). Found (behind form clock) k.1 b.0 x) last.0 b.2;
      same = last.1;
    }
