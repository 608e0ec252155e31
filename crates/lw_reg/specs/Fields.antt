-- The slot that is put together from its fields.
use Rattle.std.specs.Prelude.{Option, Some, None}
use Rattle.lw_stamp.specs.declared.stamp.Stamp.{Stamp}
use Rattle.lw_join.specs.declared.or_gone.OrGone.{OrGone}
use Rattle.lw_join.specs.declared.or_gone.OrGone.TheVariants.{Here, Gone}
use Rattle.lw_reg.specs.declared.body.Body.{Body}
use Rattle.lw_reg.specs.declared.fields.Fields.{Fields}
use Rattle.lw_reg.specs.declared.slot.Slot.{Slot}
use Rattle.lw_reg.specs.Body.{maps_of}
use Rattle.lw_reg.specs.Slot.{slot_at}

abbrev pub fields_body : Fields → Body
fields_body f = record {
  base = record { value = f.writes.base };
  address = record { write = f.writes.address };
  seen = record { write = f.writes.seen };
  lifetime = record { write = f.writes.lifetime };
  binding = record { write = f.writes.binding };
  sms = record { write = f.writes.sms };
  objects = record { write = f.writes.objects };
  ended = record { value = f.ended };
  maps = maps_of f.attributes f.watches;
}

abbrev pub told_fields : Option Fields → OrGone Body
told_fields None = Gone
told_fields (Some f) = Here (fields_body f)

-- of a removed registration there are no fields
abbrev pub slot_of_fields : Stamp → Option Fields → Slot
slot_of_fields stamp fields = slot_at stamp (told_fields fields)
