-- What the bytes of a delta stand for.
use Rattle.std.specs.Prelude.{ℕ, ◌/◌, ◌%◌, ◌==◌, nat_lt, Bool, if◌then◌else◌, List, [], Option, Some, None, bit_and}
use Rattle.lw_stamp.specs.declared.stamp.Stamp.{Stamp}
use Rattle.lw_join.specs.declared.last.Last.{Last}
use Rattle.lw_join.specs.Parts.{made}
use Rattle.lw_reg.specs.declared.base.Base.{Base}
use Rattle.lw_reg.specs.declared.fields.FieldWrites.{FieldWrites}
use Rattle.lw_reg.specs.declared.fields.Fields.{Fields}
use Rattle.lw_reg.specs.declared.path.Path.{Path}
use Rattle.lw_reg.specs.declared.slot.Slot.{Slot}
use Rattle.lw_reg.specs.declared.version.Version.TheVariants.{V10, V11}
use Rattle.lw_reg.specs.Body.{Watching}
use Rattle.lw_reg.specs.Fields.{slot_of_fields}
use Rattle.lw_reg.specs.Reading.{attributes_of, ended_of, watches_of}
use Rattle.lw_reg.specs.Slot.{observed, cancelled}

abbrev pub is_set : ℕ → ℕ → Bool
is_set flags flag = nat_lt 0 (bit_and flags flag)

-- bit 0 for version 1.1, bit 1 for queue mode
abbrev pub base_in : ℕ → Base
base_in bits = record { version = if bits % 2 == 1 then V11 else V10; queue = bits / 2 == 1 }

-- what a slot has behind its fields
pub record Behind : Type 0 where
  pub attributes : List (List ℕ × Last (List ℕ))
  pub ended : Option Stamp
  pub watches : List (Path × Watching)

abbrev pub behind_of : Slot → Behind
behind_of slot = record { attributes = attributes_of slot; ended = ended_of slot; watches = watches_of slot }

-- the fields of a registration but for what stands behind them
abbrev pub FieldContent : Type 0
FieldContent = FieldWrites (List ℕ) (List ℕ)

abbrev pub all_fields : FieldContent → Behind → Fields
all_fields f behind = record { writes = f; attributes = made behind.attributes; ended = behind.ended; watches = made behind.watches }

-- of a removed registration none of it is kept
abbrev pub fields_from : Bool → FieldContent → Behind → Option Fields
fields_from removed f behind = if removed then None else Some (all_fields f behind)

abbrev pub slot_from : Stamp → Bool → FieldContent → Behind → Slot
slot_from stamp removed f behind = slot_of_fields stamp (fields_from removed f behind)

abbrev pub list_or_none : {A : Type 0} → Option (List A) → List A
list_or_none None = []
list_or_none (Some xs) = xs

abbrev pub end_from : Option (Option Stamp) → Option Stamp
end_from None = None
end_from (Some ended) = ended

abbrev pub accept_from : Option (Option ℕ) → Option ℕ
accept_from None = None
accept_from (Some accept) = accept

-- of a cancelled watch the token alone is kept
abbrev pub watching_from : Stamp → Bool → Option (Option ℕ) → Watching
watching_from token gone accept = if gone then cancelled token else observed token (accept_from accept)
