-- The bytes of a slot up to its fields.
use Rattle.std.specs.Prelude.{ℕ, ◌+◌, List, [], ◌∷◌, ◌++◌}
use Rattle.lw_stamp.specs.Stamp.{stamp_bytes}
use Rattle.lw_reg.specs.declared.slot.Slot.{Slot}
use Rattle.lw_reg.specs.Reading.{stamp_of}
use Rattle.lw_delta.specs.Writing.{text_bytes, flags_byte}

-- what stands before the fields of a slot: 01, its endpoint, the stamp of its registration and its flags
abbrev pub slot_head_bytes : List ℕ × Slot → List ℕ
slot_head_bytes s = 1 ∷ (text_bytes s.0 ++ (stamp_bytes (stamp_of s.1) ++ flags_byte s.1 ∷ []))
