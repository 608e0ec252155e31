-- The bytes of a delta, part by part. A removed registration is a flag byte alone, and so is a cancelled watch.
use Rattle.std.specs.Prelude.{◌≡◌, ℕ, ◌+◌, Bool, true, false, if◌then◌else◌, is_some, List, [], ◌∷◌, ◌++◌, length, drop, Option, Some, None}
use Rattle.std.specs.Int.{w16, w32, w64, to_be_bytes}
use Rattle.lw_stamp.specs.declared.stamp.Stamp.{Stamp}
use Rattle.lw_stamp.specs.declared.moment.Moment.{Moment}
use Rattle.lw_stamp.specs.Moment.{ms_of}
use Rattle.lw_stamp.specs.Stamp.{stamp_bytes}
use Rattle.lw_join.specs.declared.last.Last.{Last}
use Rattle.lw_join.specs.declared.once.Once.{Once}
use Rattle.lw_join.specs.declared.or_gone.OrGone.{OrGone}
use Rattle.lw_join.specs.declared.or_gone.OrGone.TheVariants.{Here, Gone}
use Rattle.lw_reg.specs.declared.addr.Addr.{Addr}
use Rattle.lw_reg.specs.declared.addr.Addr.TheVariants.{V4, V6}
use Rattle.lw_reg.specs.declared.base.Base.{Base}
use Rattle.lw_reg.specs.declared.binding.Binding.{Binding}
use Rattle.lw_reg.specs.declared.body.Body.{Body}
use Rattle.lw_reg.specs.declared.path.Path.{Path}
use Rattle.lw_reg.specs.declared.slot.Slot.{Slot}
use Rattle.lw_reg.specs.declared.version.Version.{Version}
use Rattle.lw_reg.specs.declared.version.Version.TheVariants.{V10, V11}
use Rattle.lw_reg.specs.Binding.{binding_text}
use Rattle.lw_reg.specs.Body.{Watching}
use Rattle.lw_reg.specs.Path.{path_numbers}
use Rattle.lw_reg.specs.Reading.{stamp_of, base_of, address_of, seen_of, lifetime_of, binding_of, sms_of, objects_of}
use Rattle.lw_delta.specs.declared.form.Form.{Form}
use Rattle.lw_delta.specs.Form.{magic_of, has_attributes, has_end, latest}
use Rattle.lw_delta.specs.Values.{Behind, behind_of}

-- the bytes begin with these
pub record Begins (front bytes : List ℕ) : Type 0 where
  pub more : List ℕ
  pub is : bytes ≡ front ++ more

abbrev pub number16_bytes : ℕ → List ℕ
number16_bytes n = to_be_bytes w16 n

abbrev pub number48_bytes : ℕ → List ℕ
number48_bytes n = drop 2 (to_be_bytes w64 n)

-- 00, or 01 and the value
abbrev pub optional_bytes : {A : Type 0} → (A → List ℕ) → Option A → List ℕ
optional_bytes bytes None = 0 ∷ []
optional_bytes bytes (Some value) = 1 ∷ bytes value

-- nothing, or the value
abbrev pub present_bytes : {A : Type 0} → (A → List ℕ) → Option A → List ℕ
present_bytes bytes None = []
present_bytes bytes (Some value) = bytes value

-- nothing, or the stamp and the value
abbrev pub written_bytes : {A : Type 0} → (A → List ℕ) → Option (Stamp × A) → List ℕ
written_bytes bytes = present_bytes (λ write. stamp_bytes write.0 ++ bytes write.1)

abbrev pub version_bit : Version → ℕ
version_bit V10 = 0
version_bit V11 = 1

abbrev pub base_byte : Base → ℕ
base_byte base = version_bit base.version + (if base.queue then 2 else 0)

abbrev pub base_bytes : Option Base → List ℕ
base_bytes = present_bytes (λ base. base_byte base ∷ [])

abbrev pub addr_bytes : Addr → List ℕ
addr_bytes (V4 address port) = 4 ∷ (address ++ number16_bytes port)
addr_bytes (V6 address port) = 6 ∷ (address ++ number16_bytes port)

abbrev pub moment_bytes : Moment → List ℕ
moment_bytes moment = number48_bytes (ms_of moment)

abbrev pub number32_bytes : ℕ → List ℕ
number32_bytes n = to_be_bytes w32 n

-- a length of one byte, and the text
abbrev pub text_bytes : List ℕ → List ℕ
text_bytes text = length text ∷ text

abbrev pub binding_bytes : Binding → List ℕ
binding_bytes b = text_bytes (binding_text b)

abbrev pub sms_bytes : Option (List ℕ) → List ℕ
sms_bytes = optional_bytes text_bytes

abbrev pub objects_bytes : List ℕ → List ℕ
objects_bytes text = number16_bytes (length text) ++ text

abbrev pub numbers_bytes : List ℕ → List ℕ
numbers_bytes [] = []
numbers_bytes (n ∷ ns) = number16_bytes n ++ numbers_bytes ns

abbrev pub path_bytes : Path → List ℕ
path_bytes path = length (path_numbers path) ∷ numbers_bytes (path_numbers path)

abbrev pub accept_bytes : OrGone (Once ℕ) → List ℕ
accept_bytes (Here accept) = 1 ∷ optional_bytes number16_bytes accept.value
accept_bytes Gone = 2 ∷ []

abbrev pub watch_bytes : Path × Watching → List ℕ
watch_bytes w = path_bytes w.0 ++ (stamp_bytes w.1.stamp ++ accept_bytes w.1.value)

-- each behind 01, up to a 00
abbrev pub repeated_bytes : {A : Type 0} → (A → List ℕ) → List A → List ℕ
repeated_bytes bytes [] = 0 ∷ []
repeated_bytes bytes (x ∷ xs) = 1 ∷ (bytes x ++ repeated_bytes bytes xs)

abbrev pub watches_bytes : List (Path × Watching) → List ℕ
watches_bytes ws = repeated_bytes watch_bytes ws

abbrev pub attribute_bytes : List ℕ × Last (List ℕ) → List ℕ
attribute_bytes a = text_bytes a.0 ++ (stamp_bytes a.1.write.0 ++ text_bytes a.1.write.1)

-- nothing, where the format has no attributes
abbrev pub attributes_bytes : Bool → List (List ℕ × Last (List ℕ)) → List ℕ
attributes_bytes true attributes = repeated_bytes attribute_bytes attributes
attributes_bytes false attributes = []

-- nothing, where the format has no end
abbrev pub ended_bytes : Bool → Option Stamp → List ℕ
ended_bytes true ended = optional_bytes stamp_bytes ended
ended_bytes false ended = []

-- what stands behind the fields of a slot
abbrev pub behind_bytes : Form → Behind → List ℕ
behind_bytes form more = attributes_bytes (has_attributes form) more.attributes ++ (ended_bytes (has_end form) more.ended ++ watches_bytes more.watches)

abbrev pub flag_if : ℕ → Bool → ℕ
flag_if flag set = if set then flag else 0

-- the flags of the fields that are there
abbrev pub field_flags : Slot → ℕ
field_flags slot =
    flag_if 1 (is_some (base_of slot)) + flag_if 2 (is_some (address_of slot)) + flag_if 4 (is_some (seen_of slot)) + flag_if 8 (is_some (lifetime_of slot))
    + flag_if 16 (is_some (binding_of slot)) + flag_if 32 (is_some (sms_of slot)) + flag_if 64 (is_some (objects_of slot))

abbrev pub flags_told : OrGone Body → ℕ → ℕ
flags_told Gone flags = 128
flags_told (Here body) flags = flags

abbrev pub flags_byte : Slot → ℕ
flags_byte slot = flags_told slot.registration.value (field_flags slot)

abbrev pub fields_bytes : Slot → List ℕ
fields_bytes slot =
    base_bytes (base_of slot) ++ (written_bytes addr_bytes (address_of slot) ++ (written_bytes moment_bytes (seen_of slot) ++ (written_bytes number32_bytes (lifetime_of slot)
    ++ (written_bytes binding_bytes (binding_of slot) ++ (written_bytes sms_bytes (sms_of slot) ++ written_bytes objects_bytes (objects_of slot))))))

-- a slot behind its 01
abbrev pub slot_bytes : Form → List ℕ × Slot → List ℕ
slot_bytes form s = text_bytes s.0 ++ (stamp_bytes (stamp_of s.1) ++ (flags_byte s.1 ∷ (fields_bytes s.1 ++ behind_bytes form (behind_of s.1))))

abbrev pub slots_bytes : Form → List (List ℕ × Slot) → List ℕ
slots_bytes form [] = []
slots_bytes form (s ∷ ss) = 1 ∷ (slot_bytes form s ++ slots_bytes form ss)

-- ---- by the format
-- what stands before the end
abbrev pub begun_bytes_in : Form → ℕ → List (List ℕ × Slot) → List ℕ
begun_bytes_in form clock slots = (magic_of form ++ number48_bytes clock) ++ slots_bytes form slots

abbrev pub delta_bytes_in : Form → ℕ → List (List ℕ × Slot) → List ℕ
delta_bytes_in form clock slots = begun_bytes_in form clock slots ++ 0 ∷ []

-- ---- in the format that is written
abbrev pub begun_bytes : ℕ → List (List ℕ × Slot) → List ℕ
begun_bytes clock slots = begun_bytes_in latest clock slots

abbrev pub delta_bytes : ℕ → List (List ℕ × Slot) → List ℕ
delta_bytes clock slots = delta_bytes_in latest clock slots
