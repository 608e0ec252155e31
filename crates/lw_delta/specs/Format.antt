-- The format of a delta, part by part. Numbers are big-endian.
use Rattle.std.specs.Prelude.{◌≡◌, ℕ, zero, suc, ◌-◌, ◌≤◌, ◌⊎◌, ◌==◌, Bool, true, false, List, [], ◌∷◌, ◌++◌, length, Option, None, IsTrue, IsUtf8}
use Rattle.std.specs.Int.{w16, w32, w64, from_be_bytes}
use Rattle.lw_stamp.specs.declared.stamp.Stamp.{Stamp}
use Rattle.lw_stamp.specs.declared.moment.Moment.{Moment}
use Rattle.lw_stamp.specs.Moment.{ms_of}
use Rattle.lw_stamp.specs.Stamp.{stamp_bytes}
use Rattle.lw_stamp.specs.StampBytes.{counter_in}
use Rattle.lw_stamp.specs.TextOrder.{text_cmp}
use Rattle.lw_join.specs.declared.last.Last.{Last}
use Rattle.lw_link.specs.WellFormed.{IsPrinting}
use Rattle.lw_reg.specs.declared.addr.Addr.{Addr}
use Rattle.lw_reg.specs.declared.addr.Addr.TheVariants.{V4, V6}
use Rattle.lw_reg.specs.declared.base.Base.{Base}
use Rattle.lw_reg.specs.declared.binding.Binding.{Binding}
use Rattle.lw_reg.specs.declared.path.Path.{Path}
use Rattle.lw_reg.specs.declared.slot.Slot.{Slot}
use Rattle.lw_reg.specs.Attribute.{is_attribute_name}
use Rattle.lw_reg.specs.Binding.{binding_text}
use Rattle.lw_reg.specs.BindingText.{IsBindingText}
use Rattle.lw_reg.specs.Body.{Watching}
use Rattle.lw_reg.specs.Orders.{path_cmp}
use Rattle.lw_reg.specs.Path.{path_numbers}
use Rattle.lw_delta.specs.declared.form.Form.{Form}
use Rattle.lw_delta.specs.declared.fault.DeltaFault.TheVariants.{Magic, Order, Range, Text, ClockBelow}
use Rattle.lw_delta.specs.Form.{magic_of, has_attributes, has_end}
use Rattle.lw_delta.specs.Order.{IsAbove}
use Rattle.lw_delta.specs.Part.{Part, byte, bytes_of, means, gives, must, followed, when, optional, repeated}
use Rattle.lw_delta.specs.Values.{is_set, base_in, FieldContent, Behind, slot_from, list_or_none, end_from, watching_from}

-- ---- numbers
abbrev pub number16 : Part ℕ
number16 = followed (bytes_of 2) (λ bytes. gives (from_be_bytes w16 bytes))

abbrev pub number32 : Part ℕ
number32 = followed (bytes_of 4) (λ bytes. gives (from_be_bytes w32 bytes))

abbrev pub number48 : Part ℕ
number48 = followed (bytes_of 6) (λ bytes. gives (from_be_bytes w64 (0 ∷ 0 ∷ bytes)))

-- ---- stamps
-- eight bytes; the counter is neither 0 nor above the clock
abbrev pub stamp : ℕ → Part Stamp
stamp clock = followed (bytes_of 8) (λ bytes.
    must (1 ≤ counter_in bytes) Range (
    must (counter_in bytes ≤ clock) ClockBelow (
    means (λ (s : Stamp). stamp_bytes s ≡ bytes))))

-- a stamp, and a value that the operation of the stamp wrote
abbrev pub written : {A : Type 0} → ℕ → Part A → Part (Stamp × A)
written {A} clock part = followed (stamp clock) (λ s. followed part (λ value. gives (s, value)))

-- ---- the values of fields
abbrev pub base : Part Base
base = followed byte (λ bits. must (bits ≤ 3) Range (gives (base_in bits)))

abbrev pub v4 : Part Addr
v4 = followed (bytes_of 4) (λ address. followed number16 (λ port. gives (V4 address port)))

abbrev pub v6 : Part Addr
v6 = followed (bytes_of 16) (λ address. followed number16 (λ port. gives (V6 address port)))

abbrev pub host : Bool → Part Addr
host true = v4
host false = v6

abbrev pub address : Part Addr
address = followed byte (λ family. must ((family ≡ 4) ⊎ (family ≡ 6)) Range (host (family == 4)))

abbrev pub moment : Part Moment
moment = followed number48 (λ ms. means (λ (m : Moment). ms_of m ≡ ms))

-- letters A to Z, 1 to 8 of them
abbrev pub binding : Part Binding
binding = followed byte (λ count. must ((1 ≤ count) × (count ≤ 8)) Range (
    followed (bytes_of count) (λ text. must (IsBindingText text) Text (
    means (λ (b : Binding). binding_text b ≡ text)))))

-- so many bytes of UTF-8
abbrev pub text : ℕ → Part (List ℕ)
text count = followed (bytes_of count) (λ bytes. must (IsUtf8 bytes) Text (gives bytes))

-- at most 251 bytes of UTF-8
abbrev pub sms_number : Part (List ℕ)
sms_number = followed byte (λ count. must (count ≤ 251) Range (text count))

-- a printing of 1 to 256 links, of at most 8192 bytes
abbrev pub objects : Part (List ℕ)
objects = followed number16 (λ count. must ((1 ≤ count) × (count ≤ 8192)) Range (
    followed (bytes_of count) (λ text. must (IsPrinting text) Text (gives text))))

-- ---- attributes
-- 1 to 255 bytes of UTF-8, the name of an attribute, above the name before
abbrev pub attribute_name : Option (List ℕ) → Part (List ℕ)
attribute_name after = followed byte (λ count. must (1 ≤ count) Range (
    followed (text count) (λ name. must (IsTrue (is_attribute_name name)) Text (must (IsAbove text_cmp after name) Order (gives name)))))

-- what a query of 255 bytes has room for behind the name and `=`
abbrev pub attribute_value : List ℕ → Part (List ℕ)
attribute_value name = followed byte (λ count. must (count ≤ 254 - length name) Range (text count))

abbrev pub attribute : ℕ → Option (List ℕ) → Part (List ℕ × Last (List ℕ))
attribute clock after = followed (attribute_name after) (λ name. followed (written clock (attribute_value name)) (λ w. gives (name, record { write = w })))

abbrev pub attributes : ℕ → Part (List (List ℕ × Last (List ℕ)))
attributes clock = repeated (attribute clock) (λ a. a.0) None

-- ---- ends
-- the stamp up to which what was seen of the registration is over, where it is
abbrev pub ended : ℕ → Part (Option Stamp)
ended clock = optional (stamp clock)

-- ---- watches
abbrev pub path_number : Part ℕ
path_number = followed number16 (λ number. must (number ≤ 65534) Range (gives number))

abbrev pub numbers : ℕ → Part (List ℕ)
numbers zero = gives []
numbers (suc count) = followed (numbers count) (λ front. followed path_number (λ number. gives (front ++ number ∷ [])))

-- 1 to 4 numbers, above the path before
abbrev pub path : Option Path → Part Path
path after = followed byte (λ count. must ((1 ≤ count) × (count ≤ 4)) Range (
    followed (numbers count) (λ ns.
    followed (means (λ (p : Path). path_numbers p ≡ ns)) (λ p. must (IsAbove path_cmp after p) Order (gives p)))))

abbrev pub watch : ℕ → Option Path → Part (Path × Watching)
watch clock after = followed (path after) (λ p. followed (stamp clock) (λ token.
    followed byte (λ flags. must ((1 ≤ flags) × (flags ≤ 3)) Range (
    followed (when (is_set flags 1) (optional number16)) (λ accept.
    gives (p, watching_from token (is_set flags 2) accept))))))

abbrev pub watches : ℕ → Part (List (Path × Watching))
watches clock = repeated (watch clock) (λ w. w.0) None

-- what stands behind the fields of a slot, by the format
abbrev pub behind : Form → ℕ → Part Behind
behind form clock = followed (when (has_attributes form) (attributes clock)) (λ es. followed (when (has_end form) (ended clock)) (λ said.
    followed (watches clock) (λ ws. gives (record { attributes = list_or_none es; ended = end_from said; watches = ws }))))

-- ---- slots
-- 1 to 252 bytes of UTF-8, above the endpoint before
abbrev pub endpoint : Option (List ℕ) → Part (List ℕ)
endpoint after = followed byte (λ count. must ((1 ≤ count) × (count ≤ 252)) Range (
    followed (text count) (λ name. must (IsAbove text_cmp after name) Order (gives name))))

-- the fields whose flags are set
abbrev pub fields : ℕ → ℕ → Part FieldContent
fields clock flags =
    followed (when (is_set flags 1) base) (λ base.
    followed (when (is_set flags 2) (written clock address)) (λ address.
    followed (when (is_set flags 4) (written clock moment)) (λ seen.
    followed (when (is_set flags 8) (written clock number32)) (λ lifetime.
    followed (when (is_set flags 16) (written clock binding)) (λ binding.
    followed (when (is_set flags 32) (written clock (optional sms_number))) (λ sms.
    followed (when (is_set flags 64) (written clock objects)) (λ objects.
    gives (record { base = base; address = address; seen = seen; lifetime = lifetime; binding = binding; sms = sms; objects = objects }))))))))

-- what stands behind the endpoint and the stamp of the registration
abbrev pub slot : Form → ℕ → Option (List ℕ) → Part (List ℕ × Slot)
slot form clock after = followed (endpoint after) (λ e. followed (stamp clock) (λ registration.
    followed byte (λ flags. followed (fields clock flags) (λ kept. followed (behind form clock) (λ more.
    gives (e, slot_from registration (is_set flags 128) kept more))))))

abbrev pub slots : Form → ℕ → Part (List (List ℕ × Slot))
slots form clock = repeated (slot form clock) (λ s. s.0) None

-- the four bytes of a format
abbrev pub magic : Part Form
magic = followed (bytes_of 4) (λ bytes. must ((form : Form) × (magic_of form ≡ bytes)) Magic (means (λ (form : Form). magic_of form ≡ bytes)))

-- the format, and the clock
abbrev pub header : Part (Form × ℕ)
header = followed magic (λ form. followed number48 (λ clock. gives (form, clock)))

abbrev pub delta : Part (ℕ × List (List ℕ × Slot))
delta = followed header (λ h. followed (slots h.0 h.1) (λ ss. gives (h.1, ss)))
