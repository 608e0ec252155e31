-- The formats of a delta: each begins with its own four bytes, and a later one has more in a slot.
use Rattle.std.specs.Prelude.{ℕ, Bool, true, false, List, codes}
use Rattle.lw_delta.specs.declared.form.Form.{Form}
use Rattle.lw_delta.specs.declared.form.Form.TheVariants.{First, Second, Third}

-- the four bytes of a format
abbrev pub magic_of : Form → List ℕ
magic_of First = codes "LWD1"
magic_of Second = codes "LWD2"
magic_of Third = codes "LWD3"

-- a slot has attributes
abbrev pub has_attributes : Form → Bool
has_attributes First = false
has_attributes Second = true
has_attributes Third = true

-- a slot tells up to which stamp what was seen of it is over
abbrev pub has_end : Form → Bool
has_end First = false
has_end Second = false
has_end Third = true

-- the one that is written
abbrev pub latest : Form
latest = Third
