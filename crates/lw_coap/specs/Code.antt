-- The number of a code that is written class.detail (RFC 7252, section 3).
use Rattle.std.specs.Prelude.{ℕ, ◌+◌, ◌*◌}

-- the class in the upper three bits, the detail in the lower five
abbrev pub code_of : ℕ → ℕ → ℕ
code_of class detail = 32 * class + detail
