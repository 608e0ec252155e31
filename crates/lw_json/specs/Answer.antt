-- What is printed of one datagram: the reply in hex (RFC 4648, section 8), and the registration.
use Rattle.std.specs.Prelude.{ℕ, List, [], ◌∷◌, ◌++◌, Option, Some, None, codes}
use Rattle.hex.specs.Hex.{encode_lower}
use Rattle.serde_json.specs.Written.{compact_text}
use Rattle.lw_reg.specs.Registration.{Registration}
use Rattle.lw_json.specs.Json.{registration_json}

-- the reply in lower-case hex, or a hyphen where there is none
abbrev pub reply_text : Option (List ℕ) → List ℕ
reply_text None = codes "-"
reply_text (Some bytes) = encode_lower bytes

-- the line of a registration, if there is one
abbrev pub shown_lines : Option Registration → List ℕ
shown_lines None = []
shown_lines (Some shown) = compact_text (registration_json shown) ++ 10 ∷ []

-- the line of the reply, and that of the registration
abbrev pub answer_text : Option (List ℕ) → Option Registration → List ℕ
answer_text reply shown = reply_text reply ++ 10 ∷ [] ++ shown_lines shown
