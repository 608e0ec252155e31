-- The codes of the replies that a server gives, and how a code is written.
use Rattle.std.specs.Prelude.{ℕ, ◌/◌, ◌%◌, List, [], ◌∷◌, ◌++◌}
use Rattle.std.specs.Fmt.{decimal}
use Rattle.lw_coap.specs.Code.{code_of}

-- a code for each way to answer a request (LwM2M 1.1 Transport, section 6.4; RFC 7252, section 5.9)
abbrev pub reply_codes : List ℕ
reply_codes =
    code_of 2 1 ∷ code_of 2 2 ∷ code_of 2 4
    ∷ code_of 4 0 ∷ code_of 4 2 ∷ code_of 4 4 ∷ code_of 4 5 ∷ code_of 4 12 ∷ code_of 4 13 ∷ code_of 4 15
    ∷ code_of 5 3 ∷ code_of 5 5 ∷ []

-- class, a dot, and two digits of the detail
unfoldable pub code_text : ℕ → List ℕ
code_text code = decimal (code / 32) ++ (46 ∷ (decimal (code % 32 / 10) ++ decimal (code % 32 % 10)))
