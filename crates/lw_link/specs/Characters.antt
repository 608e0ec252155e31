-- The characters of each place in a list of links (a profile of RFC 6690, section 2), by their numbers in
-- Unicode.
use Rattle.std.specs.Prelude.{ℕ, Bool, true, false, not, ◌&&◌, ◌||◌, ◌==◌, nat_le, ◌≡◌, List, [], ◌∷◌}
use Rattle.lw_link.specs.declared.style.Style.{Style}
use Rattle.lw_link.specs.declared.style.Style.TheVariants.{Any, Printed}

-- U+0021 to U+007E
abbrev pub is_visible : ℕ → Bool
is_visible c = nat_le 33 c && nat_le c 126

-- a visible character without `<` and `>`
abbrev pub is_target_char : ℕ → Bool
is_target_char c = is_visible c && not (c == 60) && not (c == 62)

-- A to Z, a to z, 0 to 9, `-`, `.`, `_`, `*`
abbrev pub is_name_char : ℕ → Bool
is_name_char c = (nat_le 65 c && nat_le c 90) || ((nat_le 97 c && nat_le c 122) || ((nat_le 48 c && nat_le c 57) || (c == 45 || (c == 46 || (c == 95 || c == 42)))))

-- a visible character without `"`, `,`, `;` and `\`
abbrev pub is_plain_char : ℕ → Bool
is_plain_char c = is_visible c && not (c == 34) && not (c == 44) && not (c == 59) && not (c == 92)

-- no character below U+0020, and not U+007F
abbrev pub is_shown : ℕ → Bool
is_shown c = nat_le 32 c && not (c == 127)

-- a character that stands for itself between quotes: one that is shown, without `"` and `\`
abbrev pub is_quoted_char : ℕ → Bool
is_quoted_char c = is_shown c && not (c == 34) && not (c == 92)

-- a character that a backslash may stand before: any that is shown; in what is printed `"` and `\` alone
abbrev pub is_escaped_char : Style → ℕ → Bool
is_escaped_char Any c = is_shown c
is_escaped_char Printed c = c == 34 || c == 92

-- a space behind `,` or `;`: U+0020; what is printed has none
abbrev pub is_space : Style → ℕ → Bool
is_space Any c = c == 32
is_space Printed c = false

-- each character passes the test
abbrev pub Each : (ℕ → Bool) → List ℕ → Type 0
Each test [] = Unit {0}
Each test (c ∷ cs) = (test c ≡ true) × Each test cs
