-- Letters are text.
use Rattle.std.proofs.Common.{◌≡◌, ℕ, zero, suc, true, leb, List, [], ◌∷◌, arith}
use Rattle.std.specs.Char.{is_ascii_uppercase}
use Rattle.std.specs.List.{list_all}
use Rattle.std.specs.Prelude.{IsUtf8}
use Rattle.std.specs.Str.{IsAscii}
use Rattle.std.proofs.lemmas.Bool.{and_parts, leb-true}
use Rattle.std.proofs.lemmas.Str.{IsUtf8-from_ascii}
use Rattle.lw_reg.specs.BindingText.{IsBindingText}

ascii : (text : List ℕ) → list_all is_ascii_uppercase text ≡ true → IsAscii text
ascii [] h i = omega arith
ascii (c ∷ text) h zero = omega (arith, leb-true c 90 (and_parts (leb 65 c) (leb c 90) (and_parts (is_ascii_uppercase c) (list_all is_ascii_uppercase text) h).0).1)
ascii (c ∷ text) h (suc i) = ascii text (and_parts (is_ascii_uppercase c) (list_all is_ascii_uppercase text) h).1 i

pub letters_utf8 : (text : List ℕ) → IsBindingText text → IsUtf8 text
letters_utf8 text h = IsUtf8-from_ascii text (ascii text h.letters)
