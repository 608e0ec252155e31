-- Bindings, their letters and their texts.
use Rattle.std.proofs.Common.{◌≡◌, ◌==◌, ◌||◌, ℕ, Bool, zero, suc, ◌-◌, ◌≤◌, true, ltb, leb, List, [], ◌∷◌, ◌++◌, length, replicate, take, subst, refl, sym, ap, ◌∙◌, arith}
use Rattle.std.specs.Char.{is_ascii_uppercase}
use Rattle.std.specs.List.{list_all, list_any}
use Rattle.std.specs.Str.{IsAscii, IsUtf8}
use Rattle.std.proofs.lemmas.Bool.{and_parts, leb-true, lt-ltb}
use Rattle.std.proofs.lemmas.List.{take_at}
use Rattle.std.proofs.lemmas.List.Sums.{take_while-cons}
use Rattle.std.proofs.lemmas.Str.{IsUtf8-from_ascii}
use Rattle.lw_reg.specs.BindingText.{IsBindingText, IsPadded, text_in}

-- the letters before the padding are the text
text_in-padded : (text : List ℕ) (n : ℕ) → list_all is_ascii_uppercase text ≡ true → text_in (text ++ replicate n 0) ≡ text
text_in-padded [] zero h = refl
text_in-padded [] (suc n) h = refl
text_in-padded (c ∷ text) n h =
    let both = and_parts (is_ascii_uppercase c) (list_all is_ascii_uppercase text) h in
    let letter : 65 ≤ c = leb-true 65 c (and_parts (leb 65 c) (leb c 90) both.0).0 in
    take_while-cons (λ c. ltb 0 c) c (text ++ replicate n 0) ∙ rw (lt-ltb 0 c (omega arith)) (ap (λ (t : List ℕ). c ∷ t) (text_in-padded text n both.1))

padded_is : (text : List ℕ) → IsBindingText text → IsPadded (text ++ replicate (8 - length text) 0)
padded_is text h =
    let same = text_in-padded text (8 - length text) h.letters in
    record {
      text = subst IsBindingText (sym same) h;
      zeros = ap (λ (t : List ℕ). t ++ replicate (8 - length t) 0) (sym same);
    }

-- the padding has no letter Q
any_padded : (text : List ℕ) (n : ℕ) → list_any (λ c. c == 81) (text ++ replicate n 0) ≡ list_any (λ c. c == 81) text
any_padded [] zero = refl
any_padded [] (suc n) = any_padded [] n
any_padded (c ∷ text) n = ap (λ (b : Bool). (c == 81) || b) (any_padded text n)

pub queue_in_text : (letters : List ℕ) → IsPadded letters → list_any (λ c. c == 81) letters ≡ list_any (λ c. c == 81) (text_in letters)
queue_in_text letters h = ap (list_any (λ c. c == 81)) h.zeros ∙ any_padded (text_in letters) (8 - length (text_in letters))

-- the letters that `read` makes of a text
pub letters_of_text : (text bytes letters : List ℕ) → bytes ≡ text → IsBindingText bytes → letters ≡ bytes ++ replicate (8 - length bytes) 0 → IsPadded letters × (text_in letters ≡ text)
letters_of_text text bytes letters e h made =
    (rw made (padded_is bytes h), rw made (text_in-padded bytes (8 - length bytes) h.letters ∙ e))

ascii : (text : List ℕ) → list_all is_ascii_uppercase text ≡ true → IsAscii text
ascii [] h i = omega arith
ascii (c ∷ text) h zero = omega (arith, leb-true c 90 (and_parts (leb 65 c) (leb c 90) (and_parts (is_ascii_uppercase c) (list_all is_ascii_uppercase text) h).0).1)
ascii (c ∷ text) h (suc i) = ascii text (and_parts (is_ascii_uppercase c) (list_all is_ascii_uppercase text) h).1 i

-- the text of a binding, taken from its letters, is text
pub text_is_utf8 : (letters : List ℕ) (n : ℕ) → IsPadded letters → n ≡ length (text_in letters) → (take n letters ≡ text_in letters) × IsUtf8 (take n letters)
text_is_utf8 letters n h e =
    let same : take n letters ≡ text_in letters = ap (take n) h.zeros ∙ take_at (text_in letters) (replicate (8 - length (text_in letters)) 0) n (sym e) in
    (same, rw same (IsUtf8-from_ascii (text_in letters) (ascii (text_in letters) h.text.letters)))
