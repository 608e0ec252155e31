-- Tags and their hex digits, forth and back.
use Rattle.std.proofs.Common.{◌≡◌, ℕ, zero, suc, List, Option, Some, None, Result, refl, sym, ap, ◌∙◌, arith}
use Rattle.std.specs.Prelude.{IfNone, Bool, true, false, nat_eq}
use Rattle.std.specs.Int.{w64, to_be_bytes, from_be_bytes}
use Rattle.std.specs.Result.{result_ok}
use Rattle.std.specs.Cmp.Lexicographic.{pointwise}
use Rattle.std.proofs.lemmas.Nat.{from_be_bytes-to_be_bytes_8}
use Rattle.std.proofs.lemmas.Slice.Eq.{bytes_eq-Decides}
use Rattle.hex.specs.declared.error.FromHexError.{FromHexError}
use Rattle.hex.specs.Hex.{decode_sized, encode_lower, IsBytes}
use Rattle.hex.proofs.HexLemmas.{decode_sized-encode_lower}
use Rattle.lw_route.specs.Numbers.{IsTag}

abbrev text_of : ℕ → List ℕ
text_of tag = encode_lower (to_be_bytes w64 tag)

are_bytes : (tag : ℕ) → IsBytes (to_be_bytes w64 tag)
are_bytes tag zero = omega arith
are_bytes tag (suc zero) = omega arith
are_bytes tag (suc (suc zero)) = omega arith
are_bytes tag (suc (suc (suc zero))) = omega arith
are_bytes tag (suc (suc (suc (suc zero)))) = omega arith
are_bytes tag (suc (suc (suc (suc (suc zero))))) = omega arith
are_bytes tag (suc (suc (suc (suc (suc (suc zero)))))) = omega arith
are_bytes tag (suc (suc (suc (suc (suc (suc (suc zero))))))) = omega arith
are_bytes tag (suc (suc (suc (suc (suc (suc (suc (suc i)))))))) = omega arith

-- what decoding a text into eight bytes gives, where the text is of a tag
decoded : (text : List ℕ) (d : Result (List ℕ) FromHexError) (o : Option (List ℕ)) → d ≡ decode_sized text 8 → o ≡ result_ok d → (tag : ℕ) → text ≡ text_of tag → o ≡ Some (to_be_bytes w64 tag)
decoded text d o h k tag e =
    k ∙ ap result_ok (h ∙ ap (λ (t : List ℕ). decode_sized t 8) e ∙ decode_sized-encode_lower (to_be_bytes w64 tag) 8 refl (are_bytes tag))

-- a text that does not decode is of no tag
pub not_decoded : (text : List ℕ) (d : Result (List ℕ) FromHexError) (o : Option (List ℕ)) (r : Option ℕ) → d ≡ decode_sized text 8 → o ≡ result_ok d → o ≡ None → IfNone r ((tag : ℕ) → ¬ IsTag tag text)
not_decoded text d o (Some x) h k none = tt
not_decoded text d o None h k none = λ tag is. let some = decoded text d o h k tag is.printed in absurd cc

some_is : (a b : List ℕ) (o : Option (List ℕ)) → o ≡ Some a → o ≡ Some b → a ≡ b
some_is a b o e h = cc

-- a text that is not that of the tag which it decodes to is of no tag
pub other_text : (text bytes : List ℕ) (d : Result (List ℕ) FromHexError) (o : Option (List ℕ)) (n : ℕ) → d ≡ decode_sized text 8 → o ≡ result_ok d → o ≡ Some bytes → n ≡ from_be_bytes w64 bytes → (text ≡ text_of n → ⊥) → (tag : ℕ) → ¬ IsTag tag text
other_text text bytes d o n h k was read other tag is =
    let same = some_is bytes (to_be_bytes w64 tag) o was (decoded text d o h k tag is.printed) in
    let it = read ∙ ap (from_be_bytes w64) same ∙ from_be_bytes-to_be_bytes_8 tag is.fits in
    other (is.printed ∙ ap text_of (sym it))

-- texts that `==` tells apart differ, and texts that it does not are one
pub texts_alike : (a b : List ℕ) (r : Bool) → r ≡ pointwise nat_eq a b → r ≡ true → a ≡ b
texts_alike a b r h e = (bytes_eq-Decides a b).0 (sym h ∙ e)

pub texts_differ : (a b : List ℕ) (r : Bool) → r ≡ pointwise nat_eq a b → r ≡ false → a ≡ b → ⊥
texts_differ a b r h e same = let alike = (bytes_eq-Decides a b).1 same in cc
