-- What is escaped of a character.
use Rattle.std.proofs.Common.{◌≡◌, ℕ, suc, ◌<◌, ◌≤◌, List, [], ◌∷◌, ◌++◌, length, get_or, inl, inr, refl, sym, ap₂, arith, append-nil}
use Rattle.std.proofs.lemmas.Bool.{cases_lt}
use Rattle.std.proofs.lemmas.Grind.{common_steps}
use Rattle.std.proofs.lemmas.Str.{encode_ascii, inside_one}
use Rattle.std.specs.Prelude.{codes, encode_utf8}
use Rattle.lw_metrics.specs.Exposition.{escaped_byte, escaped}

escaped_byte-plain : (x : ℕ) → (x ≡ 92 → ⊥) → (x ≡ 34 → ⊥) → (x ≡ 10 → ⊥) → escaped_byte x ≡ x ∷ []
unfolding escaped_byte
escaped_byte-plain x backslash quote line_feed = grind (arith, common_steps)

-- no byte of a longer character is escaped
escaped-high : (xs : List ℕ) → ((k : ℕ) → k < length xs → 128 ≤ get_or xs k 0) → escaped xs ≡ xs
escaped-high [] high = refl
escaped-high (x ∷ xs) high =
    let first : 128 ≤ x = high 0 (omega arith) in
    ap₂ (λ (a b : List ℕ). a ++ b) (escaped_byte-plain x (λ e. omega arith) (λ e. omega arith) (λ e. omega arith)) (escaped-high xs (λ k below. high (suc k) (omega arith)))

pub escaped-plain : (c : ℕ) → (c ≡ 92 → ⊥) → (c ≡ 34 → ⊥) → (c ≡ 10 → ⊥) → escaped (encode_utf8 c) ≡ encode_utf8 c
escaped-plain c backslash quote line_feed = elim (cases_lt c 128) [
  | inl small ↦ rw (encode_ascii c small, append-nil) (escaped_byte-plain c backslash quote line_feed)
  | inr big ↦
      escaped-high (encode_utf8 c) (λ k below. elim (cases_lt (get_or (encode_utf8 c) k 0) 128) [
        | inl low ↦ absurd (omega (arith, inside_one c [] (encode_utf8 c) k (sym (append-nil _)) below low))
        | inr high ↦ high
      ])
]

pub escaped-backslash : escaped (encode_utf8 92) ≡ codes "\\\\"
unfolding escaped_byte
escaped-backslash = rw (encode_ascii 92 (omega arith)) refl

pub escaped-quote : escaped (encode_utf8 34) ≡ codes "\\\""
unfolding escaped_byte
escaped-quote = rw (encode_ascii 34 (omega arith)) refl

pub escaped-line_feed : escaped (encode_utf8 10) ≡ codes "\\n"
unfolding escaped_byte
escaped-line_feed = rw (encode_ascii 10 (omega arith)) refl
