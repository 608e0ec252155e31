-- The first bytes of a list, by what they stand for.
use Rattle.std.proofs.Common.{◌≡◌, ℕ, ◌+◌, ◌-◌, ◌*◌, ◌/◌, ◌%◌, ◌<◌, ◌≤◌, List, [], ◌∷◌, ◌++◌, length, get_or, take, drop, refl, ap, sym, arith, inl, inr}
use Rattle.std.proofs.lemmas.List.{take_rest}
use Rattle.lw_coap.specs.Grammar.{IsHeader, IsExtended}
use Rattle.lw_coap.specs.Faults.{HasExtension, HasHead}

abbrev pub IsBytes : List ℕ → Type 0
IsBytes bytes = (i : ℕ) → get_or bytes i 0 < 256

pub first_one : (bytes : List ℕ) → 1 ≤ length bytes → bytes ≡ (get_or bytes 0 0 ∷ []) ++ take (length bytes - 1) (drop 1 bytes)
first_one [] h = absurd (omega arith)
first_one (a ∷ rest) h = ap (λ (x : List ℕ). a ∷ x) (sym (take_rest (a ∷ rest) 1))

pub first_two : (bytes : List ℕ) → 2 ≤ length bytes → bytes ≡ (get_or bytes 0 0 ∷ get_or bytes 1 0 ∷ []) ++ take (length bytes - 2) (drop 2 bytes)
first_two [] h = absurd (omega arith)
first_two (a ∷ []) h = absurd (omega arith)
first_two (a ∷ b ∷ rest) h = ap (λ (x : List ℕ). a ∷ b ∷ x) (sym (take_rest (a ∷ b ∷ rest) 2))

-- the header of bytes, read from their first four
pub header_at : (bytes : List ℕ) (version kind mid : ℕ) → IsBytes bytes → 4 ≤ length bytes → version ≡ get_or bytes 0 0 / 64 → kind ≡ get_or bytes 0 0 / 16 % 4
    → mid ≡ 256 * get_or bytes 2 0 + get_or bytes 3 0 → IsHeader bytes version kind (get_or bytes 0 0 % 16) (get_or bytes 1 0) mid (drop 4 bytes)
header_at [] version kind mid fits h v k m = absurd (omega arith)
header_at (a ∷ []) version kind mid fits h v k m = absurd (omega arith)
header_at (a ∷ b ∷ []) version kind mid fits h v k m = absurd (omega arith)
header_at (a ∷ b ∷ c ∷ []) version kind mid fits h v k m = absurd (omega arith)
header_at (a ∷ b ∷ c ∷ d ∷ rest) version kind mid fits h v k m =
    let first : a ≡ 64 * version + 16 * kind + a % 16 = omega arith in
    record {
      high = c;
      low = d;
      bytes_are = rw (← first) refl;
      mid_is = m;
      kind_fits = omega arith;
      token_length_fits = omega arith;
      code_fits = fits 1;
      high_fits = fits 2;
      low_fits = fits 3;
    }

-- how many bytes extend a nibble
pub extension_counts : (nibble : ℕ) (bytes : List ℕ) (value : ℕ) → IsExtended nibble bytes value → HasExtension nibble (length bytes)
extension_counts nibble [] value h = inl (h.0, refl)
extension_counts nibble (a ∷ []) value h = inr (inl (h.0, refl))
extension_counts nibble (a ∷ b ∷ []) value h = inr (inr (h.0, refl))
extension_counts nibble (a ∷ b ∷ c ∷ more) value h = absurd h

-- the same, where the rest is a part of the bytes
pub header_and_rest : (bytes : List ℕ) (version kind mid : ℕ) → IsBytes bytes → 4 ≤ length bytes → version ≡ get_or bytes 0 0 / 64 → kind ≡ get_or bytes 0 0 / 16 % 4
    → mid ≡ 256 * get_or bytes 2 0 + get_or bytes 3 0 → IsHeader bytes version kind (get_or bytes 0 0 % 16) (get_or bytes 1 0) mid (take (length bytes - 4) (drop 4 bytes))
header_and_rest bytes version kind mid fits h v k m = rw take_rest (header_at bytes version kind mid fits h v k m)

-- the header of bytes within the limit
pub head_at : (bytes : List ℕ) (version : ℕ) → IsBytes bytes → 4 ≤ length bytes → length bytes ≤ 8192 → get_or bytes 0 0 / 64 ≡ version
    → HasHead bytes version (get_or bytes 0 0 % 16) (get_or bytes 1 0) (take (length bytes - 4) (drop 4 bytes))
head_at bytes version fits h within v = record {
  kind = get_or bytes 0 0 / 16 % 4;
  mid = 256 * get_or bytes 2 0 + get_or bytes 3 0;
  header = header_and_rest bytes version (get_or bytes 0 0 / 16 % 4) (256 * get_or bytes 2 0 + get_or bytes 3 0) fits h (sym v) refl refl;
  within = within;
}
