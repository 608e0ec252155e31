-- One option at the front of the bytes.
use Rattle.std.proofs.Common.{◌≡◌, ◌≢◌, ℕ, ◌+◌, ◌*◌, ◌/◌, ◌%◌, ◌<◌, ◌≤◌, ◌⊎◌, List, [], ◌∷◌, ◌++◌, length, get_or, take, drop, refl, ap, sym, ◌∙◌, arith, inl, inr, append_assoc, length-append}
use Rattle.std.proofs.lemmas.List.{take-append-drop, length-take-le}
use Rattle.std.proofs.lemmas.Bool.{cases_lt}
use Rattle.lw_coap.specs.Grammar.{IsExtended, IsOption}
use Rattle.lw_coap.specs.Faults.{HasExtension, HasReserved, IsCutHead, BeginsOption}
use Rattle.lw_coap.specs.inner.Body.{IsBodyEnd}
use Rattle.lw_coap.proofs.Bytes.{extension_counts}

-- what does not end a body has a first byte, which is no marker
pub first_is : (bytes : List ℕ) → (IsBodyEnd bytes → ⊥) → (1 ≤ length bytes) × (get_or bytes 0 0 ≢ 255)
first_is [] h = absurd (h tt)
first_is (b ∷ bytes) h = (omega arith, h)

-- a first byte is its two nibbles
nibbles : (b : ℕ) → b ≡ 16 * (b / 16) + b % 16
nibbles b = omega arith

pub reserved : (bytes : List ℕ) (b : ℕ) (rest : List ℕ) → b < 256 → bytes ≡ (b ∷ []) ++ rest → b ≢ 255 → (b / 16 ≡ 15) ⊎ (b % 16 ≡ 15) → HasReserved bytes
reserved bytes b rest fits e marker h = record {
  delta_nibble = b / 16;
  length_nibble = b % 16;
  rest = rest;
  bytes_are = e ∙ ap (λ (x : ℕ). x ∷ rest) (nibbles b);
  delta_fits = omega arith;
  length_fits = omega arith;
  reserved = h;
  no_marker = λ (k : 16 * (b / 16) + b % 16 ≡ 255). marker (nibbles b ∙ k);
}

some_extension : (nibble : ℕ) → nibble < 16 → nibble ≢ 15 → (count : ℕ) × HasExtension nibble count
some_extension nibble lt h =
    elim (cases_lt nibble 13) [
      | inl small ↦ (0, inl (omega arith, refl))
      | inr large ↦ elim (cases_lt nibble 14) [
        | inl small ↦ (1, inr (inl (omega arith, refl)))
        | inr last ↦ (2, inr (inr (omega arith, refl)))
      ]
    ]

-- the bytes that extend the delta are cut
pub cut_delta : (bytes : List ℕ) (b : ℕ) (rest : List ℕ) (count : ℕ) → b < 256 → bytes ≡ (b ∷ []) ++ rest → b % 16 ≢ 15 → HasExtension (b / 16) count → length rest < count → IsCutHead bytes
cut_delta bytes b rest count fits e low h lt =
    let other : (more : ℕ) × HasExtension (b % 16) more = some_extension (b % 16) (omega arith) low in
    record {
      delta_nibble = b / 16;
      length_nibble = b % 16;
      rest = rest;
      delta_count = count;
      length_count = other.0;
      bytes_are = e ∙ ap (λ (x : ℕ). x ∷ rest) (nibbles b);
      delta_has = h;
      length_has = other.1;
      cut = omega arith;
    }

-- the bytes that extend the length are cut
pub cut_length : (bytes : List ℕ) (b : ℕ) (rest delta_bytes after : List ℕ) (delta count : ℕ) → bytes ≡ (b ∷ []) ++ rest
    → IsExtended (b / 16) delta_bytes delta → rest ≡ delta_bytes ++ after → HasExtension (b % 16) count → length after < count → IsCutHead bytes
cut_length bytes b rest delta_bytes after delta count e d parts h lt = record {
  delta_nibble = b / 16;
  length_nibble = b % 16;
  rest = rest;
  delta_count = length delta_bytes;
  length_count = count;
  bytes_are = e ∙ ap (λ (x : ℕ). x ∷ rest) (nibbles b);
  delta_has = extension_counts (b / 16) delta_bytes delta d;
  length_has = h;
  cut = omega (arith, ap length parts, length-append delta_bytes after);
}

pub begins : (bytes : List ℕ) (b : ℕ) (rest delta_bytes after length_bytes last : List ℕ) (delta len : ℕ) → bytes ≡ (b ∷ []) ++ rest
    → IsExtended (b / 16) delta_bytes delta → rest ≡ delta_bytes ++ after → IsExtended (b % 16) length_bytes len → after ≡ length_bytes ++ last → BeginsOption bytes delta len last
begins bytes b rest delta_bytes after length_bytes last delta len e d first l second = record {
  head = b ∷ (delta_bytes ++ length_bytes);
  head_is = record {
    delta_nibble = b / 16;
    length_nibble = b % 16;
    delta_bytes = delta_bytes;
    length_bytes = length_bytes;
    bytes_are = ap (λ (x : ℕ). x ∷ (delta_bytes ++ length_bytes)) (nibbles b);
    delta_is = d;
    length_is = l;
  };
  bytes_are = e ∙ ap (λ (x : List ℕ). b ∷ x) (first ∙ ap (λ (x : List ℕ). delta_bytes ++ x) second ∙ sym (append_assoc delta_bytes length_bytes last));
}

pub found : (bytes : List ℕ) (before delta len number : ℕ) (rest : List ℕ) → BeginsOption bytes delta len rest → len ≤ length rest → number ≡ before + delta → number < 65536
    → (front : List ℕ) × IsOption before front (record { number = number; value = take len rest }) × (bytes ≡ front ++ drop len rest)
found bytes before delta len number rest h le n lt =
    let k : length (take len rest) ≡ len = length-take-le len rest le in (
      h.head ++ take len rest,
      record { head = h.head; delta = delta; head_is = rw k h.head_is; bytes_are = refl; number_is = n; in_range = lt },
      h.bytes_are ∙ ap (λ (x : List ℕ). h.head ++ x) (sym (take-append-drop len rest)) ∙ sym (append_assoc h.head (take len rest) (drop len rest)),
    )
