-- Where the parts of an entry stand.
use Rattle.std.proofs.Common.{◌≡◌, ℕ, zero, suc, ◌+◌, ◌<◌, ◌≤◌, List, [], ◌∷◌, ◌++◌, length, get_or, take, drop, codes, refl, sym, ap, ◌∙◌, subst, arith}
use Rattle.std.specs.Int.{w16, w64, to_be_bytes, from_be_bytes}
use Rattle.std.proofs.lemmas.List.{take-append-drop, take_at, drop_at, drop-drop, drop_more, length-drop, length-take-le, get_or-drop}
use Rattle.std.proofs.lemmas.Nat.{be_bytes_2, be_bytes_8, from_be_bytes-to_be_bytes_2, from_be_bytes-to_be_bytes_8}
use Rattle.lw_log.specs.Entries.{EntryContent, FitsEntry, entry_bytes, headed, kind_of, body_bytes}
use Rattle.lw_log.specs.EntryFaults.{HasMagic, HasHead, number_in, kind_in, body_in}

-- ---- from the bytes to their parts
abbrev pub AreBytes : List ℕ → Type 0
AreBytes bytes = (i : ℕ) → get_or bytes i 0 < 256

fits_take : (count : ℕ) (bytes : List ℕ) → AreBytes bytes → AreBytes (take count bytes)
fits_take zero bytes fits i = omega arith
fits_take (suc count) [] fits i = omega arith
fits_take (suc count) (b ∷ bytes) fits zero = fits 0
fits_take (suc count) (b ∷ bytes) fits (suc i) = fits_take count bytes (λ k. fits (suc k)) i

fits_drop : (from : ℕ) (bytes : List ℕ) → AreBytes bytes → AreBytes (drop from bytes)
fits_drop from bytes fits i = subst (λ n. n < 256) (sym (get_or-drop from bytes i 0)) (fits (from + i))

part_fits : (from count : ℕ) (bytes : List ℕ) → AreBytes bytes → AreBytes (take count (drop from bytes))
part_fits from count bytes fits = fits_take count (drop from bytes) (fits_drop from bytes fits)

part_long : (from count : ℕ) (bytes : List ℕ) → from + count ≤ length bytes → length (take count (drop from bytes)) ≡ count
part_long from count bytes le = length-take-le count (drop from bytes) (omega (arith, length-drop from bytes))

-- a part, written so, stands before what is from the next place on
part_then : (from count next : ℕ) (bytes part rest : List ℕ) → next ≡ from + count → part ≡ take count (drop from bytes) → drop next bytes ≡ rest → drop from bytes ≡ part ++ rest
part_then from count next bytes part rest e p r =
    sym (take-append-drop count (drop from bytes)) ∙ ap (λ (x : List ℕ). take count (drop from bytes) ++ x) (drop-drop count from bytes ∙ ap (λ (n : ℕ). drop n bytes) (sym e) ∙ r)
    ∙ ap (λ (x : List ℕ). x ++ rest) (sym p)

-- what the head is read as is how it is written
pub head_written : (bytes : List ℕ) (number tag sequence : ℕ) → AreBytes bytes → HasMagic bytes → 39 ≤ length bytes → number ≡ number_in bytes
    → tag ≡ from_be_bytes w64 (take 8 (drop 22 bytes)) → sequence ≡ from_be_bytes w64 (take 8 (drop 30 bytes))
    → bytes ≡ headed (take 16 (drop 4 bytes)) number tag sequence (kind_in bytes ∷ body_in bytes)
head_written bytes number tag sequence fits magic long n t s =
    let from38 : drop 38 bytes ≡ kind_in bytes ∷ body_in bytes = drop_more bytes 38 0 (omega arith) in
    let sequence_is = be_bytes_8 (take 8 (drop 30 bytes)) sequence (part_long 30 8 bytes (omega arith)) (part_fits 30 8 bytes fits) s in
    let from30 = part_then 30 8 38 bytes (to_be_bytes w64 sequence) _ refl sequence_is from38 in
    let tag_is = be_bytes_8 (take 8 (drop 22 bytes)) tag (part_long 22 8 bytes (omega arith)) (part_fits 22 8 bytes fits) t in
    let from22 = part_then 22 8 30 bytes (to_be_bytes w64 tag) _ refl tag_is from30 in
    let number_is = be_bytes_2 (take 2 (drop 20 bytes)) number (part_long 20 2 bytes (omega arith)) (part_fits 20 2 bytes fits) n in
    let from20 = part_then 20 2 22 bytes (to_be_bytes w16 number) _ refl number_is from22 in
    let from4 = part_then 4 16 20 bytes (take 16 (drop 4 bytes)) _ refl refl from20 in
    part_then 0 4 4 bytes (codes "LWE1") _ refl (sym magic) from4

pub fleet_long : (bytes : List ℕ) → 39 ≤ length bytes → length (take 16 (drop 4 bytes)) ≡ 16
fleet_long bytes long = part_long 4 16 bytes (omega arith)

-- ---- from the parts to the bytes
-- the part from a place, and what stands behind it
record At (bytes : List ℕ) (from count next : ℕ) (part rest : List ℕ) : Type 0 where
  pub part_is : take count (drop from bytes) ≡ part
  pub rest_is : drop next bytes ≡ rest

at_part : (from count next : ℕ) (bytes part rest : List ℕ) → next ≡ from + count → length part ≡ count → drop from bytes ≡ part ++ rest → At bytes from count next part rest
at_part from count next bytes part rest e l d = record {
  part_is = ap (take count) d ∙ take_at part rest count l;
  rest_is = ap (λ (n : ℕ). drop n bytes) e ∙ sym (drop-drop count from bytes) ∙ ap (drop count) d ∙ drop_at part rest count l;
}

-- the bytes of an entry have its parts where they are looked for
pub record HasParts (bytes : List ℕ) (e : EntryContent) : Type 0 where
  pub magic : HasMagic bytes
  pub long : 39 ≤ length bytes
  pub fleet : e.fleet ≡ take 16 (drop 4 bytes)
  pub number : e.number ≡ number_in bytes
  pub tag : e.tag ≡ from_be_bytes w64 (take 8 (drop 22 bytes))
  pub sequence : e.sequence ≡ from_be_bytes w64 (take 8 (drop 30 bytes))
  pub kind : kind_of e.body ≡ kind_in bytes
  pub body : body_bytes e.body ≡ body_in bytes

pub parts_of : (bytes : List ℕ) (e : EntryContent) → bytes ≡ entry_bytes e → FitsEntry e → HasParts bytes e
parts_of bytes e w fits =
    let magic = at_part 0 4 4 bytes (codes "LWE1") _ refl refl w in
    let fleet = at_part 4 16 20 bytes e.fleet _ refl fits.fleet magic.rest_is in
    let number = at_part 20 2 22 bytes (to_be_bytes w16 e.number) _ refl refl fleet.rest_is in
    let tag = at_part 22 8 30 bytes (to_be_bytes w64 e.tag) _ refl refl number.rest_is in
    let sequence = at_part 30 8 38 bytes (to_be_bytes w64 e.sequence) _ refl refl tag.rest_is in
    let kind = at_part 38 1 39 bytes (kind_of e.body ∷ []) (body_bytes e.body) refl refl sequence.rest_is in
    record {
      magic = magic.part_is;
      long = omega (arith, length-drop 38 bytes, ap length sequence.rest_is);
      fleet = sym fleet.part_is;
      number = sym (from_be_bytes-to_be_bytes_2 e.number fits.number.1) ∙ ap (from_be_bytes w16) (sym number.part_is);
      tag = sym (from_be_bytes-to_be_bytes_8 e.tag fits.tag) ∙ ap (from_be_bytes w64) (sym tag.part_is);
      sequence = sym (from_be_bytes-to_be_bytes_8 e.sequence fits.sequence) ∙ ap (from_be_bytes w64) (sym sequence.part_is);
      kind = sym (ap (λ (x : List ℕ). get_or x 0 0) sequence.rest_is) ∙ get_or-drop 38 bytes 0 0;
      body = sym kind.rest_is;
    }

pub has_head : (bytes : List ℕ) (e : EntryContent) → HasParts bytes e → FitsEntry e → HasHead bytes
has_head bytes e parts fits = record { magic = parts.magic; long = parts.long; number = omega (arith, parts.number, fits.number.0) }
