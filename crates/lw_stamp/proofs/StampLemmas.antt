-- Stamps, their bytes and their identifiers, forth and back.
use Rattle.std.proofs.Common.{◌≡◌, ℕ, zero, suc, ◌/◌, ◌%◌, ◌^◌, ◌<◌, ◌≤◌, ◌↔◌, List, ◌∷◌, ◌++◌, take, drop, Option, Some, None, Result, Ok, refl, sym, ap, ◌∙◌, arith}
use Rattle.std.specs.Int.{w64, to_be_bytes, from_be_bytes}
use Rattle.std.specs.Prelude.{Bool, true, false, nat_eq}
use Rattle.std.specs.Result.{result_ok}
use Rattle.std.specs.Cmp.Lexicographic.{pointwise}
use Rattle.std.specs.Coded.{×_prop, le_prop}
use Rattle.std.specs.Ordering.{nat_cmp}
use Rattle.std.specs.Cmp.{nat_cmp_total}
use Rattle.std.proofs.lemmas.Cmp.{on_total, then_total}
use Rattle.std.proofs.lemmas.Map.Lookups.{exact_pairs, exact_unsigned}
use Rattle.std.proofs.lemmas.List.{take-append-drop}
use Rattle.std.proofs.lemmas.Nat.{from_be_bytes-to_be_bytes_2, from_be_bytes-to_be_bytes_8}
use mathlib.Core.HLevel.{is_prop→PathP}
use Rattle.std.proofs.lemmas.Slice.Eq.{bytes_eq-Decides}
use Rattle.hex.specs.declared.error.FromHexError.{FromHexError}
use Rattle.hex.specs.Hex.{decode_sized, IsBytes}
use Rattle.hex.proofs.HexLemmas.{decode_sized-encode_lower}
use Rattle.lw_stamp.specs.declared.stamp.Stamp.{Stamp}
use Rattle.lw_stamp.specs.Order.{IsExact, IsExactOrder}
use Rattle.lw_stamp.specs.Stamp.{stamp_bytes, id_of}
use Rattle.lw_stamp.specs.StampBytes.{counter_in}
use Rattle.lw_stamp.specs.inner.StampBytes.{node_in}
use Rattle.lw_stamp.specs.StampOrder.{stamp_cmp}

-- a stamp is its counter and its node
pub same_stamp : (a b : Stamp) → a.counter ≡ b.counter → a.node ≡ b.node → a ≡ b
same_stamp a b h k =
    λ i. record { counter = h i; node = k i; in_range = is_prop→PathP (λ i. (1 ≤ h i) × (h i < 2 ^ 48) × (k i < 2 ^ 16)) (λ i. hlevel (×_prop, le_prop)) a.in_range b.in_range i }

abbrev pub no_stamp : Option Stamp
no_stamp = None

abbrev pub some_stamp : Stamp → Option Stamp
some_stamp s = Some s

exact_stamp : IsExact stamp_cmp
exact_stamp a b h =
    let e = exact_pairs nat_cmp nat_cmp exact_unsigned exact_unsigned (a.counter, a.node) (b.counter, b.node) h in
    same_stamp a b (ap (λ (p : ℕ × ℕ). p.0) e) (ap (λ (p : ℕ × ℕ). p.1) e)

pub stamp_order : IsExactOrder stamp_cmp
stamp_order = record {
  total = then_total (on_total (λ s. s.counter) nat_cmp_total) (on_total (λ s. s.node) nat_cmp_total);
  exact = exact_stamp;
}

-- the counter that the bytes of a stamp hold is its own
counter_again : (s : Stamp) → counter_in (stamp_bytes s) ≡ s.counter
counter_again s =
    let range = s.in_range in
    let first : s.counter / 2 ^ 56 % 256 ≡ 0 = omega arith in
    let second : s.counter / 2 ^ 48 % 256 ≡ 0 = omega arith in
    let whole : to_be_bytes w64 s.counter ≡ 0 ∷ 0 ∷ drop 2 (to_be_bytes w64 s.counter) =
    λ i. first i ∷ second i ∷ drop 2 (to_be_bytes w64 s.counter) in
    ap (from_be_bytes w64) (sym whole) ∙ from_be_bytes-to_be_bytes_8 s.counter (omega arith)

node_again : (s : Stamp) → node_in (stamp_bytes s) ≡ s.node
node_again s = from_be_bytes-to_be_bytes_2 s.node s.in_range.2

-- a stamp with these bytes has the counter and the node that they hold
pub spelled_counter : (s : Stamp) (bytes : List ℕ) → stamp_bytes s ≡ bytes → s.counter ≡ counter_in bytes
spelled_counter s bytes h = sym (counter_again s) ∙ ap counter_in h

pub spelled_node : (s : Stamp) (bytes : List ℕ) → stamp_bytes s ≡ bytes → s.node ≡ node_in bytes
spelled_node s bytes h = sym (node_again s) ∙ ap node_in h

-- stamps of the same bytes are one
pub one_of_bytes : (s r : Stamp) → stamp_bytes s ≡ stamp_bytes r → s ≡ r
one_of_bytes s r h =
    same_stamp s r (spelled_counter s (stamp_bytes r) h ∙ counter_again r) (spelled_node s (stamp_bytes r) h ∙ node_again r)

-- the bytes that the parts of a stamp spell
pub joined : (bytes front back : List ℕ) → front ≡ take 6 bytes → back ≡ drop 6 bytes → front ++ back ≡ bytes
joined bytes front back h k = rw (h, k) (take-append-drop 6 bytes)

some_is : (r s : Stamp) → some_stamp r ≡ some_stamp s → r ≡ s
some_is r s e = cc

-- the stamp that was found is the one with the bytes
pub only_stamp : (bytes : List ℕ) (counter node : ℕ) (range : (1 ≤ counter) × (counter < 2 ^ 48) × (node < 2 ^ 16))
    → stamp_bytes (record { counter = counter; node = node; in_range = range }) ≡ bytes
    → (s : Stamp) → (some_stamp (record { counter = counter; node = node; in_range = range }) ≡ some_stamp s) ↔ (stamp_bytes s ≡ bytes)
only_stamp bytes counter node range h s =
    let r : Stamp = record { counter = counter; node = node; in_range = range } in
    (λ e. ap stamp_bytes (sym (some_is r s e)) ∙ h, λ e. ap some_stamp (one_of_bytes r s (h ∙ sym e)))

-- the bytes of a stamp are bytes
fits_stamp : (s : Stamp) → IsBytes (stamp_bytes s)
fits_stamp s zero = omega arith
fits_stamp s (suc zero) = omega arith
fits_stamp s (suc (suc zero)) = omega arith
fits_stamp s (suc (suc (suc zero))) = omega arith
fits_stamp s (suc (suc (suc (suc zero)))) = omega arith
fits_stamp s (suc (suc (suc (suc (suc zero))))) = omega arith
fits_stamp s (suc (suc (suc (suc (suc (suc zero)))))) = omega arith
fits_stamp s (suc (suc (suc (suc (suc (suc (suc zero))))))) = omega arith
fits_stamp s (suc (suc (suc (suc (suc (suc (suc (suc i)))))))) = omega arith

-- an identifier decodes to the bytes of its stamp
pub id_decodes : (s : Stamp) → decode_sized (id_of s) 8 ≡ Ok (stamp_bytes s)
id_decodes s = decode_sized-encode_lower (stamp_bytes s) 8 refl (fits_stamp s)

-- what decoding a text into eight bytes gives, where the text is the identifier of a stamp
pub decoded : (text : List ℕ) (d : Result (List ℕ) FromHexError) (o : Option (List ℕ)) → d ≡ decode_sized text 8 → o ≡ result_ok d
    → (s : Stamp) → text ≡ id_of s → o ≡ Some (stamp_bytes s)
decoded text d o h k s e = k ∙ ap result_ok (h ∙ ap (λ (t : List ℕ). decode_sized t 8) e ∙ id_decodes s)

-- a text that does not decode is no identifier
pub not_decoded : (text : List ℕ) (d : Result (List ℕ) FromHexError) (o : Option (List ℕ)) (r : Option Stamp) → d ≡ decode_sized text 8 → o ≡ result_ok d
    → o ≡ None → r ≡ None → (s : Stamp) → (r ≡ Some s) ↔ (text ≡ id_of s)
not_decoded text d o r h k none refused s = (λ e. absurd cc, λ e. let some = decoded text d o h k s e in absurd cc)

-- the stamp of the bytes that an identifier decodes to is its own
pub read_back : (text bytes : List ℕ) (d : Result (List ℕ) FromHexError) (o : Option (List ℕ)) (r : Option Stamp) → d ≡ decode_sized text 8 → o ≡ result_ok d
    → o ≡ Some bytes → ((s : Stamp) → (r ≡ Some s) ↔ (stamp_bytes s ≡ bytes)) → (s : Stamp) → text ≡ id_of s → r ≡ Some s
read_back text bytes d o r h k was found s e = (found s).1 (let some = decoded text d o h k s e in cc)

pub not_found : (text bytes : List ℕ) (d : Result (List ℕ) FromHexError) (o : Option (List ℕ)) (r q : Option Stamp) → d ≡ decode_sized text 8 → o ≡ result_ok d
    → o ≡ Some bytes → ((s : Stamp) → (r ≡ Some s) ↔ (stamp_bytes s ≡ bytes)) → r ≡ None → q ≡ None → (s : Stamp) → (q ≡ Some s) ↔ (text ≡ id_of s)
not_found text bytes d o r q h k was found none refused s =
    (λ e. absurd cc, λ e. let some = read_back text bytes d o r h k was found s e in absurd cc)

pub same_text : (text bytes : List ℕ) (d : Result (List ℕ) FromHexError) (o : Option (List ℕ)) (r : Option Stamp) (t : Stamp) → d ≡ decode_sized text 8 → o ≡ result_ok d
    → o ≡ Some bytes → ((s : Stamp) → (r ≡ Some s) ↔ (stamp_bytes s ≡ bytes)) → r ≡ Some t → text ≡ id_of t
    → (s : Stamp) → (some_stamp t ≡ some_stamp s) ↔ (text ≡ id_of s)
same_text text bytes d o r t h k was found some same s =
    (λ e. same ∙ ap id_of (some_is t s e), λ e. sym some ∙ read_back text bytes d o r h k was found s e)

pub other_text : (text bytes : List ℕ) (d : Result (List ℕ) FromHexError) (o : Option (List ℕ)) (r : Option Stamp) (t : Stamp) → d ≡ decode_sized text 8 → o ≡ result_ok d
    → o ≡ Some bytes → ((s : Stamp) → (r ≡ Some s) ↔ (stamp_bytes s ≡ bytes)) → r ≡ Some t → (text ≡ id_of t → ⊥)
    → (s : Stamp) → (no_stamp ≡ some_stamp s) ↔ (text ≡ id_of s)
other_text text bytes d o r t h k was found some other s =
    (λ e. absurd cc, λ e. absurd (other (e ∙ ap id_of (some_is s t (sym (read_back text bytes d o r h k was found s e) ∙ some)))))

-- texts that `==` tells apart differ, and texts that it does not are one
pub texts_alike : (a b : List ℕ) (r : Bool) → r ≡ pointwise nat_eq a b → r ≡ true → a ≡ b
texts_alike a b r h e = (bytes_eq-Decides a b).0 (sym h ∙ e)

pub texts_differ : (a b : List ℕ) (r : Bool) → r ≡ pointwise nat_eq a b → r ≡ false → a ≡ b → ⊥
texts_differ a b r h e same = let alike = (bytes_eq-Decides a b).1 same in cc
