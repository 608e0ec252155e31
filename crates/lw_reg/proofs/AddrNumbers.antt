-- Bytes that are compared as one number.
use Rattle.std.proofs.Common.{◌≡◌, ℕ, ◌+◌, ◌*◌, ◌<◌, List, [], ◌∷◌, length, get_or, drop, zero, suc, refl, sym, ap, ◌∙◌, arith}
use Rattle.std.specs.Int.{w32, w128, from_be_bytes}
use Rattle.std.specs.Slice.Scan.{big_endian}
use Rattle.std.specs.declared.cmp.Ordering.{Ordering}
use Rattle.std.specs.declared.cmp.Ordering.TheVariants.{Less, Equal, Greater}
use Rattle.std.specs.Cmp.{nat_cmp_is}
use Rattle.std.specs.Cmp.Lexicographic.{slice_cmp}
use Rattle.std.specs.Ordering.{nat_cmp, ordering_then, MatchOrdering}
use Rattle.std.proofs.lemmas.Cmp.{ranked}

abbrev AreBytes : List ℕ → Type 0
AreBytes bytes = (k : ℕ) → get_or bytes k 0 < 256

-- one digit more
next_digit : (a b u v : ℕ) → u < 256 → v < 256 → nat_cmp (a * 256 + u) (b * 256 + v) ≡ ordering_then (nat_cmp a b) (nat_cmp u v)
next_digit a b u v small_u small_v = sym (nat_cmp_is _ _ _ (by (nat_cmp a b) (nat_cmp u v) (ranked a b _ refl) (ranked u v _ refl)))
  where
    by : (r s : Ordering) → MatchOrdering r (a < b) (a ≡ b) (b < a) → MatchOrdering s (u < v) (u ≡ v) (v < u)
        → MatchOrdering (ordering_then r s) (a * 256 + u < b * 256 + v) (a * 256 + u ≡ b * 256 + v) (b * 256 + v < a * 256 + u)
    by Less s h g = let less : a < b = h in omega arith
    by Equal Less h g =
        let same : a ≡ b = h in
        let less : u < v = g in
        omega arith
    by Equal Equal h g =
        let same : a ≡ b = h in
        let alike : u ≡ v = g in
        omega arith
    by Equal Greater h g =
        let same : a ≡ b = h in
        let more : v < u = g in
        omega arith
    by Greater s h g = let more : b < a = h in omega arith

then_equal : (r : Ordering) → r ≡ ordering_then r Equal
then_equal Less = refl
then_equal Equal = refl
then_equal Greater = refl

then_assoc : (r s t : Ordering) → ordering_then (ordering_then r s) t ≡ ordering_then r (ordering_then s t)
then_assoc Less s t = refl
then_assoc Equal s t = refl
then_assoc Greater s t = refl

-- as many bytes, behind a and b
behind : (us vs : List ℕ) (a b : ℕ) → length us ≡ length vs → AreBytes us → AreBytes vs → nat_cmp (big_endian a us) (big_endian b vs) ≡ ordering_then (nat_cmp a b) (slice_cmp nat_cmp us vs)
behind [] [] a b e g h = then_equal (nat_cmp a b)
behind [] (v ∷ vs) a b e g h = absurd (omega arith)
behind (u ∷ us) [] a b e g h = absurd (omega arith)
behind (u ∷ us) (v ∷ vs) a b e g h =
    behind us vs (a * 256 + u) (b * 256 + v) (omega arith) (λ k. g (suc k)) (λ k. h (suc k))
    ∙ ap (λ r. ordering_then r (slice_cmp nat_cmp us vs)) (next_digit a b u v (g 0) (h 0))
    ∙ then_assoc (nat_cmp a b) (nat_cmp u v) (slice_cmp nat_cmp us vs)

-- the first n numbers of a list, one by one
abbrev reads : ℕ → List ℕ → List ℕ
reads zero bytes = []
reads (suc n) bytes = get_or bytes 0 0 ∷ reads n (drop 1 bytes)

all_read : (n : ℕ) (bytes : List ℕ) → length bytes ≡ n → bytes ≡ reads n bytes
all_read zero [] h = refl
all_read zero (b ∷ bytes) h = absurd (omega arith)
all_read (suc n) [] h = absurd (omega arith)
all_read (suc n) (b ∷ bytes) h = ap (λ (rest : List ℕ). b ∷ rest) (all_read n bytes (omega arith))

four_spell : (bytes : List ℕ) → length bytes ≡ 4 → from_be_bytes w32 bytes ≡ big_endian 0 bytes
four_spell bytes h =
    let spelt : from_be_bytes w32 (reads 4 bytes) ≡ big_endian 0 (reads 4 bytes) = omega arith in
    ap (from_be_bytes w32) (all_read 4 bytes h) ∙ spelt ∙ ap (big_endian 0) (sym (all_read 4 bytes h))

sixteen_spell : (bytes : List ℕ) → length bytes ≡ 16 → from_be_bytes w128 bytes ≡ big_endian 0 bytes
sixteen_spell bytes h =
    let spelt : from_be_bytes w128 (reads 16 bytes) ≡ big_endian 0 (reads 16 bytes) = omega arith in
    ap (from_be_bytes w128) (all_read 16 bytes h) ∙ spelt ∙ ap (big_endian 0) (sym (all_read 16 bytes h))

module _ (us vs : List ℕ) (g : AreBytes us) (h : AreBytes vs) where
  pub by_four : length us ≡ 4 → length vs ≡ 4 → nat_cmp (from_be_bytes w32 us) (from_be_bytes w32 vs) ≡ slice_cmp nat_cmp us vs
  by_four p q = (λ i. nat_cmp (four_spell us p i) (four_spell vs q i)) ∙ behind us vs 0 0 (p ∙ sym q) g h

  pub by_sixteen : length us ≡ 16 → length vs ≡ 16 → nat_cmp (from_be_bytes w128 us) (from_be_bytes w128 vs) ≡ slice_cmp nat_cmp us vs
  by_sixteen p q = (λ i. nat_cmp (sixteen_spell us p i) (sixteen_spell vs q i)) ∙ behind us vs 0 0 (p ∙ sym q) g h
