-- Words.
use Rattle.std.proofs.Common.{◌≡◌, ◌≢◌, ℕ, ◌<◌, ◌≤◌, ◌^◌, List, [], ◌∷◌, ◌++◌, length, refl, sym, ap, ◌∙◌, subst, inl, arith}
use Rattle.std.proofs.lemmas.List.{append_assoc}
use Rattle.lw_resp.specs.Reading.{Begins, IsCut, IsMalformed}
use Rattle.lw_resp.specs.Words.{WordContent, IsBulk, IsNumber, IsText, IsWord, word_bytes}
use Rattle.lw_resp.specs.Words.WordContent.{Status, Error, Number, Bulk, Array, Null, NullArray}
use Rattle.lw_resp.specs.inner.Parts.{AreThese, BeginsOther, IsAtMost, as_they_are, bulk_ended, ended, number_ended}
use Rattle.lw_resp.proofs.Exact.{PrefixFree}
use Rattle.lw_resp.proofs.LineLemmas.{same_line}
use Rattle.lw_resp.proofs.NumberLemmas.{decimal_begins, one_number}
use Rattle.lw_resp.proofs.BulkLemmas.{one_bulk}
use Rattle.lw_resp.proofs.Splits.{heads, tails}

-- ---- the first byte of a word, and what stands behind it
abbrev word_kind : WordContent → ℕ
word_kind (Status t) = 43
word_kind (Error t) = 45
word_kind (Number n) = 58
word_kind (Bulk c) = 36
word_kind (Array n) = 42
word_kind Null = 36
word_kind NullArray = 42

abbrev word_tail : WordContent → List ℕ
word_tail (Status t) = ended t
word_tail (Error t) = ended t
word_tail (Number n) = number_ended n
word_tail (Bulk c) = bulk_ended c
word_tail (Array n) = number_ended n
word_tail Null = 45 ∷ 49 ∷ 13 ∷ 10 ∷ []
word_tail NullArray = 45 ∷ 49 ∷ 13 ∷ 10 ∷ []

word_parts : (w : WordContent) → word_bytes w ≡ word_kind w ∷ word_tail w
word_parts (Status t) = refl
word_parts (Error t) = refl
word_parts (Number n) = refl
word_parts (Bulk c) = refl
word_parts (Array n) = refl
word_parts Null = refl
word_parts NullArray = refl

record IsOfKind (kind : ℕ) (behind rest : List ℕ) (w : WordContent) : Type 0 where
  kind_is : kind ≡ word_kind w
  tail_is : behind ≡ word_tail w ++ rest

of_kind : (kind : ℕ) (behind more rest : List ℕ) (w : WordContent) → (kind ∷ behind) ++ more ≡ word_bytes w ++ rest → IsOfKind kind (behind ++ more) rest w
of_kind kind behind more rest w e =
    let all : kind ∷ (behind ++ more) ≡ word_kind w ∷ (word_tail w ++ rest) = e ∙ ap (λ (s : List ℕ). s ++ rest) (word_parts w) in
    record { kind_is = heads kind (word_kind w) (behind ++ more) (word_tail w ++ rest) all; tail_is = tails kind (word_kind w) (behind ++ more) (word_tail w ++ rest) all }

-- ---- a number has no sign
number_plain : (n : ℕ) (x rest : List ℕ) → n < 2 ^ 64 → 45 ∷ x ≡ number_ended n ++ rest → ⊥
number_plain n x rest fits e =
    let d = decimal_begins n fits in
    let all : 45 ∷ x ≡ d.first ∷ ((d.others ++ (13 ∷ 10 ∷ [])) ++ rest) = e ∙ ap (λ (s : List ℕ). (s ++ (13 ∷ 10 ∷ [])) ++ rest) d.is in
    let first : 45 ≡ d.first = heads 45 d.first x ((d.others ++ (13 ∷ 10 ∷ [])) ++ rest) all in
    omega (arith, first, d.digit)

bulk_plain : (c x rest : List ℕ) → IsBulk c → 45 ∷ x ≡ bulk_ended c ++ rest → ⊥
bulk_plain c x rest is e =
    number_plain (length c) x (ended c ++ rest) (omega (arith, is)) (e ∙ append_assoc (number_ended (length c)) (ended c) rest)

-- ---- no word of a kind
pub null_malformed : (behind : List ℕ) → IsMalformed (AreThese (49 ∷ 13 ∷ 10 ∷ [])) as_they_are behind → IsMalformed IsWord word_bytes (36 ∷ 45 ∷ behind)
null_malformed behind m (Status t) is more rest e = let clash : 36 ≡ 43 = (of_kind 36 (45 ∷ behind) more rest (Status t) e).kind_is in omega (arith, clash)
null_malformed behind m (Error t) is more rest e = let clash : 36 ≡ 45 = (of_kind 36 (45 ∷ behind) more rest (Error t) e).kind_is in omega (arith, clash)
null_malformed behind m (Number n) is more rest e = let clash : 36 ≡ 58 = (of_kind 36 (45 ∷ behind) more rest (Number n) e).kind_is in omega (arith, clash)
null_malformed behind m (Bulk c) is more rest e =
    bulk_plain c (behind ++ more) rest is (of_kind 36 (45 ∷ behind) more rest (Bulk c) e).tail_is
null_malformed behind m (Array n) is more rest e = let clash : 36 ≡ 42 = (of_kind 36 (45 ∷ behind) more rest (Array n) e).kind_is in omega (arith, clash)
null_malformed behind m Null is more rest e =
    m (49 ∷ 13 ∷ 10 ∷ []) refl more rest (tails 45 45 (behind ++ more) (49 ∷ 13 ∷ 10 ∷ rest) (of_kind 36 (45 ∷ behind) more rest Null e).tail_is)
null_malformed behind m NullArray is more rest e = let clash : 36 ≡ 42 = (of_kind 36 (45 ∷ behind) more rest NullArray e).kind_is in omega (arith, clash)

pub null_array_malformed : (behind : List ℕ) → IsMalformed (AreThese (49 ∷ 13 ∷ 10 ∷ [])) as_they_are behind → IsMalformed IsWord word_bytes (42 ∷ 45 ∷ behind)
null_array_malformed behind m (Status t) is more rest e = let clash : 42 ≡ 43 = (of_kind 42 (45 ∷ behind) more rest (Status t) e).kind_is in omega (arith, clash)
null_array_malformed behind m (Error t) is more rest e = let clash : 42 ≡ 45 = (of_kind 42 (45 ∷ behind) more rest (Error t) e).kind_is in omega (arith, clash)
null_array_malformed behind m (Number n) is more rest e = let clash : 42 ≡ 58 = (of_kind 42 (45 ∷ behind) more rest (Number n) e).kind_is in omega (arith, clash)
null_array_malformed behind m (Bulk c) is more rest e = let clash : 42 ≡ 36 = (of_kind 42 (45 ∷ behind) more rest (Bulk c) e).kind_is in omega (arith, clash)
null_array_malformed behind m (Array n) is more rest e =
    number_plain n (behind ++ more) rest (omega (arith, is)) (of_kind 42 (45 ∷ behind) more rest (Array n) e).tail_is
null_array_malformed behind m Null is more rest e = let clash : 42 ≡ 36 = (of_kind 42 (45 ∷ behind) more rest Null e).kind_is in omega (arith, clash)
null_array_malformed behind m NullArray is more rest e =
    m (49 ∷ 13 ∷ 10 ∷ []) refl more rest (tails 45 45 (behind ++ more) (49 ∷ 13 ∷ 10 ∷ rest) (of_kind 42 (45 ∷ behind) more rest NullArray e).tail_is)

-- ---- what has come of a word
pub kind_come : (kind : ℕ) (behind tail : List ℕ) (w : WordContent) → IsWord w → length behind ≡ 0 → word_bytes w ≡ kind ∷ tail → 0 < length tail → IsCut IsWord word_bytes (kind ∷ behind)
kind_come kind [] tail w is none split long = record { value = w; valid = is; more = tail; some = long; written = split }
kind_come kind (x ∷ behind) tail w is none split long = absurd (omega (arith, none))

-- ---- one beginning has one word
one_text : (t u x y : List ℕ) → IsText t → IsText u → ended t ++ x ≡ ended u ++ y → (t ≡ u) × (x ≡ y)
one_text t u x y p q e =
    let line : t ++ (13 ∷ 10 ∷ x) ≡ u ++ (13 ∷ 10 ∷ y) = sym (append_assoc t (13 ∷ 10 ∷ []) x) ∙ e ∙ append_assoc u (13 ∷ 10 ∷ []) y in
    let same = same_line t u 13 13 (10 ∷ x) (10 ∷ y) p.in_line q.in_line (inl refl) (inl refl) line in
    (same.0, tails 10 10 x y same.2)

both_kinds : (v w : WordContent) (x y : List ℕ) → word_bytes v ++ x ≡ word_bytes w ++ y → IsOfKind (word_kind v) (word_tail v ++ x) y w
both_kinds v w x y e = of_kind (word_kind v) (word_tail v) x y w (ap (λ (s : List ℕ). s ++ x) (sym (word_parts v)) ∙ e)

pub one_word : PrefixFree IsWord word_bytes
one_word (Status t) (Status u) p q x y e =
    let same = one_text t u x y p q (both_kinds (Status t) (Status u) x y e).tail_is in
    (ap Status same.0, same.1)
one_word (Status t) (Error u) p q x y e = let clash : 43 ≡ 45 = (both_kinds (Status t) (Error u) x y e).kind_is in absurd (omega (arith, clash))
one_word (Status t) (Number m) p q x y e = let clash : 43 ≡ 58 = (both_kinds (Status t) (Number m) x y e).kind_is in absurd (omega (arith, clash))
one_word (Status t) (Bulk d) p q x y e = let clash : 43 ≡ 36 = (both_kinds (Status t) (Bulk d) x y e).kind_is in absurd (omega (arith, clash))
one_word (Status t) (Array m) p q x y e = let clash : 43 ≡ 42 = (both_kinds (Status t) (Array m) x y e).kind_is in absurd (omega (arith, clash))
one_word (Status t) Null p q x y e = let clash : 43 ≡ 36 = (both_kinds (Status t) Null x y e).kind_is in absurd (omega (arith, clash))
one_word (Status t) NullArray p q x y e = let clash : 43 ≡ 42 = (both_kinds (Status t) NullArray x y e).kind_is in absurd (omega (arith, clash))
one_word (Error t) (Status u) p q x y e = let clash : 45 ≡ 43 = (both_kinds (Error t) (Status u) x y e).kind_is in absurd (omega (arith, clash))
one_word (Error t) (Error u) p q x y e =
    let same = one_text t u x y p q (both_kinds (Error t) (Error u) x y e).tail_is in
    (ap Error same.0, same.1)
one_word (Error t) (Number m) p q x y e = let clash : 45 ≡ 58 = (both_kinds (Error t) (Number m) x y e).kind_is in absurd (omega (arith, clash))
one_word (Error t) (Bulk d) p q x y e = let clash : 45 ≡ 36 = (both_kinds (Error t) (Bulk d) x y e).kind_is in absurd (omega (arith, clash))
one_word (Error t) (Array m) p q x y e = let clash : 45 ≡ 42 = (both_kinds (Error t) (Array m) x y e).kind_is in absurd (omega (arith, clash))
one_word (Error t) Null p q x y e = let clash : 45 ≡ 36 = (both_kinds (Error t) Null x y e).kind_is in absurd (omega (arith, clash))
one_word (Error t) NullArray p q x y e = let clash : 45 ≡ 42 = (both_kinds (Error t) NullArray x y e).kind_is in absurd (omega (arith, clash))
one_word (Number n) (Status u) p q x y e = let clash : 58 ≡ 43 = (both_kinds (Number n) (Status u) x y e).kind_is in absurd (omega (arith, clash))
one_word (Number n) (Error u) p q x y e = let clash : 58 ≡ 45 = (both_kinds (Number n) (Error u) x y e).kind_is in absurd (omega (arith, clash))
one_word (Number n) (Number m) p q x y e =
    let same = one_number n m x y (omega (arith, p)) (omega (arith, q)) (both_kinds (Number n) (Number m) x y e).tail_is in
    (ap Number same.0, same.1)
one_word (Number n) (Bulk d) p q x y e = let clash : 58 ≡ 36 = (both_kinds (Number n) (Bulk d) x y e).kind_is in absurd (omega (arith, clash))
one_word (Number n) (Array m) p q x y e = let clash : 58 ≡ 42 = (both_kinds (Number n) (Array m) x y e).kind_is in absurd (omega (arith, clash))
one_word (Number n) Null p q x y e = let clash : 58 ≡ 36 = (both_kinds (Number n) Null x y e).kind_is in absurd (omega (arith, clash))
one_word (Number n) NullArray p q x y e = let clash : 58 ≡ 42 = (both_kinds (Number n) NullArray x y e).kind_is in absurd (omega (arith, clash))
one_word (Bulk c) (Status u) p q x y e = let clash : 36 ≡ 43 = (both_kinds (Bulk c) (Status u) x y e).kind_is in absurd (omega (arith, clash))
one_word (Bulk c) (Error u) p q x y e = let clash : 36 ≡ 45 = (both_kinds (Bulk c) (Error u) x y e).kind_is in absurd (omega (arith, clash))
one_word (Bulk c) (Number m) p q x y e = let clash : 36 ≡ 58 = (both_kinds (Bulk c) (Number m) x y e).kind_is in absurd (omega (arith, clash))
one_word (Bulk c) (Bulk d) p q x y e =
    let same = one_bulk c d x y p q (both_kinds (Bulk c) (Bulk d) x y e).tail_is in
    (ap Bulk same.0, same.1)
one_word (Bulk c) (Array m) p q x y e = let clash : 36 ≡ 42 = (both_kinds (Bulk c) (Array m) x y e).kind_is in absurd (omega (arith, clash))
one_word (Bulk c) Null p q x y e = absurd (bulk_plain c (49 ∷ 13 ∷ 10 ∷ y) x p (sym (both_kinds (Bulk c) Null x y e).tail_is))
one_word (Bulk c) NullArray p q x y e = let clash : 36 ≡ 42 = (both_kinds (Bulk c) NullArray x y e).kind_is in absurd (omega (arith, clash))
one_word (Array n) (Status u) p q x y e = let clash : 42 ≡ 43 = (both_kinds (Array n) (Status u) x y e).kind_is in absurd (omega (arith, clash))
one_word (Array n) (Error u) p q x y e = let clash : 42 ≡ 45 = (both_kinds (Array n) (Error u) x y e).kind_is in absurd (omega (arith, clash))
one_word (Array n) (Number m) p q x y e = let clash : 42 ≡ 58 = (both_kinds (Array n) (Number m) x y e).kind_is in absurd (omega (arith, clash))
one_word (Array n) (Bulk d) p q x y e = let clash : 42 ≡ 36 = (both_kinds (Array n) (Bulk d) x y e).kind_is in absurd (omega (arith, clash))
one_word (Array n) (Array m) p q x y e =
    let same = one_number n m x y (omega (arith, p)) (omega (arith, q)) (both_kinds (Array n) (Array m) x y e).tail_is in
    (ap Array same.0, same.1)
one_word (Array n) Null p q x y e = let clash : 42 ≡ 36 = (both_kinds (Array n) Null x y e).kind_is in absurd (omega (arith, clash))
one_word (Array n) NullArray p q x y e = absurd (number_plain n (49 ∷ 13 ∷ 10 ∷ y) x (omega (arith, p)) (sym (both_kinds (Array n) NullArray x y e).tail_is))
one_word Null (Status u) p q x y e = let clash : 36 ≡ 43 = (both_kinds Null (Status u) x y e).kind_is in absurd (omega (arith, clash))
one_word Null (Error u) p q x y e = let clash : 36 ≡ 45 = (both_kinds Null (Error u) x y e).kind_is in absurd (omega (arith, clash))
one_word Null (Number m) p q x y e = let clash : 36 ≡ 58 = (both_kinds Null (Number m) x y e).kind_is in absurd (omega (arith, clash))
one_word Null (Bulk d) p q x y e = absurd (bulk_plain d (49 ∷ 13 ∷ 10 ∷ x) y q (both_kinds Null (Bulk d) x y e).tail_is)
one_word Null (Array m) p q x y e = let clash : 36 ≡ 42 = (both_kinds Null (Array m) x y e).kind_is in absurd (omega (arith, clash))
one_word Null Null p q x y e =
    let all : 45 ∷ 49 ∷ 13 ∷ 10 ∷ x ≡ 45 ∷ 49 ∷ 13 ∷ 10 ∷ y = (both_kinds Null Null x y e).tail_is in
    (refl, cc)
one_word Null NullArray p q x y e = let clash : 36 ≡ 42 = (both_kinds Null NullArray x y e).kind_is in absurd (omega (arith, clash))
one_word NullArray (Status u) p q x y e = let clash : 42 ≡ 43 = (both_kinds NullArray (Status u) x y e).kind_is in absurd (omega (arith, clash))
one_word NullArray (Error u) p q x y e = let clash : 42 ≡ 45 = (both_kinds NullArray (Error u) x y e).kind_is in absurd (omega (arith, clash))
one_word NullArray (Number m) p q x y e = let clash : 42 ≡ 58 = (both_kinds NullArray (Number m) x y e).kind_is in absurd (omega (arith, clash))
one_word NullArray (Bulk d) p q x y e = let clash : 42 ≡ 36 = (both_kinds NullArray (Bulk d) x y e).kind_is in absurd (omega (arith, clash))
one_word NullArray (Array m) p q x y e = absurd (number_plain m (49 ∷ 13 ∷ 10 ∷ x) y (omega (arith, q)) (both_kinds NullArray (Array m) x y e).tail_is)
one_word NullArray Null p q x y e = let clash : 42 ≡ 36 = (both_kinds NullArray Null x y e).kind_is in absurd (omega (arith, clash))
one_word NullArray NullArray p q x y e =
    let all : 45 ∷ 49 ∷ 13 ∷ 10 ∷ x ≡ 45 ∷ 49 ∷ 13 ∷ 10 ∷ y = (both_kinds NullArray NullArray x y e).tail_is in
    (refl, cc)
