-- Bulk strings.
use Rattle.std.proofs.Common.{◌≡◌, ◌≢◌, ℕ, ◌+◌, ◌-◌, ◌<◌, ◌≤◌, ◌^◌, List, [], ◌∷◌, ◌++◌, length, take, drop, replicate, Option, Some, None, Result, Ok, Err, refl, sym, ap, ◌∙◌, subst, arith}
use Rattle.std.specs.List.{flat_map}
use Rattle.std.proofs.lemmas.List.{append_assoc, length-append, length-replicate, take-append-drop}
use Rattle.lw_resp.specs.Bytes.{bulk_bytes}
use Rattle.lw_resp.specs.Reading.{Begins, IsCut, IsMalformed}
use Rattle.lw_resp.specs.Words.{IsBulk}
use Rattle.lw_resp.specs.inner.Parts.{AreMany, AreThese, as_they_are, HasLength, IsAtMost, bulk_ended, ended, number_ended}
use Rattle.lw_resp.specs.inner.Reads.{Reads}
use Rattle.lw_resp.proofs.Composed.{cut_in_front, malformed_in_front, begins_behind, cut_behind}
use Rattle.lw_resp.proofs.Exact.{PrefixFree}
use Rattle.lw_resp.proofs.NumberLemmas.{one_number}
use Rattle.lw_resp.proofs.Splits.{equal_fronts, tails}

-- ---- the content
pub short_content : (count : ℕ) (bytes : List ℕ) → length bytes < count → IsCut (HasLength count) ended bytes
short_content count bytes short = record {
  value = bytes ++ replicate (count - length bytes) 0;
  valid = omega (arith, length-append {A = ℕ} bytes (replicate (count - length bytes) 0), length-replicate {A = ℕ} (count - length bytes) 0);
  more = replicate (count - length bytes) 0 ++ (13 ∷ 10 ∷ []);
  some = omega (arith, length-append {A = ℕ} (replicate (count - length bytes) 0) (13 ∷ 10 ∷ []));
  written = append_assoc bytes (replicate (count - length bytes) 0) (13 ∷ 10 ∷ []);
}

joined : (count : ℕ) (bytes content end : List ℕ) → content ≡ take count bytes → end ≡ drop count bytes → bytes ≡ content ++ end
joined count bytes content end front back =
    let whole = take-append-drop count bytes in
    cc

pub content_found : (count : ℕ) (bytes content end rest : List ℕ) → length content ≡ count → content ≡ take count bytes → end ≡ drop count bytes
    → Begins (AreThese (13 ∷ 10 ∷ [])) as_they_are end (13 ∷ 10 ∷ []) rest → Begins (HasLength count) ended bytes content rest
content_found count bytes content end rest long front back begins =
    begins_behind (AreThese (13 ∷ 10 ∷ [])) as_they_are (HasLength count) ended bytes content end (joined count bytes content end front back) (13 ∷ 10 ∷ []) rest begins content long refl

pub content_cut : (count : ℕ) (bytes content end : List ℕ) → length content ≡ count → content ≡ take count bytes → end ≡ drop count bytes
    → IsCut (AreThese (13 ∷ 10 ∷ [])) as_they_are end → IsCut (HasLength count) ended bytes
content_cut count bytes content end long front back cut =
    cut_behind (AreThese (13 ∷ 10 ∷ [])) as_they_are (HasLength count) ended bytes content end (joined count bytes content end front back) cut content long
    (ap (λ (s : List ℕ). content ++ s) (sym cut.valid))

pub content_malformed : (count : ℕ) (bytes content end : List ℕ) → length content ≡ count → content ≡ take count bytes → end ≡ drop count bytes
    → IsMalformed (AreThese (13 ∷ 10 ∷ [])) as_they_are end → IsMalformed (HasLength count) ended bytes
content_malformed count bytes content end long front back malformed value is more rest e =
    let whole = joined count bytes content end front back in
    let all : content ++ (end ++ more) ≡ value ++ (13 ∷ 10 ∷ rest) =
    sym (append_assoc content end more) ∙ ap (λ (s : List ℕ). s ++ more) (sym whole) ∙ e ∙ append_assoc value (13 ∷ 10 ∷ []) rest in
    let same = equal_fronts content (end ++ more) value (13 ∷ 10 ∷ rest) (long ∙ sym is) all in
    malformed (13 ∷ 10 ∷ []) refl more rest same.1

-- ---- the length, and the content
parts : (n : ℕ) (content : List ℕ) → length content ≡ n → bulk_ended content ≡ number_ended n ++ ended content
parts n content long = ap (λ (k : ℕ). number_ended k ++ ended content) long

pub bulk_reads : {R E : Type 0} (n : ℕ) (bytes behind : List ℕ) (value rest : R → List ℕ) → Begins (IsAtMost 536870912) number_ended bytes n behind
    → (r : Result (Option R) E) → Reads (HasLength n) ended behind r value rest → Reads IsBulk bulk_ended bytes r value rest
bulk_reads n bytes behind value rest line (Ok (Some x)) h =
    begins_behind (HasLength n) ended IsBulk bulk_ended bytes (number_ended n) behind line.written (value x) (rest x) h (value x)
    (omega (arith, h.valid, line.valid)) (parts n (value x) h.valid)
bulk_reads n bytes behind value rest line (Ok None) h =
    cut_behind (HasLength n) ended IsBulk bulk_ended bytes (number_ended n) behind line.written h h.value
    (omega (arith, h.valid, line.valid)) (parts n h.value h.valid)
bulk_reads n bytes behind value rest line (Err x) h = λ content is more tail e.
    let all : number_ended n ++ (behind ++ more) ≡ number_ended (length content) ++ (ended content ++ tail) =
    sym (append_assoc (number_ended n) behind more) ∙ ap (λ (s : List ℕ). s ++ more) (sym line.written) ∙ e ∙ append_assoc (number_ended (length content)) (ended content) tail in
    let same = one_number n (length content) (behind ++ more) (ended content ++ tail) (omega (arith, line.valid)) (omega (arith, is)) all in
    h content (sym same.0) more tail same.1

pub bulk_cut : (bytes : List ℕ) → IsCut (IsAtMost 536870912) number_ended bytes → IsCut IsBulk bulk_ended bytes
bulk_cut bytes cut =
    let long = length-replicate {A = ℕ} cut.value 0 in
    cut_in_front (IsAtMost 536870912) number_ended IsBulk bulk_ended bytes cut (replicate cut.value 0) (ended (replicate cut.value 0))
    (omega (arith, long, cut.valid)) (parts cut.value (replicate cut.value 0) long)

pub bulk_malformed : (bytes : List ℕ) → IsMalformed (IsAtMost 536870912) number_ended bytes → IsMalformed IsBulk bulk_ended bytes
bulk_malformed bytes malformed =
    malformed_in_front (IsAtMost 536870912) number_ended IsBulk bulk_ended bytes length ended (λ content is. is) (λ content. refl) malformed

pub one_bulk : (c d x y : List ℕ) → IsBulk c → IsBulk d → bulk_ended c ++ x ≡ bulk_ended d ++ y → (c ≡ d) × (x ≡ y)
one_bulk c d x y p q e =
    let all : number_ended (length c) ++ (ended c ++ x) ≡ number_ended (length d) ++ (ended d ++ y) =
    sym (append_assoc (number_ended (length c)) (ended c) x) ∙ e ∙ append_assoc (number_ended (length d)) (ended d) y in
    let same = one_number (length c) (length d) (ended c ++ x) (ended d ++ y) (omega (arith, p)) (omega (arith, q)) all in
    let contents : c ++ (13 ∷ 10 ∷ x) ≡ d ++ (13 ∷ 10 ∷ y) = sym (append_assoc c (13 ∷ 10 ∷ []) x) ∙ same.1 ∙ append_assoc d (13 ∷ 10 ∷ []) y in
    let fronts = equal_fronts c (13 ∷ 10 ∷ x) d (13 ∷ 10 ∷ y) same.0 contents in
    (fronts.0, tails 10 10 x y (tails 13 13 (10 ∷ x) (10 ∷ y) fronts.1))

pub one_bulk_bytes : PrefixFree IsBulk bulk_bytes
one_bulk_bytes c d p q x y e = one_bulk c d x y p q (tails 36 36 (bulk_ended c ++ x) (bulk_ended d ++ y) e)
