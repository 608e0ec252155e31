-- Entries of a stream.
use Rattle.std.proofs.Common.{◌≡◌, ◌≢◌, ℕ, ◌+◌, ◌<◌, ◌≤◌, ◌^◌, List, [], ◌∷◌, ◌++◌, length, replicate, Option, Some, None, Result, Ok, Err, Bor, refl, sym, ap, ◌∙◌, subst, arith}
use Rattle.std.specs.Prelude.{codes, All}
use Rattle.std.specs.Fmt.{decimal}
use Rattle.std.specs.List.{flat_map}
use Rattle.std.proofs.lemmas.Fmt.{decimal_digit}
use Rattle.std.proofs.lemmas.List.{append_assoc, length-replicate}
use Rattle.std.proofs.lemmas.List.Elements.{All-nil, All-replicate}
use Rattle.lw_resp.specs.Bytes.{bulk_bytes, command_bytes, count_line}
use Rattle.lw_resp.specs.Reading.{Begins, IsCut, IsMalformed}
use Rattle.lw_resp.specs.Streams.{EntryContent, IsArrayOf, IsEntry, IsEntryOf, IsValueOf, entry_bytes, pair_bytes}
use Rattle.lw_resp.specs.Words.{IsBulk}
use Rattle.lw_resp.specs.declared.entries.Entry.{Entry}
use Rattle.lw_resp.specs.inner.Parts.{AreMany, AreThese, IsAtMost, as_they_are}
use Rattle.lw_resp.specs.inner.Reads.{ReadsAs}
use Rattle.lw_resp.proofs.BulkLemmas.{one_bulk_bytes}
use Rattle.lw_resp.proofs.Composed.{IsPair, cut_in_front, malformed_in_front, begins_behind, cut_behind, pair_found, pair_cut_first, pair_cut, pair_malformed_first, pair_malformed}
use Rattle.lw_resp.proofs.Exact.{PrefixFree}
use Rattle.lw_resp.proofs.Many.{many_none, many_more, many_cut, many_malformed, many_free}
use Rattle.lw_resp.proofs.NumberLemmas.{one_number}
use Rattle.lw_resp.proofs.Splits.{equal_fronts, tails}

abbrev pub TellsValue : {R : Type 0} → (R → Option (Bor (List ℕ))) → R → List (List ℕ) → Type 0
TellsValue value x fields = IsValueOf fields (value x)

-- ---- a name and a value
named : (bytes : List ℕ) (name behind : List ℕ) → Begins IsBulk bulk_bytes bytes name behind → Begins (AreMany IsBulk 1) (flat_map bulk_bytes) bytes (name ∷ []) behind
named bytes name behind begins = many_more IsBulk bulk_bytes bytes bytes behind 0 [] name (many_none IsBulk bulk_bytes bytes) begins

pub named_reads : {R E : Type 0} (bytes name behind : List ℕ) (value : R → Option (Bor (List ℕ))) (rest : R → List ℕ) → Begins IsBulk bulk_bytes bytes name behind
    → (r : Result (Option R) E) → ReadsAs IsBulk bulk_bytes behind r (λ x v. IsValueOf (name ∷ v ∷ []) (value x)) rest
    → ReadsAs (AreMany IsBulk 2) (flat_map bulk_bytes) bytes r (λ x fields. IsValueOf fields (value x)) rest
named_reads bytes name behind value rest begins (Ok (Some x)) h =
    (name ∷ h.0 ∷ [], h.1, many_more IsBulk bulk_bytes bytes behind (rest x) 1 (name ∷ []) h.0 (named bytes name behind begins) h.2)
named_reads bytes name behind value rest begins (Ok None) h =
    many_cut IsBulk bulk_bytes bytes behind 1 2 (name ∷ []) [] (omega arith) (omega arith) (named bytes name behind begins) h
named_reads bytes name behind value rest begins (Err x) h =
    many_malformed IsBulk bulk_bytes one_bulk_bytes bytes behind 1 2 (name ∷ []) (omega arith) (named bytes name behind begins) h

pub no_name : (bytes : List ℕ) → IsCut IsBulk bulk_bytes bytes → IsCut (AreMany IsBulk 2) (flat_map bulk_bytes) bytes
no_name bytes cut = many_cut IsBulk bulk_bytes bytes bytes 0 2 [] [] (omega arith) (omega arith) (many_none IsBulk bulk_bytes bytes) cut

pub bad_name : (bytes : List ℕ) → IsMalformed IsBulk bulk_bytes bytes → IsMalformed (AreMany IsBulk 2) (flat_map bulk_bytes) bytes
bad_name bytes malformed = many_malformed IsBulk bulk_bytes one_bulk_bytes bytes bytes 0 2 [] (omega arith) (many_none IsBulk bulk_bytes bytes) malformed

-- so many fields, if they are two
pub two_fields : {R E : Type 0} (number : ℕ) (bytes : List ℕ) (value : R → Option (Bor (List ℕ))) (rest : R → List ℕ) → number ≡ 2
    → (r : Result (Option R) E) → ReadsAs (AreMany IsBulk 2) (flat_map bulk_bytes) bytes r (λ x fields. IsValueOf fields (value x)) rest
    → ReadsAs (AreMany IsBulk number) (flat_map bulk_bytes) bytes r (λ x fields. IsValueOf fields (value x)) rest
two_fields number bytes value rest two r h =
    subst (λ (k : ℕ). ReadsAs (AreMany IsBulk k) (flat_map bulk_bytes) bytes r (λ x fields. IsValueOf fields (value x)) rest) (sym two) h

pub other_fields : (number : ℕ) (fields : List (List ℕ)) → length fields ≡ number → (number ≡ 2 → ⊥) → (v : List ℕ) → fields ≢ codes "e" ∷ v ∷ []
other_fields number fields long other v e = other (sym long ∙ ap length e)

-- ---- an array: how many, and each
abbrev pub array_bytes : {A : Type 0} → (A → List ℕ) → List A → List ℕ
array_bytes spell values = count_line 42 (length values) ++ flat_map spell values

one_count : (n m : ℕ) (x y : List ℕ) → n < 2 ^ 64 → m < 2 ^ 64 → count_line 42 n ++ x ≡ count_line 42 m ++ y → (n ≡ m) × (x ≡ y)
one_count n m x y p q e = one_number n m x y p q (tails 42 42 ((decimal n ++ (13 ∷ 10 ∷ [])) ++ x) ((decimal m ++ (13 ∷ 10 ∷ [])) ++ y) e)

counted : {A : Type 0} (spell : A → List ℕ) (n : ℕ) (values : List A) → length values ≡ n → array_bytes spell values ≡ count_line 42 n ++ flat_map spell values
counted spell n values long = ap (λ (k : ℕ). count_line 42 k ++ flat_map spell values) long

pub array_found : {A : Type 0} (Is : A → Type 0) (spell : A → List ℕ) (n : ℕ) (bytes behind rest : List ℕ) (values : List A) → Begins (IsAtMost 9223372036854775807) (count_line 42) bytes n behind
    → Begins (AreMany Is n) (flat_map spell) behind values rest → Begins (IsArrayOf Is) (array_bytes spell) bytes values rest
array_found Is spell n bytes behind rest values head h =
    begins_behind (AreMany Is n) (flat_map spell) (IsArrayOf Is) (array_bytes spell) bytes (count_line 42 n) behind head.written values rest h values
    (record { each = h.valid.each; number = omega (arith, h.valid.many, head.valid) }) (counted spell n values h.valid.many)

pub array_cut : {A : Type 0} (Is : A → Type 0) (spell : A → List ℕ) (n : ℕ) (bytes behind : List ℕ) → Begins (IsAtMost 9223372036854775807) (count_line 42) bytes n behind
    → IsCut (AreMany Is n) (flat_map spell) behind → IsCut (IsArrayOf Is) (array_bytes spell) bytes
array_cut Is spell n bytes behind head h =
    cut_behind (AreMany Is n) (flat_map spell) (IsArrayOf Is) (array_bytes spell) bytes (count_line 42 n) behind head.written h h.value
    (record { each = h.valid.each; number = omega (arith, h.valid.many, head.valid) }) (counted spell n h.value h.valid.many)

pub array_malformed : {A : Type 0} (Is : A → Type 0) (spell : A → List ℕ) (n : ℕ) (bytes behind : List ℕ) → Begins (IsAtMost 9223372036854775807) (count_line 42) bytes n behind
    → IsMalformed (AreMany Is n) (flat_map spell) behind → IsMalformed (IsArrayOf Is) (array_bytes spell) bytes
array_malformed Is spell n bytes behind head h values is more tail e =
    let all : count_line 42 n ++ (behind ++ more) ≡ count_line 42 (length values) ++ (flat_map spell values ++ tail) =
    sym (append_assoc (count_line 42 n) behind more) ∙ ap (λ (s : List ℕ). s ++ more) (sym head.written) ∙ e ∙ append_assoc (count_line 42 (length values)) (flat_map spell values) tail in
    let same = one_count n (length values) (behind ++ more) (flat_map spell values ++ tail) (omega (arith, head.valid)) (omega (arith, is.number)) all in
    h values (record { many = sym same.0; each = is.each }) more tail same.1

pub array_head_cut : {A : Type 0} (Is : A → Type 0) (spell : A → List ℕ) (other : A) (bytes : List ℕ) → Is other → IsCut (IsAtMost 9223372036854775807) (count_line 42) bytes
    → IsCut (IsArrayOf Is) (array_bytes spell) bytes
array_head_cut Is spell other bytes is cut =
    let long = length-replicate cut.value other in
    cut_in_front (IsAtMost 9223372036854775807) (count_line 42) (IsArrayOf Is) (array_bytes spell) bytes cut (replicate cut.value other) (flat_map spell (replicate cut.value other))
    (record { each = All-replicate Is cut.value other is; number = omega (arith, long, cut.valid) }) (counted spell cut.value (replicate cut.value other) long)

pub array_head_malformed : {A : Type 0} (Is : A → Type 0) (spell : A → List ℕ) (bytes : List ℕ) → IsMalformed (IsAtMost 9223372036854775807) (count_line 42) bytes
    → IsMalformed (IsArrayOf Is) (array_bytes spell) bytes
array_head_malformed Is spell bytes malformed =
    malformed_in_front (IsAtMost 9223372036854775807) (count_line 42) (IsArrayOf Is) (array_bytes spell) bytes length (flat_map spell)
    (λ values is. omega (arith, is.number)) (λ values. refl) malformed

pub array_free : {A : Type 0} (Is : A → Type 0) (spell : A → List ℕ) → PrefixFree Is spell → PrefixFree (IsArrayOf Is) (array_bytes spell)
array_free Is spell free xs ys p q x y e =
    let all : count_line 42 (length xs) ++ (flat_map spell xs ++ x) ≡ count_line 42 (length ys) ++ (flat_map spell ys ++ y) =
    sym (append_assoc (count_line 42 (length xs)) (flat_map spell xs) x) ∙ e ∙ append_assoc (count_line 42 (length ys)) (flat_map spell ys) y in
    let same = one_count (length xs) (length ys) (flat_map spell xs ++ x) (flat_map spell ys ++ y) (omega (arith, p.number)) (omega (arith, q.number)) all in
    many_free Is spell free xs ys x y p.each q.each same.0 same.1

pub fields_read : {R E : Type 0} (n : ℕ) (bytes behind : List ℕ) (value : R → Option (Bor (List ℕ))) (rest : R → List ℕ) → Begins (IsAtMost 9223372036854775807) (count_line 42) bytes n behind
    → (r : Result (Option R) E) → ReadsAs (AreMany IsBulk n) (flat_map bulk_bytes) behind r (λ x fields. IsValueOf fields (value x)) rest
    → ReadsAs (IsArrayOf IsBulk) command_bytes bytes r (λ x fields. IsValueOf fields (value x)) rest
fields_read n bytes behind value rest head (Ok (Some x)) h = (h.0, h.1, array_found IsBulk bulk_bytes n bytes behind (rest x) h.0 head h.2)
fields_read n bytes behind value rest head (Ok None) h = array_cut IsBulk bulk_bytes n bytes behind head h
fields_read n bytes behind value rest head (Err x) h = array_malformed IsBulk bulk_bytes n bytes behind head h

pub no_fields_cut : (bytes : List ℕ) → IsCut (IsAtMost 9223372036854775807) (count_line 42) bytes → IsCut (IsArrayOf IsBulk) command_bytes bytes
no_fields_cut bytes cut = array_head_cut IsBulk bulk_bytes [] bytes (omega arith) cut

pub no_fields : (bytes : List ℕ) → IsMalformed (IsAtMost 9223372036854775807) (count_line 42) bytes → IsMalformed (IsArrayOf IsBulk) command_bytes bytes
no_fields bytes malformed = array_head_malformed IsBulk bulk_bytes bytes malformed

-- ---- the identifier and the fields
abbrev entry_of : List ℕ → List (List ℕ) → EntryContent
entry_of id fields = record { id = id; fields = fields }

entry_parts : IsPair IsBulk bulk_bytes (IsArrayOf IsBulk) command_bytes IsEntry pair_bytes (λ e. e.id) (λ e. e.fields) entry_of
entry_parts = record {
  parts = λ e is. (is.id, is.fields);
  split = λ e. refl;
  joined = λ id fields p q. record { id = p; fields = q };
  spelled = λ id fields p. refl;
}

empty_fields : IsArrayOf IsBulk []
empty_fields = record { each = All-nil IsBulk; number = omega arith }

pub pair_is : (bytes behind rest id : List ℕ) (fields : List (List ℕ)) → Begins IsBulk bulk_bytes bytes id behind → Begins (IsArrayOf IsBulk) command_bytes behind fields rest
    → Begins IsEntry pair_bytes bytes (record { id = id; fields = fields }) rest
pair_is bytes behind rest id fields begins next =
    pair_found IsBulk bulk_bytes (IsArrayOf IsBulk) command_bytes IsEntry pair_bytes (λ e. e.id) (λ e. e.fields) entry_of entry_parts bytes behind rest id fields begins next

pub id_cut : (bytes : List ℕ) → IsCut IsBulk bulk_bytes bytes → IsCut IsEntry pair_bytes bytes
id_cut bytes cut =
    pair_cut_first IsBulk bulk_bytes (IsArrayOf IsBulk) command_bytes IsEntry pair_bytes (λ e. e.id) (λ e. e.fields) entry_of entry_parts bytes [] empty_fields cut

pub fields_cut : (bytes behind id : List ℕ) → Begins IsBulk bulk_bytes bytes id behind → IsCut (IsArrayOf IsBulk) command_bytes behind → IsCut IsEntry pair_bytes bytes
fields_cut bytes behind id begins cut =
    pair_cut IsBulk bulk_bytes (IsArrayOf IsBulk) command_bytes IsEntry pair_bytes (λ e. e.id) (λ e. e.fields) entry_of entry_parts bytes behind id begins cut

pub id_malformed : (bytes : List ℕ) → IsMalformed IsBulk bulk_bytes bytes → IsMalformed IsEntry pair_bytes bytes
id_malformed bytes malformed =
    pair_malformed_first IsBulk bulk_bytes (IsArrayOf IsBulk) command_bytes IsEntry pair_bytes (λ e. e.id) (λ e. e.fields) entry_of entry_parts bytes malformed

pub fields_malformed : (bytes behind id : List ℕ) → Begins IsBulk bulk_bytes bytes id behind → IsMalformed (IsArrayOf IsBulk) command_bytes behind → IsMalformed IsEntry pair_bytes bytes
fields_malformed bytes behind id begins malformed =
    pair_malformed IsBulk bulk_bytes (IsArrayOf IsBulk) command_bytes IsEntry pair_bytes (λ e. e.id) (λ e. e.fields) entry_of entry_parts one_bulk_bytes bytes behind id begins malformed

pub pair_reads : {R E : Type 0} (bytes id behind : List ℕ) (entry : R → Entry) (rest : R → List ℕ) → Begins IsBulk bulk_bytes bytes id behind
    → (r : Result (Option R) E) → ReadsAs (IsArrayOf IsBulk) command_bytes behind r (λ x fields. ((entry x).id.now ≡ id) × IsValueOf fields (entry x).value) rest
    → ReadsAs IsEntry pair_bytes bytes r (λ x e. IsEntryOf e (entry x)) rest
pair_reads bytes id behind entry rest begins (Ok (Some x)) h =
    (entry_of id h.0, record { id = h.1.0; value = h.1.1 }, pair_is bytes behind (rest x) id h.0 begins h.2)
pair_reads bytes id behind entry rest begins (Ok None) h = fields_cut bytes behind id begins h
pair_reads bytes id behind entry rest begins (Err x) h = fields_malformed bytes behind id begins h

-- ---- the whole entry
abbrev head : List ℕ
head = 42 ∷ 50 ∷ 13 ∷ 10 ∷ []

two_line : count_line 42 2 ≡ head
two_line = ap (λ (s : List ℕ). 42 ∷ (s ++ (13 ∷ 10 ∷ []))) (decimal_digit 2 (omega arith))

whole_parts : IsPair (AreThese head) as_they_are IsEntry pair_bytes IsEntry entry_bytes (λ e. head) (λ e. e) (λ a e. e)
whole_parts = record {
  parts = λ e is. (refl, is);
  split = λ e. ap (λ (s : List ℕ). s ++ pair_bytes e) two_line;
  joined = λ a e p q. q;
  spelled = λ a e p. ap (λ (s : List ℕ). s ++ pair_bytes e) (two_line ∙ sym p);
}

one_head : PrefixFree (AreThese head) as_they_are
one_head a b p q x y e =
    let same : a ≡ b = p ∙ sym q in
    equal_fronts a x b y (ap length same) e

abbrev pub some_entry : EntryContent
some_entry = record { id = []; fields = [] }

pub some_entry_is : IsEntry some_entry
some_entry_is = record { id = omega arith; fields = empty_fields }

pub entry_reads : {R E : Type 0} (bytes behind : List ℕ) (tells : R → EntryContent → Type 0) (rest : R → List ℕ) → Begins (AreThese (42 ∷ 50 ∷ 13 ∷ 10 ∷ [])) as_they_are bytes (42 ∷ 50 ∷ 13 ∷ 10 ∷ []) behind
    → (r : Result (Option R) E) → ReadsAs IsEntry pair_bytes behind r tells rest → ReadsAs IsEntry entry_bytes bytes r tells rest
entry_reads bytes behind tells rest begins (Ok (Some x)) h =
    (h.0, h.1, pair_found (AreThese head) as_they_are IsEntry pair_bytes IsEntry entry_bytes (λ e. head) (λ e. e) (λ a e. e) whole_parts bytes behind (rest x) head h.0 begins h.2)
entry_reads bytes behind tells rest begins (Ok None) h =
    pair_cut (AreThese head) as_they_are IsEntry pair_bytes IsEntry entry_bytes (λ e. head) (λ e. e) (λ a e. e) whole_parts bytes behind head begins h
entry_reads bytes behind tells rest begins (Err x) h =
    pair_malformed (AreThese head) as_they_are IsEntry pair_bytes IsEntry entry_bytes (λ e. head) (λ e. e) (λ a e. e) whole_parts one_head bytes behind head begins h

pub head_cut : (bytes : List ℕ) → IsCut (AreThese (42 ∷ 50 ∷ 13 ∷ 10 ∷ [])) as_they_are bytes → IsCut IsEntry entry_bytes bytes
head_cut bytes cut =
    pair_cut_first (AreThese head) as_they_are IsEntry pair_bytes IsEntry entry_bytes (λ e. head) (λ e. e) (λ a e. e) whole_parts bytes (record { id = []; fields = [] }) some_entry_is cut

pub head_malformed : (bytes : List ℕ) → IsMalformed (AreThese (42 ∷ 50 ∷ 13 ∷ 10 ∷ [])) as_they_are bytes → IsMalformed IsEntry entry_bytes bytes
head_malformed bytes malformed =
    pair_malformed_first (AreThese head) as_they_are IsEntry pair_bytes IsEntry entry_bytes (λ e. head) (λ e. e) (λ a e. e) whole_parts bytes malformed

-- one beginning has one entry
pub one_entry : PrefixFree IsEntry entry_bytes
one_entry d e p q x y same =
    let all : count_line 42 2 ++ (bulk_bytes d.id ++ (command_bytes d.fields ++ x)) ≡ count_line 42 2 ++ (bulk_bytes e.id ++ (command_bytes e.fields ++ y)) =
    whole d x ∙ same ∙ sym (whole e y) in
    let behind = equal_fronts (count_line 42 2) (bulk_bytes d.id ++ (command_bytes d.fields ++ x)) (count_line 42 2) (bulk_bytes e.id ++ (command_bytes e.fields ++ y)) refl all in
    let ids = one_bulk_bytes d.id e.id p.id q.id (command_bytes d.fields ++ x) (command_bytes e.fields ++ y) behind.1 in
    let fields = array_free IsBulk bulk_bytes one_bulk_bytes d.fields e.fields p.fields q.fields x y ids.1 in
    let id : d.id ≡ e.id = ids.0 in
    let others : d.fields ≡ e.fields = fields.0 in
    ((λ i. record { id = id i; fields = others i }), fields.1)
  where
    whole : (e : EntryContent) (x : List ℕ) → count_line 42 2 ++ (bulk_bytes e.id ++ (command_bytes e.fields ++ x)) ≡ entry_bytes e ++ x
    whole e x =
        ap (λ (s : List ℕ). count_line 42 2 ++ s) (sym (append_assoc (bulk_bytes e.id) (command_bytes e.fields) x))
        ∙ sym (append_assoc (count_line 42 2) (pair_bytes e) x)
