-- Replies.
use Rattle.std.proofs.Common.{◌≡◌, ◌≢◌, ℕ, ◌+◌, ◌<◌, ◌≤◌, ◌^◌, List, [], ◌∷◌, ◌++◌, length, replicate, Option, Some, None, Result, Ok, Err, IfOk, IfSome, refl, sym, ap, ◌∙◌, subst, inl, inr, arith}
use Rattle.std.specs.Prelude.{◌⊎◌, IsOkAnd, IsSomeAnd, All}
use Rattle.std.specs.List.{flat_map, AllZip}
use Rattle.std.specs.Option.{MatchOption}
use Rattle.std.proofs.lemmas.List.{append_assoc, append-nil, length-replicate}
use Rattle.std.proofs.lemmas.List.Elements.{All-replicate}
use Rattle.lw_resp.specs.Bytes.{count_line}
use Rattle.lw_resp.specs.Reading.{Begins, IsCut, IsMalformed}
use Rattle.lw_resp.specs.Replies.{IsReply, IsSingle, ReplyContent, reply_bytes}
use Rattle.lw_resp.specs.Replies.ReplyContent.{Single, Entries}
use Rattle.lw_resp.specs.Streams.{EntryContent, IsArrayOf, IsEntry, entry_bytes}
use Rattle.lw_resp.specs.Words.{WordContent, IsWord, word_bytes, word_content}
use Rattle.lw_resp.specs.Words.WordContent.{Status, Error, Number, Bulk, Array, Null, NullArray}
use Rattle.lw_resp.specs.declared.malformed.ReplyFault.{ReplyFault}
use Rattle.lw_resp.specs.declared.malformed.ReplyFault.TheVariants.{Malformed, NoMemory}
use Rattle.lw_resp.specs.declared.words.Word.{Word}
use Rattle.lw_resp.specs.declared.words.Word.TheVariants.{Status as StatusWord, Error as ErrorWord, Number as NumberWord, Bulk as BulkWord, Array as ArrayWord, Null as NullWord, NullArray as NullArrayWord}
use Rattle.lw_resp.specs.inner.Parts.{AreMany, IsAtMost}
use Rattle.lw_resp.specs.inner.Reads.{ReadsOrNoMemory}
use Rattle.lw_resp.proofs.Composed.{cut_in_front, malformed_in_front}
use Rattle.lw_resp.proofs.EntryLemmas.{array_bytes, array_found, array_cut, array_malformed, array_free, one_entry, some_entry, some_entry_is}
use Rattle.lw_resp.proofs.Exact.{PrefixFree, begins_or_cut, begins_or_malformed, cut_or_malformed}
use Rattle.lw_resp.proofs.WordLemmas.{one_word}

-- ---- what is shown of entries
pub zip_push : {A B : Type 0} (R : A → B → Type 0) (xs : List A) (ys : List B) (x : A) (y : B) → AllZip R xs ys → R x y → AllZip R (xs ++ x ∷ []) (ys ++ y ∷ [])
zip_push R [] [] x y h r = (r, tt)
zip_push R [] (b ∷ ys) x y h r = absurd h
zip_push R (a ∷ xs) [] x y h r = absurd h
zip_push R (a ∷ xs) (b ∷ ys) x y h r = (h.0, zip_push R xs ys x y h.1 r)

-- ---- a word
no_array : (w : Word) → ((n : ℕ) → w ≢ ArrayWord n) → (n : ℕ) → word_content w ≢ Array n
no_array (StatusWord t) h n e = absurd cc
no_array (ErrorWord t) h n e = absurd cc
no_array (NumberWord m) h n e = absurd cc
no_array (BulkWord c) h n e = absurd cc
no_array (ArrayWord m) h n e = h m refl
no_array NullWord h n e = absurd cc
no_array NullArrayWord h n e = absurd cc

pub single_found : (w : Word) (rest : List ℕ) → IsWord (word_content w) → ((n : ℕ) → w ≢ ArrayWord n)
    → Begins IsReply reply_bytes (word_bytes (word_content w) ++ rest) (Single (word_content w)) rest
single_found w rest is other = record { valid = record { is = is; single = no_array w other }; written = refl }

of_word : (bytes : List ℕ) (cut : IsCut IsWord word_bytes bytes) → IsSingle cut.value → IsCut IsReply reply_bytes bytes
of_word bytes cut is = record { value = Single cut.value; valid = is; more = cut.more; some = cut.some; written = cut.written }

entries_of : (bytes : List ℕ) (cut : IsCut IsWord word_bytes bytes) (n : ℕ) → cut.value ≡ Array n → n < 2 ^ 63 → IsCut IsReply reply_bytes bytes
entries_of bytes cut n is fits =
    let long = length-replicate n some_entry in
    cut_in_front IsWord word_bytes IsReply reply_bytes bytes cut (Entries (replicate n some_entry)) (flat_map entry_bytes (replicate n some_entry))
    (record { each = All-replicate IsEntry n some_entry some_entry_is; number = omega (arith, long, fits) })
    (ap (λ (k : ℕ). count_line 42 k ++ flat_map entry_bytes (replicate n some_entry)) long
    ∙ ap (λ (w : WordContent). word_bytes w ++ flat_map entry_bytes (replicate n some_entry)) (sym is))

by_word : (bytes : List ℕ) (cut : IsCut IsWord word_bytes bytes) (w : WordContent) → cut.value ≡ w → IsWord w → IsCut IsReply reply_bytes bytes
by_word bytes cut (Status t) e is = of_word bytes cut (record { is = cut.valid; single = λ n f. absurd cc })
by_word bytes cut (Error t) e is = of_word bytes cut (record { is = cut.valid; single = λ n f. absurd cc })
by_word bytes cut (Number m) e is = of_word bytes cut (record { is = cut.valid; single = λ n f. absurd cc })
by_word bytes cut (Bulk c) e is = of_word bytes cut (record { is = cut.valid; single = λ n f. absurd cc })
by_word bytes cut (Array m) e is = entries_of bytes cut m e is
by_word bytes cut Null e is = of_word bytes cut (record { is = cut.valid; single = λ n f. absurd cc })
by_word bytes cut NullArray e is = of_word bytes cut (record { is = cut.valid; single = λ n f. absurd cc })

pub word_cut : (bytes : List ℕ) → IsCut IsWord word_bytes bytes → IsCut IsReply reply_bytes bytes
word_cut bytes cut = by_word bytes cut cut.value refl cut.valid

abbrev first_of : ReplyContent → WordContent
first_of (Single w) = w
first_of (Entries es) = Array (length es)

abbrev behind_first : ReplyContent → List ℕ
behind_first (Single w) = []
behind_first (Entries es) = flat_map entry_bytes es

first_is : (r : ReplyContent) → IsReply r → IsWord (first_of r)
first_is (Single w) is = is.is
first_is (Entries es) is = is.number

first_split : (r : ReplyContent) → reply_bytes r ≡ word_bytes (first_of r) ++ behind_first r
first_split (Single w) = sym (append-nil (word_bytes w))
first_split (Entries es) = refl

pub word_malformed : (bytes : List ℕ) → IsMalformed IsWord word_bytes bytes → IsMalformed IsReply reply_bytes bytes
word_malformed bytes malformed = malformed_in_front IsWord word_bytes IsReply reply_bytes bytes first_of behind_first first_is first_split malformed

-- ---- an array
entries_malformed : (n : ℕ) (behind : List ℕ) → n < 2 ^ 63 → IsMalformed (AreMany IsEntry n) (flat_map entry_bytes) behind → IsMalformed IsReply reply_bytes (count_line 42 n ++ behind)
entries_malformed n behind fits malformed (Single w) is more rest e =
    let same = one_word (Array n) w fits is.is (behind ++ more) rest (sym (append_assoc (count_line 42 n) behind more) ∙ e) in
    is.single n (sym same.0)
entries_malformed n behind fits malformed (Entries es) is more rest e =
    array_malformed IsEntry entry_bytes n (count_line 42 n ++ behind) behind (record { valid = omega (arith, fits); written = refl }) malformed es is more rest e

pub reply_reads : {R : Type 0} (n : ℕ) (behind : List ℕ) (tells : R → ReplyContent → Type 0) (rest : R → List ℕ) → n < 2 ^ 63
    → (r : Result (Option R) ReplyFault) → ReadsOrNoMemory (AreMany IsEntry n) (flat_map entry_bytes) behind r (λ x es. tells x (Entries es)) rest
    → ReadsOrNoMemory IsReply reply_bytes (count_line 42 n ++ behind) r tells rest
reply_reads n behind tells rest fits (Ok (Some x)) h =
    let found = array_found IsEntry entry_bytes n (count_line 42 n ++ behind) behind (rest x) h.0 (record { valid = omega (arith, fits); written = refl }) h.2 in
    (Entries h.0, h.1, record { valid = found.valid; written = found.written })
reply_reads n behind tells rest fits (Ok None) h =
    let cut = array_cut IsEntry entry_bytes n (count_line 42 n ++ behind) behind (record { valid = omega (arith, fits); written = refl }) h in
    record { value = Entries cut.value; valid = cut.valid; more = cut.more; some = cut.some; written = cut.written }
reply_reads n behind tells rest fits (Err fault) h = λ e. entries_malformed n behind fits (h e)

pub array_reply : {R : Type 0} (w : Word) (n : ℕ) (behind : List ℕ) (tells : R → ReplyContent → Type 0) (rest : R → List ℕ) → w ≡ ArrayWord n → IsWord (word_content w)
    → (r : Result (Option R) ReplyFault) → ReadsOrNoMemory (AreMany IsEntry n) (flat_map entry_bytes) behind r (λ x es. tells x (Entries es)) rest
    → ReadsOrNoMemory IsReply reply_bytes (word_bytes (word_content w) ++ behind) r tells rest
array_reply w n behind tells rest is valid r h =
    subst (λ (v : Word). ReadsOrNoMemory IsReply reply_bytes (word_bytes (word_content v) ++ behind) r tells rest) (sym is)
    (reply_reads n behind tells rest (subst (λ (v : Word). IsWord (word_content v)) is valid) r h)

-- ---- what stands behind the first word
pub whole_reply : {R : Type 0} (bytes : List ℕ) (w : Word) (behind : List ℕ) (tells : R → ReplyContent → Type 0) (rest : R → List ℕ)
    → Begins IsWord word_bytes bytes (word_content w) behind
    → (r : Result (Option R) ReplyFault) → ReadsOrNoMemory IsReply reply_bytes (word_bytes (word_content w) ++ behind) r tells rest → ReadsOrNoMemory IsReply reply_bytes bytes r tells rest
whole_reply bytes w behind tells rest begins r h = subst (λ (s : List ℕ). ReadsOrNoMemory IsReply reply_bytes s r tells rest) (sym begins.written) h

-- ---- one beginning has one reply
pub one_reply : PrefixFree IsReply reply_bytes
one_reply (Single v) (Single w) p q x y e =
    let same = one_word v w p.is q.is x y e in
    (ap Single same.0, same.1)
one_reply (Single v) (Entries es) p q x y e =
    let same = one_word v (Array (length es)) p.is q.number x (flat_map entry_bytes es ++ y) (e ∙ append_assoc (count_line 42 (length es)) (flat_map entry_bytes es) y) in
    absurd (p.single (length es) same.0)
one_reply (Entries es) (Single w) p q x y e =
    let same = one_word w (Array (length es)) q.is p.number y (flat_map entry_bytes es ++ x) (sym e ∙ append_assoc (count_line 42 (length es)) (flat_map entry_bytes es) x) in
    absurd (q.single (length es) same.0)
one_reply (Entries ds) (Entries es) p q x y e =
    let same = array_free IsEntry entry_bytes one_entry ds es p q x y e in
    (ap Entries same.0, same.1)

-- ---- what a reading answers is exact
pub memory_found : {A R : Type 0} (Is : A → Type 0) (spell : A → List ℕ) (bytes : List ℕ) (tells : R → A → Type 0) (rest : R → List ℕ) (r : Result (Option R) ReplyFault)
    → ReadsOrNoMemory Is spell bytes r tells rest → IfOk r (λ o. IfSome o (λ x. (a : A) × tells x a × Begins Is spell bytes a (rest x)))
memory_found Is spell bytes tells rest (Ok (Some x)) h = h
memory_found Is spell bytes tells rest (Ok None) h = tt
memory_found Is spell bytes tells rest (Err fault) h = tt

pub memory_only : {A R : Type 0} (Is : A → Type 0) (spell : A → List ℕ) (bytes : List ℕ) (tells : R → A → Type 0) (rest : R → List ℕ) → PrefixFree Is spell
    → (r : Result (Option R) ReplyFault) → ReadsOrNoMemory Is spell bytes r tells rest
    → (a : A) (tail : List ℕ) → Begins Is spell bytes a tail → (r ≡ Err NoMemory) ⊎ IsOkAnd r (λ o. IsSomeAnd o (λ x. tells x a × (rest x ≡ tail)))
memory_only Is spell bytes tells rest free (Ok (Some x)) h a tail begins =
    let same = free h.0 a h.2.valid begins.valid (rest x) tail (sym h.2.written ∙ begins.written) in
    inr (subst (tells x) same.0 h.1, same.1)
memory_only Is spell bytes tells rest free (Ok None) h a tail begins = absurd (begins_or_cut Is spell bytes a tail free begins h)
memory_only Is spell bytes tells rest free (Err Malformed) h a tail begins = absurd (begins_or_malformed Is spell bytes a tail begins (h refl))
memory_only Is spell bytes tells rest free (Err NoMemory) h a tail begins = inl refl

pub memory_not_whole : {A R : Type 0} (Is : A → Type 0) (spell : A → List ℕ) (bytes : List ℕ) (tells : R → A → Type 0) (rest : R → List ℕ)
    → (r : Result (Option R) ReplyFault) → ReadsOrNoMemory Is spell bytes r tells rest → r ≡ Ok None → IsCut Is spell bytes
memory_not_whole Is spell bytes tells rest (Ok (Some x)) h e = absurd cc
memory_not_whole Is spell bytes tells rest (Ok None) h e = h
memory_not_whole Is spell bytes tells rest (Err fault) h e = absurd cc

pub memory_cut : {A R : Type 0} (Is : A → Type 0) (spell : A → List ℕ) (bytes : List ℕ) (tells : R → A → Type 0) (rest : R → List ℕ) → PrefixFree Is spell
    → (r : Result (Option R) ReplyFault) → ReadsOrNoMemory Is spell bytes r tells rest → IsCut Is spell bytes → (r ≡ Err NoMemory) ⊎ (r ≡ Ok None)
memory_cut Is spell bytes tells rest free (Ok (Some x)) h cut = absurd (begins_or_cut Is spell bytes h.0 (rest x) free h.2 cut)
memory_cut Is spell bytes tells rest free (Ok None) h cut = inr refl
memory_cut Is spell bytes tells rest free (Err Malformed) h cut = absurd (cut_or_malformed Is spell bytes cut (h refl))
memory_cut Is spell bytes tells rest free (Err NoMemory) h cut = inl refl

pub memory_none : {A R : Type 0} (Is : A → Type 0) (spell : A → List ℕ) (bytes : List ℕ) (tells : R → A → Type 0) (rest : R → List ℕ)
    → (r : Result (Option R) ReplyFault) → ReadsOrNoMemory Is spell bytes r tells rest → r ≡ Err Malformed → IsMalformed Is spell bytes
memory_none Is spell bytes tells rest (Ok (Some x)) h e = absurd cc
memory_none Is spell bytes tells rest (Ok None) h e = absurd cc
memory_none Is spell bytes tells rest (Err Malformed) h e = h refl
memory_none Is spell bytes tells rest (Err NoMemory) h e = absurd cc

pub memory_malformed : {A R : Type 0} (Is : A → Type 0) (spell : A → List ℕ) (bytes : List ℕ) (tells : R → A → Type 0) (rest : R → List ℕ)
    → (r : Result (Option R) ReplyFault) → ReadsOrNoMemory Is spell bytes r tells rest → IsMalformed Is spell bytes → (r ≡ Err NoMemory) ⊎ (r ≡ Err Malformed)
memory_malformed Is spell bytes tells rest (Ok (Some x)) h m = absurd (begins_or_malformed Is spell bytes h.0 (rest x) h.2 m)
memory_malformed Is spell bytes tells rest (Ok None) h m = absurd (cut_or_malformed Is spell bytes h m)
memory_malformed Is spell bytes tells rest (Err Malformed) h m = inr refl
memory_malformed Is spell bytes tells rest (Err NoMemory) h m = inl refl
