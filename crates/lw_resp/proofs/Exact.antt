-- What a reading answers is exact, where no spelling is the beginning of another.
use Rattle.std.proofs.Common.{◌≡◌, ◌↔◌, ℕ, ◌<◌, List, [], ◌∷◌, ◌++◌, length, Option, Some, None, Result, Ok, Err, IfOk, IfSome, refl, sym, ap, ◌∙◌, arith}
use Rattle.std.specs.Prelude.{IsErr, IsOkAnd, IsSomeAnd}
use Rattle.std.proofs.lemmas.List.{append_assoc, append-nil, length-append}
use Rattle.lw_resp.specs.Reading.{Begins, IsCut, IsMalformed}
use Rattle.lw_resp.specs.inner.Reads.{Reads}
use Rattle.lw_resp.proofs.Splits.{nothing_more}

-- where the spellings of two values begin one list, they are one
abbrev pub PrefixFree : {A : Type 0} → (A → Type 0) → (A → List ℕ) → Type 0
PrefixFree {A = A} Is spell = (a b : A) → Is a → Is b → (x y : List ℕ) → spell a ++ x ≡ spell b ++ y → (a ≡ b) × (x ≡ y)

-- what begins with a spelling is no cut one
pub begins_or_cut : {A : Type 0} (Is : A → Type 0) (spell : A → List ℕ) (bytes : List ℕ) (a : A) (rest : List ℕ) → PrefixFree Is spell
    → Begins Is spell bytes a rest → IsCut Is spell bytes → ⊥
begins_or_cut Is spell bytes a rest free begins cut =
    let all : spell a ++ (rest ++ cut.more) ≡ spell cut.value ++ [] =
    sym (append_assoc (spell a) rest cut.more) ∙ ap (λ (s : List ℕ). s ++ cut.more) (sym begins.written) ∙ sym cut.written ∙ sym (append-nil (spell cut.value)) in
    let same = free a cut.value begins.valid cut.valid (rest ++ cut.more) [] all in
    nothing_more rest cut.more cut.some same.1

pub begins_or_malformed : {A : Type 0} (Is : A → Type 0) (spell : A → List ℕ) (bytes : List ℕ) (a : A) (rest : List ℕ)
    → Begins Is spell bytes a rest → IsMalformed Is spell bytes → ⊥
begins_or_malformed Is spell bytes a rest begins malformed = malformed a begins.valid [] rest (append-nil bytes ∙ begins.written)

pub cut_or_malformed : {A : Type 0} (Is : A → Type 0) (spell : A → List ℕ) (bytes : List ℕ) → IsCut Is spell bytes → IsMalformed Is spell bytes → ⊥
cut_or_malformed Is spell bytes cut malformed = malformed cut.value cut.valid cut.more [] (sym cut.written ∙ sym (append-nil (spell cut.value)))

pub read_found : {A R E : Type 0} (Is : A → Type 0) (spell : A → List ℕ) (bytes : List ℕ) (value : R → A) (rest : R → List ℕ) (r : Result (Option R) E)
    → Reads Is spell bytes r value rest → IfOk r (λ o. IfSome o (λ x. Begins Is spell bytes (value x) (rest x)))
read_found Is spell bytes value rest (Ok (Some x)) h = h
read_found Is spell bytes value rest (Ok None) h = tt
read_found Is spell bytes value rest (Err x) h = tt

pub read_only : {A R E : Type 0} (Is : A → Type 0) (spell : A → List ℕ) (bytes : List ℕ) (value : R → A) (rest : R → List ℕ) → PrefixFree Is spell
    → (r : Result (Option R) E) → Reads Is spell bytes r value rest
    → (a : A) (tail : List ℕ) → Begins Is spell bytes a tail → IsOkAnd r (λ o. IsSomeAnd o (λ x. (value x ≡ a) × (rest x ≡ tail)))
read_only Is spell bytes value rest free (Ok (Some x)) h a tail begins =
    free (value x) a h.valid begins.valid (rest x) tail (sym h.written ∙ begins.written)
read_only Is spell bytes value rest free (Ok None) h a tail begins = absurd (begins_or_cut Is spell bytes a tail free begins h)
read_only Is spell bytes value rest free (Err x) h a tail begins = absurd (begins_or_malformed Is spell bytes a tail begins h)

pub read_cut : {A R E : Type 0} (Is : A → Type 0) (spell : A → List ℕ) (bytes : List ℕ) (value : R → A) (rest : R → List ℕ) → PrefixFree Is spell
    → (r : Result (Option R) E) → Reads Is spell bytes r value rest → (r ≡ Ok None) ↔ IsCut Is spell bytes
read_cut Is spell bytes value rest free (Ok (Some x)) h = ((λ e. absurd cc), (λ cut. absurd (begins_or_cut Is spell bytes (value x) (rest x) free h cut)))
read_cut Is spell bytes value rest free (Ok None) h = ((λ e. h), (λ cut. refl))
read_cut Is spell bytes value rest free (Err x) h = ((λ e. absurd cc), (λ cut. absurd (cut_or_malformed Is spell bytes cut h)))

pub read_malformed : {A R E : Type 0} (Is : A → Type 0) (spell : A → List ℕ) (bytes : List ℕ) (value : R → A) (rest : R → List ℕ)
    → (r : Result (Option R) E) → Reads Is spell bytes r value rest → IsErr r ↔ IsMalformed Is spell bytes
read_malformed Is spell bytes value rest (Ok (Some x)) h = ((λ e. absurd cc), (λ m. absurd (begins_or_malformed Is spell bytes (value x) (rest x) h m)))
read_malformed Is spell bytes value rest (Ok None) h = ((λ e. absurd cc), (λ m. absurd (cut_or_malformed Is spell bytes h m)))
read_malformed Is spell bytes value rest (Err x) h = ((λ e. h), (λ m. refl))
