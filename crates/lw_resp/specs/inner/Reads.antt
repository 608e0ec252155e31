-- What a reading answers.
use Rattle.std.specs.Prelude.{◌≡◌, List, ℕ, Option, Result, MatchResult, MatchOption}
use Rattle.lw_resp.specs.declared.malformed.ReplyFault.{ReplyFault}
use Rattle.lw_resp.specs.declared.malformed.ReplyFault.TheVariants.{Malformed}
use Rattle.lw_resp.specs.Reading.{Begins, IsCut, IsMalformed}

-- what was read is a value at the front and the rest behind it; none is cut, and a failure is malformed
abbrev pub Reads : {A R E : Type 0} → (A → Type 0) → (A → List ℕ) → List ℕ → Result (Option R) E → (R → A) → (R → List ℕ) → Type 0
Reads Is spelled bytes result value rest =
    MatchResult result (λ r. MatchOption r (IsCut Is spelled bytes) (λ x. Begins Is spelled bytes (value x) (rest x)))
    (λ _. IsMalformed Is spelled bytes)

-- the same, of a value that is more than what was read of it tells
abbrev pub ReadsAs : {A R E : Type 0} → (A → Type 0) → (A → List ℕ) → List ℕ → Result (Option R) E → (R → A → Type 0) → (R → List ℕ) → Type 0
ReadsAs {A = A} Is spelled bytes result tells rest =
    MatchResult result (λ r. MatchOption r (IsCut Is spelled bytes) (λ x. (value : A) × tells x value × Begins Is spelled bytes value (rest x)))
    (λ _. IsMalformed Is spelled bytes)

-- the same, of a reading that takes memory
abbrev pub ReadsOrNoMemory : {A R : Type 0} → (A → Type 0) → (A → List ℕ) → List ℕ → Result (Option R) ReplyFault → (R → A → Type 0) → (R → List ℕ) → Type 0
ReadsOrNoMemory {A = A} Is spelled bytes result tells rest =
    MatchResult result (λ r. MatchOption r (IsCut Is spelled bytes) (λ x. (value : A) × tells x value × Begins Is spelled bytes value (rest x)))
    (λ fault. fault ≡ Malformed → IsMalformed Is spelled bytes)
