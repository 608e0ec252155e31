-- A part that is looked for at each place of a text.
use Rattle.std.proofs.Common.{inl, inr, subst, ◌≡◌, ℕ, ◌+◌, ◌<◌, ◌≤◌, List, ◌++◌, length, take, drop, sym, ap, ◌∙◌, arith, ◌-◌, length-drop, take_all}
use Rattle.std.proofs.lemmas.Bool.{cases_lt}
use Rattle.std.proofs.lemmas.List.{take-append-drop, length-append}
use Rattle.std.proofs.Math.Seq.{drop-append_seam}
use Rattle.lw_redis_log.specs.Settings.{Tells}
use Rattle.lw_redis_log.specs.inner.Settings.{BeginsWith}

-- what a slice from a place on is
abbrev pub from : List ℕ → ℕ → List ℕ
from text start = take (length text - start) (drop start text)

from_is : (text : List ℕ) (start : ℕ) → from text start ≡ drop start text
from_is text start = take_all (length text - start) (drop start text) (omega (arith, length-drop start text))

-- it stands at a place, or at none
pub told : (part text : List ℕ) (start : ℕ) → BeginsWith part (from text start) → Tells part text
told part text start there =
    let h : BeginsWith part (drop start text) = subst (BeginsWith part) (from_is text start) there in
    (take start text, h.0, sym (take-append-drop start text) ∙ ap (λ l. take start text ++ l) h.1)

pub untold : (part text : List ℕ) (n : ℕ) → 0 < length part → length text ≤ n
    → ((k : ℕ) → k < n → ¬ BeginsWith part (drop k text)) → ¬ Tells part text
untold part text n some whole none h =
    let long : length text ≡ length h.0 + length (part ++ h.1) = ap length h.2 ∙ length-append h.0 (part ++ h.1) in
    let more : length (part ++ h.1) ≡ length part + length h.1 = length-append part h.1 in
    none (length h.0) (omega (arith, whole, long, more, some))
    (h.1, ap (drop (length h.0)) h.2 ∙ drop-append_seam h.0 (part ++ h.1))

pub one_more : (part text : List ℕ) (n : ℕ) → ((k : ℕ) → k < n → ¬ BeginsWith part (drop k text))
    → ¬ BeginsWith part (from text n) → (k : ℕ) → k < n + 1 → ¬ BeginsWith part (drop k text)
one_more part text n none not k lt =
    elim (cases_lt k n) [
      | inl below ↦ none k below
      | inr ge ↦
          let same : n ≡ k = omega (arith, lt, ge) in
          let there : ¬ BeginsWith part (drop n text) = subst (λ l. ¬ BeginsWith part l) (from_is text n) not in
          subst (λ (m : ℕ). ¬ BeginsWith part (drop m text)) same there
    ]
