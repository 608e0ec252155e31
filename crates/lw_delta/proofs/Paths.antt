-- The numbers of a path that was found.
use Rattle.std.proofs.Common.{◌≡◌, ℕ, zero, suc, ◌+◌, ◌-◌, take, set, ◌<◌, ◌≤◌, true, List, [], ◌∷◌, ◌++◌, length, refl, ap, ◌∙◌, subst, arith, length-append}
use Rattle.std.specs.List.{list_all}
use Rattle.std.proofs.lemmas.List.{take_more_set}
use Rattle.std.proofs.lemmas.Bool.{and_parts, le-leb}
use Rattle.lw_reg.specs.PathNumbers.{IsPathNumbers, is_number}
use Rattle.lw_delta.specs.Part.{Found, Fails, means, must, followed}
use Rattle.lw_delta.specs.declared.fault.DeltaFault.{DeltaFault}
use Rattle.lw_delta.specs.Format.{path_number, numbers}
use Rattle.lw_delta.proofs.Parts.{both, given, first_fails, later_fails}

number_within : (bytes : List ℕ) (n : ℕ) (rest : List ℕ) → Found path_number bytes n rest → n ≤ 65534
unfolding followed must means
number_within bytes n rest f = omega (arith, f.is.3.is.0, f.is.3.is.1.is.1)

pub numbers_more : (count : ℕ) (bytes front behind : List ℕ) (n : ℕ) (rest : List ℕ) → Found (numbers count) bytes front behind → Found path_number behind n rest → Found (numbers (suc count)) bytes (front ++ n ∷ []) rest
numbers_more count bytes front behind n rest f g = both _ f (both _ g given)

pub number_fails : (count : ℕ) (bytes front behind : List ℕ) (fault : DeltaFault) → Found (numbers count) bytes front behind → Fails path_number behind fault → Fails (numbers (suc count)) bytes fault
number_fails count bytes front behind fault f g = later_fails _ f (first_fails _ g)

-- more numbers fail where some do
pub numbers_fail : (more count : ℕ) (bytes : List ℕ) (fault : DeltaFault) → Fails (numbers count) bytes fault → Fails (numbers (more + count)) bytes fault
numbers_fail zero count bytes fault f = subst (λ (n : ℕ). Fails (numbers n) bytes fault) (omega arith) f
numbers_fail (suc more) count bytes fault f =
    let e : suc (more + count) ≡ suc more + count = omega arith in
    let g : Fails (numbers (suc (more + count))) bytes fault = first_fails _ (numbers_fail more count bytes fault f) in
    subst (λ (n : ℕ). Fails (numbers n) bytes fault) e g

all_push : (xs : List ℕ) (x : ℕ) → list_all is_number xs ≡ true → is_number x ≡ true → list_all is_number (xs ++ x ∷ []) ≡ true
all_push [] x h k = rw k refl
all_push (y ∷ ys) x h k =
    let p = and_parts (is_number y) (list_all is_number ys) h in
    rw (p.0, all_push ys x p.1 k) refl

pub numbers_are : (count : ℕ) (bytes ns rest : List ℕ) → Found (numbers count) bytes ns rest → (length ns ≡ count) × (list_all is_number ns ≡ true)
unfolding followed means
numbers_are zero bytes ns rest f = (rw f.is.1 refl, rw f.is.1 refl)
numbers_are (suc count) bytes ns rest f =
    let front = numbers_are count bytes f.is.0 f.is.1 f.is.2 in
    let last = f.is.3.is in
    let within : is_number last.0 ≡ true = le-leb last.0 65534 (number_within f.is.1 last.0 last.1 last.2) in
    let e : ns ≡ f.is.0 ++ last.0 ∷ [] = last.3.is.1 in
    (ap length e ∙ length-append f.is.0 (last.0 ∷ []) ∙ omega (arith, front.0), ap (list_all is_number) e ∙ all_push f.is.0 last.0 front.1 within)

pub are_path_numbers : (count : ℕ) (bytes ns rest : List ℕ) → Found (numbers count) bytes ns rest → (1 ≤ count) × (count ≤ 4) → IsPathNumbers ns
are_path_numbers count bytes ns rest f within =
    let h = numbers_are count bytes ns rest f in
    record { some = omega (arith, h.0, within.0); most = omega (arith, h.0, within.1); each = h.1 }

-- the numbers that were read into the front of four
pub numbers_step : (n : ℕ) (bytes xs behind : List ℕ) (x : ℕ) (rest : List ℕ) → n < length xs → Found (numbers n) bytes (take n xs) behind → Found path_number behind x rest → Found (numbers (n + 1)) bytes (take (n + 1) (set xs n x)) rest
numbers_step n bytes xs behind x rest lt f g =
    let e : suc n ≡ n + 1 = omega arith in
    subst (λ (count : ℕ). Found (numbers count) bytes (take (n + 1) (set xs n x)) rest) e (rw (take_more_set xs n x lt) (numbers_more n bytes (take n xs) behind x rest f g))

pub a_number_fails : (n count : ℕ) (bytes front behind : List ℕ) (fault : DeltaFault) → n < count → Found (numbers n) bytes front behind → Fails path_number behind fault → Fails (numbers count) bytes fault
a_number_fails n count bytes front behind fault lt f g =
    let e : (count - suc n) + suc n ≡ count = omega (arith, lt) in
    subst (λ (k : ℕ). Fails (numbers k) bytes fault) e (numbers_fail (count - suc n) (suc n) bytes fault (number_fails n bytes front behind fault f g))
