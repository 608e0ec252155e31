-- Attributes and their writes.
use Rattle.std.proofs.Common.{◌≡◌, ℕ, ◌+◌, ◌<◌, ◌≤◌, Bool, true, false, ◌&&◌, List, [], ◌∷◌, ◌++◌, length, take, get_or, Option, Some, None, refl, sym, ap, subst, ◌∙◌, inl, inr, arith}
use Rattle.std.specs.Prelude.{bytes_eq, slice_get}
use Rattle.std.specs.Bool.{Decides}
use Rattle.std.specs.List.{AllByRecursion}
use Rattle.std.proofs.lemmas.Bool.{false≢true, cases_lt}
use Rattle.std.proofs.Math.Seq.{take-length}
use Rattle.std.proofs.lemmas.List.{length-append, take_more}
use Rattle.std.proofs.lemmas.Option.{slice_get_within, slice_get-get_or, get_or_from_slice_get}
use Rattle.std.proofs.lemmas.Slice.Eq.{bytes_eq-Decides}
use Rattle.lw_join.specs.declared.last.Last.{Last}
use Rattle.lw_reg.specs.Attribute.{IsAttribute, values_of}

-- the values of the writes of attributes are attributes
pub each_value : (writes : List (List ℕ × Last (List ℕ))) → AllByRecursion (λ (w : List ℕ × Last (List ℕ)). IsAttribute w.0 w.1.write.1) writes
    → AllByRecursion (λ (a : List ℕ × List ℕ). IsAttribute a.0 a.1) (values_of writes)
each_value [] all = tt
each_value (w ∷ writes) all = (all.0, each_value writes all.1)

pub same_attribute : (a b n v : List ℕ) → a ≡ n → b ≡ v → IsAttribute a b → IsAttribute n v
same_attribute a b n v name value is = subst (λ (x : List ℕ). IsAttribute x v) name (subst (λ (y : List ℕ). IsAttribute a y) value is)

pair_by : (a b : List ℕ × List ℕ) (r s : Bool) → Decides r (a.0 ≡ b.0) → Decides s (a.1 ≡ b.1) → Decides (r && s) (a ≡ b)
pair_by a b true true first second = (λ t i. (first.0 refl i, second.0 refl i), λ e. refl)
pair_by a b true false first second = (λ t. absurd (false≢true t), λ e. second.1 (ap (λ (p : List ℕ × List ℕ). p.1) e))
pair_by a b false s first second = (λ t. absurd (false≢true t), λ e. first.1 (ap (λ (p : List ℕ × List ℕ). p.0) e))

-- pairs are one where their names and their values are
pub same_pair : (a b : List ℕ × List ℕ) → Decides (bytes_eq a.0 b.0 && bytes_eq a.1 b.1) (a ≡ b)
same_pair a b = pair_by a b (bytes_eq a.0 b.0) (bytes_eq a.1 b.1) (bytes_eq-Decides a.0 b.0) (bytes_eq-Decides a.1 b.1)

-- ---- one more

each_and : {X : Type 0} (P : X → Type 0) (xs : List X) (x : X) → AllByRecursion P xs → P x → AllByRecursion P (xs ++ x ∷ [])
each_and P [] x all here = (here, tt)
each_and P (y ∷ xs) x all here = (all.0, each_and P xs x all.1 here)

pub each_next : {X : Type 0} (P : X → Type 0) (xs : List X) (i : ℕ) (x : X) → i < length xs → x ≡ get_or xs i x → AllByRecursion P (take i xs) → P x → AllByRecursion P (take (i + 1) xs)
each_next {X = X} P xs i x lt is all here =
    subst (AllByRecursion P) (sym (take_more xs i x lt ∙ ap (λ (y : X). take i xs ++ y ∷ []) (sym is))) (each_and P (take i xs) x all here)

-- the front of a list, with its next element
pub front_next : {X : Type 0} (xs ys zs : List X) (x : X) → ys ≡ take (length ys) xs → Some x ≡ slice_get xs (length ys) → zs ≡ ys ++ x ∷ []
    → (length zs ≤ length xs) × (zs ≡ take (length zs) xs)
front_next {X = X} xs ys zs x front next is =
    let n = length ys in
    let lt = slice_get_within xs n x (sym next) in
    let long : length zs ≡ n + 1 = ap (λ (l : List X). length l) is ∙ length-append ys (x ∷ []) in
    let more = take_more xs n x lt ∙ ap (λ (y : X). take n xs ++ y ∷ []) (get_or_from_slice_get xs n x x (sym next)) in
    (omega (arith, long, lt), is ∙ ap (λ (l : List X). l ++ x ∷ []) front ∙ sym more ∙ ap (λ (k : ℕ). take k xs) (sym long))

none_some : {X : Type 0} (x : X) → ◌≡◌ {A = Option X} None (Some x) → ⊥
none_some x e = cc

take_long : {X : Type 0} (xs : List X) (n : ℕ) → n ≡ length xs → take n xs ≡ xs
take_long xs n e = ap (λ (k : ℕ). take k xs) e ∙ take-length xs

-- a front that nothing comes after is the list
pub front_whole : {X : Type 0} (d : X) (xs ys : List X) → length ys ≤ length xs → ys ≡ take (length ys) xs → None ≡ slice_get xs (length ys) → ys ≡ xs
front_whole d xs ys le front none =
    elim (cases_lt (length ys) (length xs)) [
      | inl lt ↦ absurd (none_some (get_or xs (length ys) d) (none ∙ slice_get-get_or xs (length ys) d lt))
      | inr past ↦ front ∙ take_long xs (length ys) (omega (arith, le, past))
    ]
