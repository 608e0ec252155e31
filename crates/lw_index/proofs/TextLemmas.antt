-- Sets of strings as lists of texts.
use Rattle.std.proofs.Common.{◌≡◌, ◌≢◌, ◌↔◌, ℕ, suc, ◌+◌, ◌<◌, List, [], ◌∷◌, map, length, Result, Ok, Err, Bool, true, false, cond, ◌&&◌, ◌||◌, not, refl, sym, ap, ◌∙◌, subst, arith}
use Rattle.std.specs.Prelude.{OnOk, String, string_bytes, bytes_eq}
use Rattle.std.specs.Bool.{OnFalse}
use Rattle.std.specs.declared.cmp.Ordering.TheVariants.{Less}
use Rattle.std.specs.Ordering.{eq_by_cmp, nat_cmp}
use Rattle.std.specs.Cmp.{IsEquivalence}
use Rattle.std.specs.Cmp.Lexicographic.{slice_cmp, nat_list_cmp_total}
use Rattle.std.specs.List.{AllByRecursion, list_any}
use Rattle.std.specs.List.Sorted.{IsStrictlySortedBy}
use Rattle.std.specs.String.{string_cmp}
use Rattle.std.specs.BTreeSet.{BTreeSet, contains_text}
use Rattle.std.proofs.lemmas.Cmp.{eq_by_cmp_equiv}
use Rattle.std.proofs.lemmas.Map.Lookups.{exact_bytes}
use Rattle.std.proofs.lemmas.Map.Views.{tells_apart}
use Rattle.std.proofs.lemmas.Slice.Eq.{bytes_eq-Decides}
use Rattle.lw_index.specs.inner.Texts.{has_text}

pub true_or_not : {A : Type 0} (b : Bool) → (b ≡ true → A) → (b ≡ false → A) → A
true_or_not true f g = f refl
true_or_not false f g = g refl

any_map : {A B : Type 0} (test : B → Bool) (f : A → B) (xs : List A) → list_any test (map f xs) ≡ list_any (λ x. test (f x)) xs
any_map test f [] = refl
any_map test f (x ∷ xs) = ap (λ b. test (f x) || b) (any_map test f xs)

-- the texts of a set are those that it contains
pub has_contains : {Z : Type 0} (s : BTreeSet (String Z)) (e : List ℕ) → has_text (map string_bytes s.keys) e ≡ contains_text s e
has_contains s e = any_map _ string_bytes s.keys

or_swapped : (a b : Bool) → cond b true a ≡ (a || b)
or_swapped true true = refl
or_swapped true false = refl
or_swapped false true = refl
or_swapped false false = refl

-- the texts of a set with one more
pub one_more : (a b : Bool) (r : Bool) → r ≡ cond b true a → r ≡ (a || b)
one_more a b r h = h ∙ or_swapped a b

pub one_less : (a b : Bool) (r : Bool) → r ≡ cond b false a → r ≡ (a && not b)
one_less true true r h = h
one_less true false r h = h
one_less false true r h = h
one_less false false r h = h

texts_above : {Z : Type 0} (x : String Z) (xs : List (String Z)) → AllByRecursion (λ y. string_cmp x y ≡ Less) xs → AllByRecursion (λ e. slice_cmp nat_cmp (string_bytes x) e ≡ Less) (map string_bytes xs)
texts_above x [] h = tt
texts_above x (y ∷ ys) h = (h.0, texts_above x ys h.1)

-- strings in order are texts in order
pub texts_rise : {Z : Type 0} (xs : List (String Z)) → IsStrictlySortedBy string_cmp xs → IsStrictlySortedBy (slice_cmp nat_cmp) (map string_bytes xs)
unfolding IsStrictlySortedBy
texts_rise [] h = tt
texts_rise (x ∷ xs) h = (texts_above x xs h.0, texts_rise xs h.1)

pub nothing_rises : IsStrictlySortedBy (slice_cmp nat_cmp) []
unfolding IsStrictlySortedBy
nothing_rises = tt

pub one_rises : (e : List ℕ) → IsStrictlySortedBy (slice_cmp nat_cmp) (e ∷ [])
unfolding IsStrictlySortedBy
one_rises e = (tt, tt)

texts_are : IsEquivalence (eq_by_cmp (slice_cmp nat_cmp))
texts_are = eq_by_cmp_equiv nat_list_cmp_total

or_true : (a b : Bool) → a ≡ true → (a || b) ≡ true
or_true true b h = refl
or_true false b h = absurd cc

or_false : (a b : Bool) → (a || b) ≡ true → b ≡ false → a ≡ true
or_false true b h k = refl
or_false false b h k = absurd cc

-- the first text of a list is in it
pub has_first : (e : List ℕ) (es : List (List ℕ)) → has_text (e ∷ es) e ≡ true
has_first e es = or_true (eq_by_cmp (slice_cmp nat_cmp) e e) (has_text es e) (texts_are.refl e)

-- a list of one text has that text alone
pub one_has : (a e : List ℕ) → has_text (a ∷ []) e ≡ bytes_eq a e
one_has a e =
    true_or_not (bytes_eq a e)
    (λ t. ap (λ x. has_text (x ∷ []) e) ((bytes_eq-Decides a e).0 t) ∙ has_first e [] ∙ sym t)
    (λ f. true_or_not (has_text (a ∷ []) e)
    (λ t. let same : e ≡ a = tells_apart exact_bytes e a (or_false (eq_by_cmp (slice_cmp nat_cmp) e a) false t refl) in
    let back : bytes_eq a e ≡ true = (bytes_eq-Decides a e).1 (sym same) in absurd cc)
    (λ g. g ∙ sym f))

or_same : (a : Bool) → a ≡ (a || a)
or_same true = refl
or_same false = refl

-- one more of a list that is this text
pub one_again : (a text : List ℕ) → a ≡ text → (e : List ℕ) → has_text (a ∷ []) e ≡ (has_text (a ∷ []) e || bytes_eq text e)
one_again a text same e = or_same (has_text (a ∷ []) e) ∙ ap (λ b. has_text (a ∷ []) e || b) (one_has a e ∙ ap (λ x. bytes_eq x e) same)

-- a text that is in a list of one is that one
pub one_is : (a text : List ℕ) → has_text (a ∷ []) text ≡ true → a ≡ text
one_is a text h = (bytes_eq-Decides a text).0 (sym (one_has a text) ∙ h)

-- a list of one text
pub only_text : (texts : List (List ℕ)) (text : List ℕ) → length texts ≡ 1 → (has_text texts text ≡ true) ↔ (texts ≡ text ∷ [])
only_text [] text h = absurd (omega arith)
only_text (a ∷ []) text h = (λ has. ap (λ x. x ∷ []) (one_is a text has), λ is. ap (λ l. has_text l text) is ∙ has_first text [])
only_text (a ∷ b ∷ texts) text h = absurd (omega arith)

-- ---- one text less
-- a list without a text has nothing less of it
pub one_absent : (a text e : List ℕ) → a ≢ text → has_text (a ∷ []) e ≡ (has_text (a ∷ []) e && not (bytes_eq text e))
one_absent a text e other =
    true_or_not (has_text (a ∷ []) e)
    (λ t. true_or_not (bytes_eq text e)
    (λ is. absurd (other (one_is a e t ∙ sym ((bytes_eq-Decides text e).0 is))))
    (λ f. kept (has_text (a ∷ []) e) (bytes_eq text e) (λ _. f)))
    (λ f. kept (has_text (a ∷ []) e) (bytes_eq text e) (λ t. absurd cc))
  where
    kept : (has is : Bool) → (has ≡ true → is ≡ false) → has ≡ (has && not is)
    kept true is h = sym (ap not (h refl))
    kept false is h = refl

pub same_text : (a b : List ℕ) (r : Bool) → r ≡ bytes_eq a b → r ≡ true → a ≡ b
same_text a b r test h = (bytes_eq-Decides a b).0 (sym test ∙ h)

pub other_text : (a b : List ℕ) (r : Bool) → r ≡ bytes_eq a b → r ≡ false → a ≢ b
other_text a b r test h p = let is : bytes_eq a b ≡ true = (bytes_eq-Decides a b).1 p in cc

pub some_texts : {Z : Type 0} (xs : List (String Z)) → xs ≢ [] → map string_bytes xs ≢ []
some_texts [] h e = h refl
some_texts (x ∷ xs) h e = absurd cc

pub unchanged_at : {P : Type 0} (r : Bool) → OnFalse r P → r ≡ false → P
unchanged_at {P} r h f = subst (λ b. OnFalse b P) f h

pub on_ok : {T E : Type 0} (P Q : Type 0) (r : Result T E) → (P → Q) → OnOk r P → OnOk r Q
on_ok P Q (Ok x) f h = f h
on_ok P Q (Err e) f h = h

pub length_texts : {Z : Type 0} (xs : List (String Z)) → length (map string_bytes xs) ≡ length xs
length_texts [] = refl
length_texts (x ∷ xs) = ap suc (length_texts xs)

-- how many are left of a list that is not this text alone
pub left_of : (texts : List (List ℕ)) (text : List ℕ) (n : ℕ) (r : Bool) → r ≡ has_text texts text → n + cond r 1 0 ≡ length texts → texts ≢ [] → texts ≢ text ∷ [] → 0 < n
left_of [] text n r has len some other = absurd (some refl)
left_of (a ∷ []) text n true has len some other = absurd (other (ap (λ x. x ∷ []) (one_is a text (sym has))))
left_of (a ∷ []) text n false has len some other = omega arith
left_of (a ∷ b ∷ texts) text n true has len some other = omega arith
left_of (a ∷ b ∷ texts) text n false has len some other = omega arith
