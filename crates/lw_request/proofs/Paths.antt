-- The segments of a path, and where a request goes.
use Rattle.std.proofs.Common.{◌≡◌, ℕ, List, [], ◌∷◌, length, codes, Option, Some, None, refl, sym, ap, ◌∙◌, inl, inr, arith, Bool, true, false, not, bytes_eq, ◌↔◌}
use Rattle.std.specs.Prelude.{slice_get, nat_eq, is_some, option_copied, IsTrue}
use Rattle.std.specs.Borrow.{Bor}
use Rattle.std.specs.Cmp.Lexicographic.{pointwise}
use Rattle.std.proofs.lemmas.Slice.Eq.{bytes_eq-Decides}
use Rattle.std.proofs.lemmas.Bool.{both_ways, true_from_ne_false, false≢true}
use Rattle.lw_coap.specs.Message.{OptionContent, MessageContent}
use Rattle.lw_request.specs.Options.{values_of}
use Rattle.lw_request.specs.Steps.{IsDirectory, IsEntry, IsPost, IsDelete, Cause}
use Rattle.lw_request.specs.Steps.Step.{UnknownPath, WrongMethod}

true_from_not : (b : Bool) → not b ≡ false → b ≡ true
true_from_not true e = refl
true_from_not false e = absurd (false≢true (sym e))

-- `!=` answered that the bytes are the same
same_bytes : (xs ys : List ℕ) (differ : Bool) → differ ≡ not (bytes_eq xs ys) → differ ≡ false → xs ≡ ys
same_bytes xs ys differ is e = (bytes_eq-Decides xs ys).0 (true_from_not _ (sym is ∙ e))

none_some : {V : Type 0} (v : V) → (◌≡◌ {A = Option V} None (Some v)) → ⊥
none_some v e = cc

some_is : {V : Type 0} (v w : V) → (◌≡◌ {A = Option V} (Some v) (Some w)) → v ≡ w
some_is v w e = cc

pub one_segment : (segments : List (List ℕ)) (first : List ℕ) → slice_get segments 0 ≡ Some first → slice_get segments 1 ≡ None → segments ≡ first ∷ []
one_segment [] first h k = absurd (none_some first h)
one_segment (a ∷ []) first h k = ap (λ (x : List ℕ). x ∷ []) (some_is a first h)
one_segment (a ∷ b ∷ segments) first h k = absurd (none_some b (sym k))

pub two_segments : (segments : List (List ℕ)) (first second : List ℕ) → slice_get segments 0 ≡ Some first → slice_get segments 1 ≡ Some second → slice_get segments 2 ≡ None
    → segments ≡ first ∷ second ∷ []
two_segments [] first second h k l = absurd (none_some first h)
two_segments (a ∷ []) first second h k l = absurd (none_some second k)
two_segments (a ∷ b ∷ []) first second h k l = λ i. some_is a first h i ∷ some_is b second k i ∷ []
two_segments (a ∷ b ∷ d ∷ segments) first second h k l = absurd (none_some d (sym l))

pub not_both : (m : MessageContent) (segment : List ℕ) → IsDirectory m → IsEntry m segment → ⊥
not_both m segment d e =
    let same : length (codes "rd" ∷ []) ≡ length (codes "rd" ∷ segment ∷ []) = ap length (sym d ∙ e) in
    absurd (omega (arith, same))

pub directory_known : (m : MessageContent) → IsDirectory m → Cause UnknownPath m → ⊥
directory_known m d unknown = unknown.0 d

pub entry_known : (m : MessageContent) (segment : List ℕ) → IsEntry m segment → Cause UnknownPath m → ⊥
entry_known m segment e unknown = unknown.1 segment e

pub post_allowed : (m : MessageContent) → IsPost m → Cause WrongMethod m → ⊥
post_allowed m post (inl wrong) = wrong.1 post
post_allowed m post (inr wrong) = wrong.2 post

pub delete_allowed : (m : MessageContent) (segment : List ℕ) → IsEntry m segment → IsDelete m → Cause WrongMethod m → ⊥
delete_allowed m segment e delete (inl wrong) = not_both m segment wrong.0 e
delete_allowed m segment e delete (inr wrong) = wrong.3 delete

pub delete_is_no_post : (m : MessageContent) → IsDelete m → IsPost m → ⊥
delete_is_no_post m delete post = absurd (omega (arith, delete, post))

pub no_entry : (m : MessageContent) (options : List OptionContent) (found : Bool) → values_of 11 options ≡ values_of 11 m.options → (IsTrue found ↔ (values_of 11 options ≡ codes "rd" ∷ [])) → found ≡ false
    → ((segment : List ℕ) → (◌≡◌ {A = Option (List ℕ)} None (Some segment)) ↔ (values_of 11 options ≡ codes "rd" ∷ segment ∷ [])) → Cause UnknownPath m
no_entry m options found same directory e entry =
    ((λ d. both_ways found e (directory.1 (same ∙ d))), (λ segment h. none_some segment ((entry segment).1 (same ∙ h))))

-- ---- what reading a path answers

none_copied : (o : Option (Bor (List ℕ))) → is_some o ≡ false → option_copied o ≡ None
none_copied None e = refl
none_copied (Some x) e = absurd cc

second_is_none : (o : Option (Bor (List ℕ))) (r : Option (List ℕ)) (alone : Bool) → option_copied o ≡ r → is_some o ≡ not alone → alone ≡ true → r ≡ None
second_is_none o r alone h is e = sym h ∙ none_copied o (is ∙ ap not e)

rests_alone : (o : Option (Bor (List ℕ))) (alone : Bool) → is_some o ≡ not alone → option_copied o ≡ None → alone ≡ true
rests_alone None alone is h = true_from_ne_false alone (λ e. let bad : false ≡ true = is ∙ ap not e in cc)
rests_alone (Some x) alone is h = absurd (none_some x.now (sym h))

pub directory_is : (segments : List (List ℕ)) (first : List ℕ) (second : Option (Bor (List ℕ))) (alone : Bool) → slice_get segments 0 ≡ Some first
    → pointwise nat_eq first (codes "rd") ≡ true → option_copied second ≡ slice_get segments 1 → is_some second ≡ not alone
    → IsTrue alone ↔ (segments ≡ codes "rd" ∷ [])
directory_is segments first second alone at_first same at_second is =
    let rd : first ≡ codes "rd" = (bytes_eq-Decides first (codes "rd")).0 same in (
      λ e. one_segment segments first at_first (second_is_none second (slice_get segments 1) alone at_second is e) ∙ ap (λ (x : List ℕ). x ∷ []) rd,
      λ e. rests_alone second alone is (at_second ∙ ap (λ (xs : List (List ℕ)). slice_get xs 1) e),
    )

pub entry_is : (segments : List (List ℕ)) (first second : List ℕ) (differ : Bool) (third : Option (Bor (List ℕ))) → slice_get segments 0 ≡ Some first → slice_get segments 1 ≡ Some second
    → differ ≡ not (pointwise nat_eq first (codes "rd")) → differ ≡ false → option_copied third ≡ slice_get segments 2 → is_some third ≡ false
    → (segment : List ℕ) → (◌≡◌ {A = Option (List ℕ)} (Some second) (Some segment)) ↔ (segments ≡ codes "rd" ∷ segment ∷ [])
entry_is segments first second differ third at_first at_second test e at_third none segment =
    let rd : first ≡ codes "rd" = same_bytes first (codes "rd") differ test e in (
      λ h. two_segments segments first second at_first at_second (sym at_third ∙ none_copied third none) ∙ (λ i. rd i ∷ some_is second segment h i ∷ []),
      λ h. sym at_second ∙ ap (λ (xs : List (List ℕ)). slice_get xs 1) h,
    )
