-- From what a call says of the list of a key to what it says of the index.
use Rattle.std.proofs.Common.{◌≡◌, ◌⊎◌, ◌↔◌, ℕ, List, [], ◌∷◌, Option, Some, None, Bool, true, false, cond, ◌&&◌, ◌||◌, not, Result, Ok, Err, refl, sym, ap, ◌∙◌, subst}
use Rattle.std.specs.Prelude.{OnOk, OnErr, bytes_eq}
use Rattle.std.specs.declared.cmp.Ordering.{Ordering}
use Rattle.std.specs.Ordering.{is_eq}
use Rattle.std.specs.Cmp.{IsTotalOrder}
use Rattle.std.specs.Map.{lookup, set_value}
use Rattle.std.proofs.lemmas.Map.Steps.{set_value_same}
use Rattle.lw_index.specs.Index.{Has, IsPair}
use Rattle.lw_index.specs.inner.Texts.{has_text}
use Rattle.lw_index.proofs.IndexLemmas.{held, has_held, held_has, at_same, added, dropped}
use Rattle.lw_index.proofs.TextLemmas.{has_first, one_has, true_or_not}

pub on_err : {T E : Type 0} (P Q : Type 0) (r : Result T E) → (P → Q) → OnErr r P → OnErr r Q
on_err P Q (Ok x) f h = h
on_err P Q (Err e) f h = f h

-- what is so after an answer of either kind
pub either_way : {T E : Type 0} (P Q G : Type 0) (r : Result T E) → OnOk r P → OnErr r Q → (P → G) → (Q → G) → G
either_way P Q G (Ok x) h k f g = f h
either_way P Q G (Err e) h k f g = g k

module _ {K : Type 0} (cmp : K → K → Ordering) where
  abbrev at : List (K × List (List ℕ)) → K → Option (List (List ℕ))
  at es k = lookup (λ q. is_eq (cmp k q)) es

  module _ (es old : List (K × List (List ℕ))) (key : K) (bs : List ℕ) (shows : es ≡ old) (was : Option (List (List ℕ))) (found : at es key ≡ was) where
    pub has_was : Has cmp old key bs → held was bs ≡ true
    has_was h = ap (λ (s : Option (List (List ℕ))). held s bs) (sym found) ∙ has_held cmp es key bs (subst (λ (x : List (K × List (List ℕ))). Has cmp x key bs) (sym shows) h)

    pub has_not : (Has cmp old key bs → ⊥) → held was bs ≡ false
    has_not h =
        true_or_not (held was bs)
        (λ t. absurd (h (subst (λ (x : List (K × List (List ℕ))). Has cmp x key bs) shows (held_has cmp es key bs (ap (λ (s : Option (List (List ℕ))). held s bs) found ∙ t)))))
        (λ f. f)

    module _ (o : IsTotalOrder cmp) (ns : List (K × List (List ℕ))) (w : Option (List (List ℕ))) (update : (q : K) → at ns q ≡ cond (is_eq (cmp key q)) w (at es q)) where
      pub more_has : ((e : List ℕ) → held w e ≡ (held was e || bytes_eq bs e)) → (k : K) (e : List ℕ) → Has cmp ns k e ↔ (Has cmp old k e ⊎ IsPair cmp key bs k e)
      more_has more =
          subst (λ (x : List (K × List (List ℕ))). (k : K) (e : List ℕ) → Has cmp ns k e ↔ (Has cmp x k e ⊎ IsPair cmp key bs k e)) shows
          (added cmp o es ns key bs w update (λ e. more e ∙ ap (λ (s : Option (List (List ℕ))). held s e || bytes_eq bs e) (sym found)))

      pub less_has : ((e : List ℕ) → held w e ≡ (held was e && not (bytes_eq bs e))) → (k : K) (e : List ℕ) → Has cmp ns k e ↔ (Has cmp old k e × (IsPair cmp key bs k e → ⊥))
      less_has less =
          subst (λ (x : List (K × List (List ℕ))). (k : K) (e : List ℕ) → Has cmp ns k e ↔ (Has cmp x k e × (IsPair cmp key bs k e → ⊥))) shows
          (dropped cmp o es ns key bs w update (λ e. less e ∙ ap (λ (s : Option (List (List ℕ))). held s e && not (bytes_eq bs e)) (sym found)))

  -- the list that was there, put back, changes nothing
  pub same_has : (es ns old : List (K × List (List ℕ))) (key : K) (v w : List (List ℕ)) → es ≡ old
      → at es key ≡ Some v → ns ≡ set_value (λ q. is_eq (cmp key q)) es w → w ≡ v → ns ≡ old
  same_has es ns old key v w shows found new same = new ∙ ap (set_value (λ q. is_eq (cmp key q)) es) same ∙ set_value_same (λ q. is_eq (cmp key q)) es v found ∙ shows

  -- an absent key is taken out as it stands
  pub none_update : IsTotalOrder cmp → (es : List (K × List (List ℕ))) (key : K) → at es key ≡ None → (q : K) → at es q ≡ cond (is_eq (cmp key q)) None (at es q)
  none_update o es key found q =
      true_or_not (is_eq (cmp key q))
      (λ t. sym (at_same cmp o es key q t) ∙ found ∙ sym (ap (λ b. cond b None (at es q)) t))
      (λ f. sym (ap (λ b. cond b None (at es q)) f))

-- a value that was put and then taken out
pub twice : {A : Type 0} (b : Bool) (x y r s t : A) → t ≡ cond b x s → s ≡ cond b y r → t ≡ cond b x r
twice true x y r s t h k = h
twice false x y r s t h k = h ∙ k

-- nothing is left of a list of one text
pub none_of_one : (texts : List (List ℕ)) (text : List ℕ) → texts ≡ text ∷ [] → (e : List ℕ) → false ≡ (has_text texts e && not (bytes_eq text e))
none_of_one texts text is e = sym (ap (λ b. b && not (bytes_eq text e)) (ap (λ l. has_text l e) is ∙ one_has text e) ∙ neither (bytes_eq text e))
  where
    neither : (b : Bool) → (b && not b) ≡ false
    neither true = refl
    neither false = refl

pub has_one : (texts : List (List ℕ)) (text : List ℕ) → texts ≡ text ∷ [] → has_text texts text ≡ true
has_one texts text is = ap (λ l. has_text l text) is ∙ has_first text []
