-- What becomes of an index where the entry of a key, made with one text if it is new, takes the text.
use Rattle.std.proofs.Common.{◌≡◌, ◌≢◌, ℕ, List, [], ◌∷◌, Option, Some, None, Bool, true, false, cond, ◌||◌, Result, Ok, Err, refl, sym, ap, ◌∙◌, subst}
use Rattle.std.specs.Prelude.{OnErr, IsOk, bytes_eq}
use Rattle.std.specs.Option.{UnwrapsOrElse}
use Rattle.std.specs.declared.cmp.Ordering.{Ordering}
use Rattle.std.specs.declared.cmp.Ordering.TheVariants.{Less, Equal, Greater}
use Rattle.std.specs.Ordering.{is_eq, match_ordering}
use Rattle.std.specs.Cmp.{IsTotalOrder}
use Rattle.std.specs.List.Sorted.{IsStrictlySortedBy}
use Rattle.std.specs.Map.{keys_of, lookup}
use Rattle.std.specs.BTreeMap.{insert_entry}
use Rattle.std.proofs.lemmas.Map.{lookup-none}
use Rattle.std.proofs.lemmas.Map.Entries.{none_below_head}
use Rattle.std.proofs.lemmas.Map.Keys.{sorted_tail}
use Rattle.lw_index.specs.Index.{EachHasEndpoints}
use Rattle.lw_index.specs.inner.Texts.{has_text}
use Rattle.lw_index.proofs.TextLemmas.{has_first, one_has}
use Rattle.lw_index.proofs.IndexLemmas.{held, each_found}

insert_step : {K : Type 0} (cmp : K → K → Ordering) → IsTotalOrder cmp → (k : K) (v : List (List ℕ)) (p : K × List (List ℕ)) (ps : List (K × List (List ℕ)))
    → IsStrictlySortedBy cmp (keys_of (p ∷ ps)) → (r : Ordering) → cmp k p.0 ≡ r → cond (is_eq r) (Some p.1) (lookup (λ q. is_eq (cmp k q)) ps) ≡ Some v
    → (lookup (λ q. is_eq (cmp k q)) ps ≡ Some v → insert_entry cmp ps k v ≡ ps)
    → match_ordering r ((k, v) ∷ p ∷ ps) ((p.0, v) ∷ ps) (p ∷ insert_entry cmp ps k v) ≡ p ∷ ps
insert_step cmp o k v p ps rise Less is found later =
    let none = lookup-none (λ q. is_eq (cmp k q)) ps (none_below_head o k p ps rise is).1 in
    absurd cc
insert_step cmp o k v p ps rise Equal is found later =
    let same : v ≡ p.1 = cc in
    ap (λ (x : List (List ℕ)). (p.0, x) ∷ ps) same
insert_step cmp o k v p ps rise Greater is found later = ap (λ l. p ∷ l) (later found)

-- what a key has, put at the key, changes nothing
insert_same : {K : Type 0} (cmp : K → K → Ordering) → IsTotalOrder cmp → (es : List (K × List (List ℕ))) (k : K) (v : List (List ℕ))
    → IsStrictlySortedBy cmp (keys_of es) → lookup (λ q. is_eq (cmp k q)) es ≡ Some v → insert_entry cmp es k v ≡ es
insert_same cmp o [] k v rise found = absurd cc
insert_same cmp o (p ∷ ps) k v rise found =
    insert_step cmp o k v p ps rise (cmp k p.0) refl found (insert_same cmp o ps k v (sorted_tail cmp p.0 (keys_of ps) rise))

-- the list that an entry starts with: what the key had, or the text alone
abbrev pub Starts : Option (List (List ℕ)) → List ℕ → List (List ℕ) → Type 0
Starts was bs v = UnwrapsOrElse was (λ (texts : List (List ℕ)). texts ≡ bs ∷ []) v

pub start_some : {K : Type 0} (test : K → Bool) (es : List (K × List (List ℕ))) (was : Option (List (List ℕ))) (bs : List ℕ) (v : List (List ℕ))
    → lookup test es ≡ was → Starts was bs v → EachHasEndpoints es → v ≢ []
start_some test es None bs v found start each = λ none. absurd cc
start_some test es (Some texts) bs v found start each = λ none. each_found test texts es found each (sym start ∙ none)

or_same : (b : Bool) → (b || b) ≡ b
or_same true = refl
or_same false = refl

pub start_more : (was : Option (List (List ℕ))) (bs : List ℕ) (v w : List (List ℕ)) → Starts was bs v
    → ((e : List ℕ) → has_text w e ≡ (has_text v e || bytes_eq bs e)) → (e : List ℕ) → has_text w e ≡ (held was e || bytes_eq bs e)
start_more None bs v w start more e =
    more e ∙ ap (λ b. b || bytes_eq bs e) (ap (λ l. has_text l e) start ∙ one_has bs e) ∙ or_same (bytes_eq bs e)
start_more (Some texts) bs v w start more e = more e ∙ ap (λ l. has_text l e || bytes_eq bs e) start

pub start_has : (was : Option (List (List ℕ))) (bs : List ℕ) (v : List (List ℕ)) → Starts was bs v → held was bs ≡ true → has_text v bs ≡ true
start_has None bs v start h = absurd cc
start_has (Some texts) bs v start h = ap (λ l. has_text l bs) start ∙ h

module _ {K : Type 0} (cmp : K → K → Ordering) (o : IsTotalOrder cmp) (es ns old : List (K × List (List ℕ))) (key : K) (bs : List ℕ) (v w : List (List ℕ))
    (shows : es ≡ old) (rise : IsStrictlySortedBy cmp (keys_of es)) (put : ns ≡ insert_entry cmp es key w) where
  put_same : (texts : List (List ℕ)) → lookup (λ q. is_eq (cmp key q)) es ≡ Some texts → v ≡ texts → w ≡ v → ns ≡ old
  put_same texts found start same = put ∙ ap (insert_entry cmp es key) (same ∙ start) ∙ insert_same cmp o es key texts rise found ∙ shows

  pub start_same : (was : Option (List (List ℕ))) → lookup (λ q. is_eq (cmp key q)) es ≡ was → Starts was bs v → held was bs ≡ true → w ≡ v → ns ≡ old
  start_same None found start h same = absurd cc
  start_same (Some texts) found start h same = put_same texts found start same

  -- the text that a new entry is made with is not refused
  pub start_refused : {T E : Type 0} (was : Option (List (List ℕ))) (r : Result T E) → lookup (λ q. is_eq (cmp key q)) es ≡ was → Starts was bs v
      → (has_text v bs ≡ true → IsOk r × (w ≡ v)) → OnErr r (w ≡ v) → OnErr r (ns ≡ old)
  start_refused was (Ok x) found start present h = h
  start_refused None (Err e) found start present h =
      let kept = present (ap (λ l. has_text l bs) start ∙ has_first bs []) in
      absurd (let ok = kept.0 in cc)
  start_refused (Some texts) (Err e) found start present h = put_same texts found start h

-- entries that equal those of an index are those of an index
pub put_entries : {K : Type 0} (cmp : K → K → Ordering) (ns es : List (K × List (List ℕ))) → ns ≡ es → IsStrictlySortedBy cmp (keys_of es) → EachHasEndpoints es
    → IsStrictlySortedBy cmp (keys_of ns) × EachHasEndpoints ns
put_entries cmp ns es same rise each = (subst (λ l. IsStrictlySortedBy cmp (keys_of l)) (sym same) rise, subst EachHasEndpoints (sym same) each)
