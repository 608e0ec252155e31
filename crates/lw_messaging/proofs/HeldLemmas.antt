-- Where the latest exchange of a key stands, after one is put behind the others, and after the first goes.
use Rattle.std.specs.Prelude.{◌≡◌, ◌≢◌, ℕ, suc, ◌+◌, ◌-◌, ◌==◌, ◌&&◌, Bool, true, false, cond, List, [], ◌∷◌, ◌++◌, length, slice_get, Option, None, Some, refl}
use Rattle.std.proofs.Common.{sym, ap, ◌∙◌, subst, arith}
use Rattle.std.specs.Prelude.{◌<◌, ◌≤◌, ◌↔◌, IsSome, IfSome}
use Rattle.std.specs.Borrow.{Bor}
use Rattle.std.proofs.Common.{get_or, length-append}
use Rattle.std.specs.Option.{option_or, option_map, option_copied, MatchOption}
use Rattle.std.proofs.Common.{inl, inr, ◌⊎◌}
use Rattle.std.proofs.lemmas.Bool.Decides.{eqb_tells}
use Rattle.std.proofs.lemmas.Option.{slice_get_past, slice_get_read}
use Rattle.std.specs.Ordering.{nat_cmp, is_eq}
use Rattle.std.specs.Map.{lookup}
use Rattle.std.specs.Cmp.{IsTotalOrder, Equal-is, both_tied, unsigned_ties, nat_cmp_total}
use Rattle.std.proofs.lemmas.Cmp.{on_total, then_total}
use Rattle.lw_reg.specs.declared.addr.Addr.{Addr}
use Rattle.lw_reg.specs.AddrOrder.{addr_by_parts, same_addr, addr_ties, addr_total}
use Rattle.lw_messaging.specs.declared.exchange.Exchange.{Exchange}
use Rattle.lw_messaging.specs.Header.{message_id}
use Rattle.lw_messaging.specs.Replies.{has_id, latest_of, size_of, total_size}
use Rattle.lw_messaging.specs.inner.Held.{Key, key_cmp, key_of, value_at, latest_place, AreNumbered}

pub key_total : IsTotalOrder key_cmp
key_total = then_total (on_total (λ (key : Key). key.0) addr_total) (on_total (λ (key : Key). key.1) nat_cmp_total)

-- keys that compare equal have one value
pub at_same : (entries : List (Key × ℕ)) (a b : Key) → is_eq (key_cmp a b) ≡ true → value_at entries a ≡ value_at entries b
at_same entries a b h i = lookup (λ k. is_eq (key_total.congr a b k ((Equal-is (key_cmp a b)).0 h) i)) entries

pub has_key : (x : Exchange) (from : Addr) (id : ℕ) → is_eq (key_cmp (key_of x) (from, id)) ≡ has_id from id x
has_key x from id =
    sym (both_tied (same_addr x.from from) (message_id x.bytes == id) (addr_by_parts x.from from) (nat_cmp (message_id x.bytes) id)
    (addr_ties x.from from) (unsigned_ties (message_id x.bytes) id))

-- the exchange stands at the place, or there is neither
abbrev pub Agrees : List Exchange → Option ℕ → Option Exchange → Type 0
Agrees xs place latest = MatchOption place (latest ≡ None) (λ i. (y : Exchange) × ((slice_get xs i ≡ Some y) × (latest ≡ Some y)))

agrees_step : (x : Exchange) (xs : List Exchange) (place : Option ℕ) (latest : Option Exchange) (b : Bool) → Agrees xs place latest
    → Agrees (x ∷ xs) (option_or (option_map suc place) (cond b (Some 0) None)) (option_or latest (cond b (Some x) None))
agrees_step x xs None latest true a = (x, (refl, ap (λ (o : Option Exchange). option_or o (Some x)) a))
agrees_step x xs None latest false a = ap (λ (o : Option Exchange). option_or o None) a
agrees_step x xs (Some i) latest b a = (a.0, (a.1.0, ap (λ (o : Option Exchange). option_or o (cond b (Some x) None)) a.1.1))

pub agrees : (from : Addr) (id : ℕ) (xs : List Exchange) → Agrees xs (latest_place xs (from, id)) (latest_of from id xs)
agrees from id [] = refl
agrees from id (x ∷ xs) =
    subst (λ (b : Bool). Agrees (x ∷ xs) (latest_place (x ∷ xs) (from, id)) (option_or (latest_of from id xs) (cond b (Some x) None)))
    (has_key x from id) (agrees_step x xs _ _ (is_eq (key_cmp (key_of x) (from, id))) (agrees from id xs))

none_at : (first : ℕ) (xs : List Exchange) (place : Option ℕ) (latest : Option Exchange) → Agrees xs place latest
    → None ≡ option_map (λ p. first + p) place → latest ≡ None
none_at first xs None latest a is = a
none_at first xs (Some i) latest a is = cc

some_at : (first number : ℕ) (xs : List Exchange) (place : Option ℕ) (latest : Option Exchange) → Agrees xs place latest
    → Some number ≡ option_map (λ p. first + p) place → slice_get xs (number - first) ≡ latest
some_at first number xs None latest a is = cc
some_at first number xs (Some i) latest a is =
    let n : number ≡ first + i = cc in
    let back : number - first ≡ i = omega arith in
    ap (slice_get xs) back ∙ a.1.0 ∙ sym a.1.1

-- no exchange has the key under which there is no number
pub latest-none : (entries : List (Key × ℕ)) (first : ℕ) (xs : List Exchange) (from : Addr) (id : ℕ) → AreNumbered entries first xs
    → value_at entries (from, id) ≡ None → latest_of from id xs ≡ None
latest-none entries first xs from id numbered none = none_at first xs _ _ (agrees from id xs) (sym none ∙ numbered (from, id))

-- the latest exchange of a key stands at its number, counted from the first
pub latest-some : (entries : List (Key × ℕ)) (first number : ℕ) (xs : List Exchange) (from : Addr) (id : ℕ) → AreNumbered entries first xs
    → value_at entries (from, id) ≡ Some number → slice_get xs (number - first) ≡ latest_of from id xs
latest-some entries first number xs from id numbered is = some_at first number xs _ _ (agrees from id xs) (sym is ∙ numbered (from, id))

push_step : (b c : Bool) (n : ℕ) (p q : Option ℕ) → q ≡ cond b (Some n) p
    → option_or (option_map suc q) (cond c (Some 0) None) ≡ cond b (Some (suc n)) (option_or (option_map suc p) (cond c (Some 0) None))
push_step true c n p q is = ap (λ (o : Option ℕ). option_or (option_map suc o) (cond c (Some 0) None)) is
push_step false c n p q is = ap (λ (o : Option ℕ). option_or (option_map suc o) (cond c (Some 0) None)) is

pub latest_place-push : (xs : List Exchange) (x : Exchange) (key : Key)
    → latest_place (xs ++ x ∷ []) key ≡ cond (is_eq (key_cmp (key_of x) key)) (Some (length xs)) (latest_place xs key)
latest_place-push [] x key = refl
latest_place-push (y ∷ ys) x key =
    push_step (is_eq (key_cmp (key_of x) key)) (is_eq (key_cmp (key_of y) key)) (length ys) _ _ (latest_place-push ys x key)

put_step : (b : Bool) (first n : ℕ) (value : Option ℕ) (p : Option ℕ) → value ≡ option_map (λ i. first + i) p
    → cond b (Some (first + n)) value ≡ option_map (λ i. first + i) (cond b (Some n) p)
put_step true first n value p is = refl
put_step false first n value p is = is

pub numbered-push : (entries more : List (Key × ℕ)) (first : ℕ) (xs : List Exchange) (x : Exchange) → AreNumbered entries first xs
    → ((key : Key) → value_at more key ≡ cond (is_eq (key_cmp (key_of x) key)) (Some (first + length xs)) (value_at entries key))
    → AreNumbered more first (xs ++ x ∷ [])
numbered-push entries more first xs x numbered update key =
    update key ∙ put_step (is_eq (key_cmp (key_of x) key)) first (length xs) _ _ (numbered key)
    ∙ ap (option_map (λ i. first + i)) (sym (latest_place-push xs x key))

-- a key that the first has not
other_step : (first : ℕ) (value p : Option ℕ) → value ≡ option_map (λ i. first + i) (option_or (option_map suc p) None)
    → value ≡ option_map (λ i. (first + 1) + i) p
other_step first value None is = is
other_step first value (Some i) is = let e : first + suc i ≡ (first + 1) + i = omega arith in is ∙ ap Some e

-- a key that the first has, where the number of the first is no more there
gone_step : (first : ℕ) (p : Option ℕ) → Some first ≡ option_map (λ i. first + i) (option_or (option_map suc p) (Some 0))
    → None ≡ option_map (λ i. (first + 1) + i) p
gone_step first None is = refl
gone_step first (Some i) is = let e : first ≡ first + suc i = cc in let no : ⊥ = omega arith in absurd no

-- a key that the first has, where another one has it behind
stays_step : (first : ℕ) (value p : Option ℕ) → value ≢ Some first
    → value ≡ option_map (λ i. first + i) (option_or (option_map suc p) (Some 0))
    → value ≡ option_map (λ i. (first + 1) + i) p
stays_step first value None other is = let e : first + 0 ≡ first = omega arith in absurd (other (is ∙ ap Some e))
stays_step first value (Some i) other is = let e : first + suc i ≡ (first + 1) + i = omega arith in is ∙ ap Some e

module _ (entries less : List (Key × ℕ)) (first : ℕ) (x : Exchange) (xs : List Exchange) (numbered : AreNumbered entries first (x ∷ xs)) where
  abbrev same : Key → Bool
  same key = is_eq (key_cmp (key_of x) key)

  abbrev here : Key → Bool → Type 0
  here key b = value_at entries key ≡ option_map (λ i. first + i) (option_or (option_map suc (latest_place xs key)) (cond b (Some 0) None))

  gone_at : value_at entries (key_of x) ≡ Some first → (key : Key) (b : Bool) → same key ≡ b → here key b
      → value_at less key ≡ cond b None (value_at entries key) → value_at less key ≡ option_map (λ i. (first + 1) + i) (latest_place xs key)
  gone_at is key true eq was now = now ∙ gone_step first (latest_place xs key) (sym is ∙ at_same entries (key_of x) key eq ∙ was)
  gone_at is key false eq was now = now ∙ other_step first _ (latest_place xs key) was

  stays_at : value_at entries (key_of x) ≢ Some first → (key : Key) (b : Bool) → same key ≡ b → here key b
      → value_at less key ≡ value_at entries key → value_at less key ≡ option_map (λ i. (first + 1) + i) (latest_place xs key)
  stays_at other key true eq was now =
      now ∙ stays_step first _ (latest_place xs key) (λ h. other (at_same entries (key_of x) key eq ∙ h)) was
  stays_at other key false eq was now = now ∙ other_step first _ (latest_place xs key) was

  pub numbered-gone : value_at entries (key_of x) ≡ Some first
      → ((key : Key) → value_at less key ≡ cond (is_eq (key_cmp (key_of x) key)) None (value_at entries key))
      → AreNumbered less (first + 1) xs
  numbered-gone is update key = gone_at is key (same key) refl (numbered key) (update key)

  pub numbered-stays : value_at entries (key_of x) ≢ Some first
      → ((key : Key) → value_at less key ≡ value_at entries key)
      → AreNumbered less (first + 1) xs
  numbered-stays other update key = stays_at other key (same key) refl (numbered key) (update key)

none_past : (n i : ℕ) → (i < n → ⊥) → n ≤ i
none_past n i out = omega arith

-- what a look-up by place lends is what stands there
pub lent : {X : Type 0} (xs : List X) (n i : ℕ) (r : Option (Bor X)) → n ≡ length xs → (IsSome r ↔ (i < n)) → IfSome r (λ x. x.now ≡ get_or xs i x.now)
    → option_copied r ≡ slice_get xs i
lent xs n i None size some is =
    let past : n ≤ i = none_past n i (λ h. let e : false ≡ true = some.1 h in cc) in
    let beyond : length xs ≤ i = omega arith in
    sym (slice_get_past xs i beyond)
lent xs n i (Some x) size some is = sym (slice_get_read xs n i x.now size (some.0 refl) is)

-- the numbers after an exchange is put behind the others
pub numbered-put : (entries more : List (Key × ℕ)) (first number : ℕ) (xs ys : List Exchange) (x : Exchange) (key : Key)
    → key ≡ key_of x → number ≡ first + length xs → ys ≡ xs ++ x ∷ [] → AreNumbered entries first xs
    → ((q : Key) → value_at more q ≡ cond (is_eq (key_cmp key q)) (Some number) (value_at entries q))
    → AreNumbered more first ys
numbered-put entries more first number xs ys x key is at are numbered update =
    let put = subst (λ (k : Key). (q : Key) → value_at more q ≡ cond (is_eq (key_cmp k q)) (Some number) (value_at entries q)) is update in
    let here = subst (λ (n : ℕ). (q : Key) → value_at more q ≡ cond (is_eq (key_cmp (key_of x) q)) (Some n) (value_at entries q)) at put in
    subst (λ (zs : List Exchange). AreNumbered more first zs) (sym are) (numbered-push entries more first xs x numbered here)

decided : (o : Option ℕ) (n : ℕ) → (o ≡ Some n) ⊎ (o ≢ Some n)
decided None n = inr (λ h. cc)
decided (Some m) n = elim (eqb_tells m n) [ inl h ↦ inl (ap Some h.1) | inr h ↦ inr (λ (e : Some m ≡ Some n). let same : m ≡ n = cc in h.1 same) ]

-- the numbers after the first goes
pub numbered-drop : (entries less : List (Key × ℕ)) (first : ℕ) (x : Exchange) (xs all : List Exchange) (key : Key)
    → key ≡ key_of x → all ≡ x ∷ xs → AreNumbered entries first all
    → (value_at entries key ≡ Some first → (q : Key) → value_at less q ≡ cond (is_eq (key_cmp key q)) None (value_at entries q))
    → (value_at entries key ≢ Some first → (q : Key) → value_at less q ≡ value_at entries q)
    → AreNumbered less (first + 1) xs
numbered-drop entries less first x xs all key is are numbered gone stays =
    let n = subst (λ (zs : List Exchange). AreNumbered entries first zs) are numbered in
    let g = subst (λ (k : Key). value_at entries k ≡ Some first → (q : Key) → value_at less q ≡ cond (is_eq (key_cmp k q)) None (value_at entries q)) is gone in
    let s = subst (λ (k : Key). value_at entries k ≢ Some first → (q : Key) → value_at less q ≡ value_at entries q) is stays in
    elim (decided (value_at entries (key_of x)) first) [
      | inl h ↦ numbered-gone entries less first x xs n h (g h)
      | inr h ↦ numbered-stays entries less first x xs n h (s h)
    ]

total_size-push : (xs : List Exchange) (x : Exchange) → total_size (xs ++ x ∷ []) ≡ total_size xs + size_of x
total_size-push [] x = omega arith
total_size-push (y ∷ ys) x = omega (arith, total_size-push ys x)

pub size-put : (size more : ℕ) (xs ys : List Exchange) (x : Exchange) → more ≡ size + size_of x → size ≡ total_size xs → ys ≡ xs ++ x ∷ []
    → more ≡ total_size ys
size-put size more xs ys x sum is are =
    let all : more ≡ total_size xs + size_of x = cc in all ∙ sym (total_size-push xs x) ∙ ap total_size (sym are)

pub size-drop : (size : ℕ) (xs all : List Exchange) (x : Exchange) → all ≡ x ∷ xs → size ≡ total_size all → size - size_of x ≡ total_size xs
size-drop size xs all x are is =
    let sum : size ≡ size_of x + total_size xs = is ∙ ap total_size are in omega arith

pub last-put : (first : ℕ) (xs ys : List Exchange) (x : Exchange) → first + length xs < 18446744073709551616 → first + length xs ≢ 18446744073709551615
    → ys ≡ xs ++ x ∷ [] → first + length ys < 18446744073709551616
last-put first xs ys x last other are =
    let size : length ys ≡ length xs + 1 = ap length are ∙ length-append xs (x ∷ []) in omega arith

pub last-drop : (first : ℕ) (xs all : List Exchange) (x : Exchange) → all ≡ x ∷ xs → first + length all < 18446744073709551616
    → (first + 1) + length xs < 18446744073709551616
last-drop first xs all x are last = let size : length all ≡ length xs + 1 = ap length are ∙ omega arith in omega arith
