-- Keys that compare equal are one, and which keys a slot has.
use Rattle.std.proofs.Common.{◌≡◌, ◌⊎◌, inl, inr, ℕ, ◌+◌, ◌<◌, ◌≤◌, length, get_or, drop, Bool, true, false, ◌&&◌, List, ◌∷◌, Option, Some, None, refl, sym, ap, ◌∙◌, subst}
use Rattle.std.specs.Prelude.{Contains, nat_eq, bytes_eq}
use Rattle.std.specs.Option.{option_eq}
use Rattle.std.proofs.lemmas.List.{at_drop_more, at_drop_all}
use Rattle.std.proofs.lemmas.Slice.Eq.{bytes_eq-Decides}
use Rattle.std.proofs.lemmas.Bool.{eqb-true, eq-eqb}
use Rattle.lw_stamp.specs.declared.stamp.Stamp.{Stamp}
use Rattle.lw_stamp.specs.contracts.stamp.StampPartialEq.TheImpl as stamps
use Rattle.lw_stamp.proofs.StampLemmas.{same_stamp}
use Rattle.lw_reg.specs.contracts.addr.AddrPartialEq.TheImpl as addrs
use Rattle.lw_reg.specs.declared.addr.Addr.{Addr}
use Rattle.lw_reg.specs.declared.addr.Addr.TheVariants.{V4, V6}
use Rattle.lw_reg.specs.declared.path.Path.{Path}
use Rattle.lw_reg.specs.Body.{Watching}
use Rattle.lw_reg.specs.Reading.{tokens_in}
use Rattle.lw_reg.proofs.Members.{none_there, first_there, more_there, there_or_first}
use Rattle.lw_join.specs.declared.once.Once.{Once}
use Rattle.lw_join.specs.declared.or_gone.OrGone.{OrGone}
use Rattle.lw_join.specs.declared.or_gone.OrGone.TheVariants.{Here, Gone}
use Rattle.lw_table.specs.inner.Keys.{token_in}

both : (a b : Bool) → (a && b) ≡ true → (a ≡ true) × (b ≡ true)
both true true h = (refl, refl)
both true false h = absurd cc
both false b h = absurd cc

pub stamp_same : (a b : Stamp) → (stamps.ghosts).eq a b ≡ true → a ≡ b
stamp_same a b h = let p = both (nat_eq a.counter b.counter) (nat_eq a.node b.node) h in same_stamp a b (eqb-true a.counter b.counter p.0) (eqb-true a.node b.node p.1)

pub stamp_itself : (a : Stamp) → (stamps.ghosts).eq a a ≡ true
stamp_itself a = (λ i. eq-eqb a.counter a.counter refl i && eq-eqb a.node a.node refl i)

-- ---- tokens
abbrev pub then_token : Option Stamp → List Stamp → List Stamp
then_token None tokens = tokens
then_token (Some token) tokens = token ∷ tokens

pub tokens_cons : (entry : Path × Watching) (entries : List (Path × Watching)) → tokens_in (entry ∷ entries) ≡ then_token (token_in entry.1) (tokens_in entries)
tokens_cons entry entries = go entry.0 entry.1.stamp entry.1.value
  where
    go : (p : Path) (t : Stamp) (v : OrGone (Once ℕ)) → tokens_in ((p, record { stamp = t; value = v }) ∷ entries) ≡ then_token (token_in (record { stamp = t; value = v })) (tokens_in entries)
    go p t Gone = refl
    go p t (Here accept) = refl

pub token_is : (t : Option Stamp) (token : Stamp) → option_eq (stamps.ghosts).eq t (Some token) ≡ true → t ≡ Some token
token_is None token h = absurd cc
token_is (Some t) token h = ap Some (stamp_same t token h)

pub token_is_not : {G : Type 0} (t : Option Stamp) (token : Stamp) → option_eq (stamps.ghosts).eq t (Some token) ≡ false → t ≡ Some token → G
token_is_not {G} t token h is = absurd (let same : option_eq (stamps.ghosts).eq (Some token) (Some token) ≡ false = subst (λ x. option_eq (stamps.ghosts).eq x (Some token) ≡ false) is h in let itself = stamp_itself token in cc)

pub tokens_same : (a b : Option Stamp) → option_eq (stamps.ghosts).eq a b ≡ true → a ≡ b
tokens_same None None h = refl
tokens_same None (Some b) h = absurd cc
tokens_same (Some a) None h = absurd cc
tokens_same (Some a) (Some b) h = ap Some (stamp_same a b h)

pub then_first : (t : Option Stamp) (token : Stamp) (tokens : List Stamp) → t ≡ Some token → Contains (then_token t tokens) token
then_first t token tokens is = subst (λ x. Contains (then_token x tokens) token) (sym is) (first_there token tokens token refl)

pub then_more : (t : Option Stamp) (token : Stamp) (tokens : List Stamp) → Contains tokens token → Contains (then_token t tokens) token
then_more None token tokens h = h
then_more (Some t) token tokens h = more_there t tokens token h

pub then_cases : (t : Option Stamp) (token : Stamp) (tokens : List Stamp) → Contains (then_token t tokens) token → (t ≡ Some token) ⊎ Contains tokens token
then_cases None token tokens h = inr h
then_cases (Some t) token tokens h = elim (there_or_first t tokens token h) [ inl same ↦ inl (ap Some (sym same)) | inr more ↦ inr more ]

-- ---- the tokens from an entry on
module _ (ws : List (Path × Watching)) (i : ℕ) (entry : Path × Watching) (within : i < length ws) (is : entry ≡ get_or ws i entry) where
  from_here : tokens_in (drop i ws) ≡ then_token (token_in entry.1) (tokens_in (drop (i + 1) ws))
  from_here = at_drop_more tokens_in ws i entry within ∙ ap (λ (e : Path × Watching). tokens_in (e ∷ drop (i + 1) ws)) (sym is) ∙ tokens_cons entry (drop (i + 1) ws)

  pub here_has : (token : Stamp) → token_in entry.1 ≡ Some token → Contains (tokens_in (drop i ws)) token
  here_has token h = subst (λ l. Contains l token) (sym from_here) (then_first (token_in entry.1) token (tokens_in (drop (i + 1) ws)) h)

  pub rest_has : (token : Stamp) → Contains (tokens_in (drop (i + 1) ws)) token → Contains (tokens_in (drop i ws)) token
  rest_has token h = subst (λ l. Contains l token) (sym from_here) (then_more (token_in entry.1) token (tokens_in (drop (i + 1) ws)) h)

  pub has_cases : (token : Stamp) → Contains (tokens_in (drop i ws)) token → (token_in entry.1 ≡ Some token) ⊎ Contains (tokens_in (drop (i + 1) ws)) token
  has_cases token h = then_cases (token_in entry.1) token (tokens_in (drop (i + 1) ws)) (subst (λ l. Contains l token) from_here h)

pub none_left : {G : Type 0} (ws : List (Path × Watching)) (i : ℕ) (token : Stamp) → length ws ≤ i → Contains (tokens_in (drop i ws)) token → G
none_left ws i token past h = none_there token (subst (λ l. Contains l token) (at_drop_all tokens_in ws i past) h)

-- ---- addresses
pub address_same : (a b : Addr) → (addrs.ghosts).eq a b ≡ true → a ≡ b
address_same (V4 a p) (V4 b q) h = let w = both (bytes_eq a b) (nat_eq p q) h in (λ i. V4 ((bytes_eq-Decides a b).0 w.0 i) (eqb-true p q w.1 i))
address_same (V4 a p) (V6 b q) h = absurd cc
address_same (V6 a p) (V4 b q) h = absurd cc
address_same (V6 a p) (V6 b q) h = let w = both (bytes_eq a b) (nat_eq p q) h in (λ i. V6 ((bytes_eq-Decides a b).0 w.0 i) (eqb-true p q w.1 i))

pub address_itself : (a : Addr) → (addrs.ghosts).eq a a ≡ true
address_itself (V4 a p) = (λ i. (bytes_eq-Decides a a).1 refl i && eq-eqb p p refl i)
address_itself (V6 a p) = (λ i. (bytes_eq-Decides a a).1 refl i && eq-eqb p p refl i)

pub address_is : (a b : Addr) → a ≡ b → (addrs.ghosts).eq a b ≡ true
address_is a b same = subst (λ x. (addrs.ghosts).eq a x ≡ true) same (address_itself a)

pub some_write : (s t : Stamp) (a b : Addr) → ◌≡◌ {A = Option (Stamp × Addr)} (Some (s, a)) (Some (t, b)) → a ≡ b
some_write s t a b h = ap written h
  where
    written : Option (Stamp × Addr) → Addr
    written None = a
    written (Some w) = w.1
