-- Which keys a join of slots brings and takes.
use Rattle.std.proofs.Common.{◌≡◌, ◌⊎◌, inl, inr, ℕ, ◌+◌, ◌<◌, ◌≤◌, length, get_or, drop, Bool, true, false, cond, ◌&&◌, List, [], ◌∷◌, ◌++◌, map, Option, Some, None, refl, sym, ap, ◌∙◌, subst, append_assoc}
use Rattle.std.specs.Prelude.{Contains}
use Rattle.std.specs.Option.{option_eq}
use Rattle.std.specs.declared.cmp.Ordering.{Ordering}
use Rattle.std.specs.declared.cmp.Ordering.TheVariants.{Less, Equal, Greater}
use Rattle.std.specs.Cmp.{tied_itself}
use Rattle.std.specs.Ordering.{is_eq, nat_cmp, match_ordering, max_by_ordering}
use Rattle.std.proofs.lemmas.List.{append-nil, at_drop_more, at_drop_all}
use Rattle.std.proofs.lemmas.List.Elements.{Contains-append_left, Contains-append_right, Contains-append_cases}
use Rattle.lw_stamp.specs.declared.stamp.Stamp.{Stamp}
use Rattle.lw_stamp.specs.contracts.stamp.StampPartialEq.TheImpl as stamps
use Rattle.lw_stamp.specs.StampOrder.{stamp_cmp}
use Rattle.lw_stamp.proofs.StampLemmas.{stamp_order}
use Rattle.lw_join.specs.Entries.{Rises, get as entry_of}
use Rattle.lw_join.specs.EntriesLaws.{get_below, get_first, same_key}
use Rattle.lw_join.specs.Greater.{greater}
use Rattle.lw_join.specs.Lex.{lex_of}
use Rattle.lw_join.specs.Lww.{write_cmp}
use Rattle.lw_join.specs.Once.{once_join}
use Rattle.lw_join.specs.Options.{option_join}
use Rattle.lw_join.specs.OrGone.{gone_join}
use Rattle.lw_join.specs.Parts.{entries_of}
use Rattle.lw_join.specs.PartsLaws.{value_at-join}
use Rattle.lw_join.specs.declared.once.Once.{Once}
use Rattle.lw_join.specs.declared.or_gone.OrGone.{OrGone}
use Rattle.lw_join.specs.declared.or_gone.OrGone.TheVariants.{Here, Gone}
use Rattle.lw_reg.specs.contracts.addr.AddrPartialEq.TheImpl as addrs
use Rattle.lw_reg.specs.declared.addr.Addr.{Addr}
use Rattle.lw_reg.specs.declared.body.Body.{Body}
use Rattle.lw_reg.specs.declared.path.Path.{Path}
use Rattle.lw_reg.specs.declared.slot.Slot.{Slot}
use Rattle.lw_reg.specs.Body.{Watching, watching_join, body_join}
use Rattle.lw_reg.specs.OrderLaws.{path_order}
use Rattle.lw_reg.specs.Orders.{addr_cmp, path_cmp}
use Rattle.lw_reg.specs.Reading.{address_of, tokens_in, watches_of}
use Rattle.lw_reg.specs.Slot.{slot_at, slot_join}
use Rattle.lw_reg.proofs.Members.{none_there, first_there, more_there, there_or_first}
use Rattle.lw_table.specs.Keys.{HasKey}
use Rattle.lw_table.specs.inner.Keys.{token_here, token_in}
use Rattle.lw_table.specs.inner.KeyChanges.{HasKeyChanges, id_key, address_key, token_key, token_keys, keys_in, token_was, differing, differing_addresses, differing_tokens, turned_tokens, both_here, is_one, changes}
use Rattle.lw_table.specs.declared.key.Key.{Key}
use Rattle.lw_table.specs.declared.key.Key.TheVariants.{Id, Address, Token}
use Rattle.lw_table.proofs.KeyLemmas.{address_same, some_write, stamp_same, then_token, tokens_cons, then_first, then_more, then_cases, tokens_same}

-- ---- tokens by path
pub token_there : (ws : List (Path × Watching)) (p : Path) (t : Stamp) → token_was (entry_of path_cmp ws p) ≡ Some t → Contains (tokens_in ws) t
token_there [] p t h = absurd cc
token_there (e ∷ es) p t h = subst (λ l. Contains l t) (sym (tokens_cons e es)) (go (token_there es p t) (is_eq (path_cmp p e.0)) h)
  where
    go : (token_was (entry_of path_cmp es p) ≡ Some t → Contains (tokens_in es) t) → (b : Bool) → token_was (cond b (Some e.1) (entry_of path_cmp es p)) ≡ Some t → Contains (then_token (token_in e.1) (tokens_in es)) t
    go rest true k = then_first (token_in e.1) t (tokens_in es) k
    go rest false k = then_more (token_in e.1) t (tokens_in es) (rest k)

pub token_found : (ws : List (Path × Watching)) → Rises path_cmp ws → (t : Stamp) → Contains (tokens_in ws) t → (p : Path) × (token_was (entry_of path_cmp ws p) ≡ Some t)
token_found [] rises t h = none_there t h
token_found (e ∷ es) rises t h =
    elim (then_cases (token_in e.1) t (tokens_in es) (subst (λ l. Contains l t) (tokens_cons e es) h)) [
      | inl is ↦ (e.0, ap token_was (get_first path_order e es) ∙ is)
      | inr rest ↦ (let found = token_found es rises.1 t rest in (found.0, other found.0 found.1 (is_eq (path_cmp found.0 e.0)) refl))
    ]
  where
    other : (p : Path) → token_was (entry_of path_cmp es p) ≡ Some t → (b : Bool) → is_eq (path_cmp p e.0) ≡ b → token_was (cond b (Some e.1) (entry_of path_cmp es p)) ≡ Some t
    other p is false k = is
    other p is true k = absurd (
        let none : entry_of path_cmp es p ≡ None = subst (λ q. entry_of path_cmp es q ≡ None) (sym (same_key path_order p e.0 k)) (get_below path_order e.0 es rises.0) in
        let bad : None ≡ Some t = ap token_was (sym none) ∙ is in cc)

-- ---- one of two watches, and one of two writes
watch_by : (r : Ordering) (s t : Stamp) (x y : OrGone (Once ℕ)) → (token_in (lex_of (match_ordering r (t, y) (s, gone_join (once_join nat_cmp) x y) (s, x))) ≡ token_here s x) ⊎ (token_in (lex_of (match_ordering r (t, y) (s, gone_join (once_join nat_cmp) x y) (s, x))) ≡ token_here t y)
watch_by Less s t x y = inr refl
watch_by Greater s t x y = inl refl
watch_by Equal s t x Gone = inr refl
watch_by Equal s t Gone (Here y) = inl refl
watch_by Equal s t (Here x) (Here y) = inl refl

pub join_token : (o w : Option Watching) → (token_was (option_join watching_join o w) ≡ token_was o) ⊎ (token_was (option_join watching_join o w) ≡ token_was w)
join_token None w = inr refl
join_token (Some x) None = inl refl
join_token (Some x) (Some y) = watch_by (stamp_cmp x.stamp y.stamp) x.stamp y.stamp x.value y.value

write_by : (r : Ordering) (x y : Stamp × Addr) → (Some (max_by_ordering r x y) ≡ Some x) ⊎ (Some (max_by_ordering r x y) ≡ Some y)
write_by Less x y = inr refl
write_by Equal x y = inr refl
write_by Greater x y = inl refl

pub join_write : (o w : Option (Stamp × Addr)) → (option_join (greater (write_cmp addr_cmp)) o w ≡ o) ⊎ (option_join (greater (write_cmp addr_cmp)) o w ≡ w)
join_write None w = inr refl
join_write (Some x) None = inl refl
join_write (Some x) (Some y) = write_by (write_cmp addr_cmp x y) x y

-- ---- the keys of a slot
key_of_token : (t : Stamp) (ts : List Stamp) → Contains ts t → Contains (map Token ts) (Token t)
key_of_token t [] h = none_there t h
key_of_token t (u ∷ ts) h =
    elim (there_or_first u ts t h) [ inl same ↦ first_there (Token u) (map Token ts) (Token t) (ap Token same) | inr rest ↦ more_there (Token u) (map Token ts) (Token t) (key_of_token t ts rest) ]

token_of_key : (k : Key) (ts : List Stamp) → Contains (map Token ts) k → (t : Stamp) × Contains ts t × (k ≡ Token t)
token_of_key k [] h = none_there k h
token_of_key k (u ∷ ts) h =
    elim (there_or_first (Token u) (map Token ts) k h) [
      | inl same ↦ (u, first_there u ts u refl, same)
      | inr rest ↦ (let w = token_of_key k ts rest in (w.0, more_there u ts w.0 w.1, w.2))
    ]

none_gone : {G : Type 0} (s : Stamp) (k : Key) → HasKey (slot_at s Gone) k → G
none_gone s (Id i) h = absurd (h.0 refl)
none_gone s (Address a) h = absurd (let bad = h.1 in cc)
none_gone s (Token t) h = none_there t h

not_gone : (b : Body) → ◌≡◌ {A = OrGone Body} (Here b) Gone → ⊥
not_gone b h = cc

key_of_write : (o : Option (Stamp × Addr)) (at : Stamp) (a : Addr) → o ≡ Some (at, a) → Contains (address_key o) (Address a)
key_of_write o at a h = subst (λ x. Contains (address_key x) (Address a)) (sym h) (first_there (Address a) [] (Address a) refl)

pub keys_has : (s : Stamp) (v : OrGone Body) (k : Key) → HasKey (slot_at s v) k → Contains (keys_in (slot_at s v)) k
keys_has s Gone k h = none_gone s k h
keys_has s (Here b) (Id i) h =
    Contains-append_left (Id s ∷ address_key b.address.write) (token_keys (entries_of b.maps.right)) (Id i) (Contains-append_left (Id s ∷ []) (address_key b.address.write) (Id i) (first_there (Id s) [] (Id i) (ap Id (sym h.1))))
keys_has s (Here b) (Address a) h =
    Contains-append_left (Id s ∷ address_key b.address.write) (token_keys (entries_of b.maps.right)) (Address a) (Contains-append_right (Id s ∷ []) (address_key b.address.write) (Address a) (key_of_write b.address.write h.0 a h.1))
keys_has s (Here b) (Token t) h =
    Contains-append_right (Id s ∷ address_key b.address.write) (token_keys (entries_of b.maps.right)) (Token t) (key_of_token t (tokens_in (entries_of b.maps.right)) h)

from_write : (s : Stamp) (b : Body) (o : Option (Stamp × Addr)) → b.address.write ≡ o → (k : Key) → Contains (address_key o) k → HasKey (slot_at s (Here b)) k
from_write s b None h k there = none_there k there
from_write s b (Some w) h k there = elim (there_or_first (Address w.1) [] k there) [ inl same ↦ subst (HasKey (slot_at s (Here b))) (sym same) (w.0, h) | inr none ↦ none_there k none ]

pub has_keys : (s : Stamp) (v : OrGone Body) (k : Key) → Contains (keys_in (slot_at s v)) k → HasKey (slot_at s v) k
has_keys s Gone k h = none_there k h
has_keys s (Here b) k h =
    elim (Contains-append_cases (Id s ∷ address_key b.address.write) (token_keys (entries_of b.maps.right)) k h) [
      | inl front ↦ elim (there_or_first (Id s) (address_key b.address.write) k front) [
        | inl same ↦ subst (HasKey (slot_at s (Here b))) (sym same) (not_gone b, refl)
        | inr address ↦ from_write s b b.address.write refl k address
      ]
      | inr token ↦ (let w = token_of_key k (tokens_in (entries_of b.maps.right)) token in subst (HasKey (slot_at s (Here b))) (sym w.2) w.1)
    ]

-- ---- the join of two bodies
module _ (s : Stamp) (x y : Body) where
  abbrev joined : Slot
  joined = slot_at s (Here (body_join x y))

  body_from : (k : Key) → HasKey joined k → HasKey (slot_at s (Here x)) k ⊎ HasKey (slot_at s (Here y)) k
  body_from (Id i) h = inl (not_gone x, h.1)
  body_from (Address a) h = elim (join_write x.address.write y.address.write) [ inl same ↦ inl (h.0, sym same ∙ h.1) | inr same ↦ inr (h.0, sym same ∙ h.1) ]
  body_from (Token t) h =
      let found = token_found (entries_of (body_join x y).maps.right) (body_join x y).maps.right.rises t h in
      let at = value_at-join path_order watching_join x.maps.right y.maps.right found.0 in
      let is : token_was (option_join watching_join (entry_of path_cmp (entries_of x.maps.right) found.0) (entry_of path_cmp (entries_of y.maps.right) found.0)) ≡ Some t = ap token_was (sym at) ∙ found.1 in
      elim (join_token (entry_of path_cmp (entries_of x.maps.right) found.0) (entry_of path_cmp (entries_of y.maps.right) found.0)) [
        | inl same ↦ inl (token_there (entries_of x.maps.right) found.0 t (sym same ∙ is))
        | inr same ↦ inr (token_there (entries_of y.maps.right) found.0 t (sym same ∙ is))
      ]

-- ---- what is listed where both are there
differ_by : (b : Bool) (l a : Addr) → (addrs.ghosts).eq l a ≡ b → (l ≡ a) ⊎ (Contains (differing l a) (Address l) × Contains (differing l a) (Address a))
differ_by true l a h = inl (address_same l a h)
differ_by false l a h =
    inr (
      subst (λ b. Contains (cond b [] (Address l ∷ Address a ∷ [])) (Address l)) (sym h) (first_there (Address l) (Address a ∷ []) (Address l) refl),
      subst (λ b. Contains (cond b [] (Address l ∷ Address a ∷ [])) (Address a)) (sym h) (more_there (Address l) (Address a ∷ []) (Address a) (first_there (Address a) [] (Address a) refl)),
    )

address_gained : (o w : Option (Stamp × Addr)) (at : Stamp) (a : Addr) → w ≡ Some (at, a) → ((was : Stamp) × (o ≡ Some (was, a))) ⊎ Contains (differing_addresses o w) (Address a)
address_gained o None at a h = absurd cc
address_gained None (Some w) at a h = inr (first_there (Address w.1) [] (Address a) (ap Address (sym (some_write w.0 at w.1 a h))))
address_gained (Some l) (Some w) at a h =
    let same : w.1 ≡ a = some_write w.0 at w.1 a h in
    elim (differ_by ((addrs.ghosts).eq l.1 w.1) l.1 w.1 refl) [ inl alike ↦ inl (l.0, ap (λ z. Some (l.0, z)) (alike ∙ same)) | inr listed ↦ inr (subst (λ z. Contains (differing l.1 w.1) (Address z)) same listed.1) ]

address_lost : (o w : Option (Stamp × Addr)) (at : Stamp) (a : Addr) → o ≡ Some (at, a) → ((is : Stamp) × (option_join (greater (write_cmp addr_cmp)) o w ≡ Some (is, a))) ⊎ Contains (differing_addresses o w) (Address a)
address_lost None w at a h = absurd cc
address_lost (Some l) None at a h = inl (at, h)
address_lost (Some l) (Some w) at a h =
    let same : l.1 ≡ a = some_write l.0 at l.1 a h in
    elim (differ_by ((addrs.ghosts).eq l.1 w.1) l.1 w.1 refl) [
      | inl alike ↦ inl (elim (join_write (Some l) (Some w)) [ inl first ↦ (at, first ∙ h) | inr second ↦ (w.0, second ∙ ap (λ z. Some (w.0, z)) (sym alike ∙ same)) ])
      | inr listed ↦ inr (subst (λ z. Contains (differing l.1 w.1) (Address z)) same listed.0)
    ]

tokens_by : (b : Bool) (was is : Option Stamp) → option_eq (stamps.ghosts).eq was is ≡ b → (was ≡ is) ⊎ (differing_tokens was is ≡ token_key was ++ token_key is)
tokens_by true was is h = inl (tokens_same was is h)
tokens_by false was is h = inr (ap (λ b. cond b [] (token_key was ++ token_key is)) h)

key_there : (o : Option Stamp) (t : Stamp) → o ≡ Some t → Contains (token_key o) (Token t)
key_there o t h = subst (λ x. Contains (token_key x) (Token t)) (sym h) (first_there (Token t) [] (Token t) refl)

token_gained : (old ws : List (Path × Watching)) (p : Path) (t : Stamp) → token_was (entry_of path_cmp ws p) ≡ Some t → (token_was (entry_of path_cmp old p) ≡ Some t) ⊎ Contains (turned_tokens old ws) (Token t)
token_gained old [] p t h = absurd cc
token_gained old (e ∷ es) p t h = go (token_gained old es p t) (is_eq (path_cmp p e.0)) refl h
  where
    here : token_in e.1 ≡ Some t → (token_was (entry_of path_cmp old e.0) ≡ Some t) ⊎ Contains (turned_tokens old (e ∷ es)) (Token t)
    here is = elim (tokens_by (option_eq (stamps.ghosts).eq (token_was (entry_of path_cmp old e.0)) (token_in e.1)) (token_was (entry_of path_cmp old e.0)) (token_in e.1) refl) [
      | inl same ↦ inl (same ∙ is)
      | inr listed ↦ inr (Contains-append_left (differing_tokens (token_was (entry_of path_cmp old e.0)) (token_in e.1)) (turned_tokens old es) (Token t)
          (subst (λ l. Contains l (Token t)) (sym listed) (Contains-append_right (token_key (token_was (entry_of path_cmp old e.0))) (token_key (token_in e.1)) (Token t) (key_there (token_in e.1) t is))))
    ]

    go : (token_was (entry_of path_cmp es p) ≡ Some t → (token_was (entry_of path_cmp old p) ≡ Some t) ⊎ Contains (turned_tokens old es) (Token t)) → (b : Bool) → is_eq (path_cmp p e.0) ≡ b → token_was (cond b (Some e.1) (entry_of path_cmp es p)) ≡ Some t → (token_was (entry_of path_cmp old p) ≡ Some t) ⊎ Contains (turned_tokens old (e ∷ es)) (Token t)
    go more true k is = subst (λ q. (token_was (entry_of path_cmp old q) ≡ Some t) ⊎ Contains (turned_tokens old (e ∷ es)) (Token t)) (sym (same_key path_order p e.0 k)) (here is)
    go more false k is = elim (more is) [
      | inl was ↦ inl was
      | inr rest ↦ inr (Contains-append_right (differing_tokens (token_was (entry_of path_cmp old e.0)) (token_in e.1)) (turned_tokens old es) (Token t) rest)
    ]

token_lost : (old ws : List (Path × Watching)) (p : Path) (t : Stamp) → token_was (entry_of path_cmp old p) ≡ Some t → (entry_of path_cmp ws p ≡ None) ⊎ ((token_was (entry_of path_cmp ws p) ≡ Some t) ⊎ Contains (turned_tokens old ws) (Token t))
token_lost old [] p t h = inl refl
token_lost old (e ∷ es) p t h = go (token_lost old es p t h) (is_eq (path_cmp p e.0)) refl
  where
    here : token_was (entry_of path_cmp old e.0) ≡ Some t → (token_in e.1 ≡ Some t) ⊎ Contains (turned_tokens old (e ∷ es)) (Token t)
    here was = elim (tokens_by (option_eq (stamps.ghosts).eq (token_was (entry_of path_cmp old e.0)) (token_in e.1)) (token_was (entry_of path_cmp old e.0)) (token_in e.1) refl) [
      | inl same ↦ inl (sym same ∙ was)
      | inr listed ↦ inr (Contains-append_left (differing_tokens (token_was (entry_of path_cmp old e.0)) (token_in e.1)) (turned_tokens old es) (Token t)
          (subst (λ l. Contains l (Token t)) (sym listed) (Contains-append_left (token_key (token_was (entry_of path_cmp old e.0))) (token_key (token_in e.1)) (Token t) (key_there (token_was (entry_of path_cmp old e.0)) t was))))
    ]

    go : (entry_of path_cmp es p ≡ None) ⊎ ((token_was (entry_of path_cmp es p) ≡ Some t) ⊎ Contains (turned_tokens old es) (Token t)) → (b : Bool) → is_eq (path_cmp p e.0) ≡ b → (cond b (Some e.1) (entry_of path_cmp es p) ≡ None) ⊎ ((token_was (cond b (Some e.1) (entry_of path_cmp es p)) ≡ Some t) ⊎ Contains (turned_tokens old (e ∷ es)) (Token t))
    go more true k = inr (here (subst (λ q. token_was (entry_of path_cmp old q) ≡ Some t) (same_key path_order p e.0 k) h))
    go more false k = elim more [
      | inl none ↦ inl none
      | inr some ↦ inr (elim some [ inl is ↦ inl is | inr rest ↦ inr (Contains-append_right (differing_tokens (token_was (entry_of path_cmp old e.0)) (token_in e.1)) (turned_tokens old es) (Token t) rest) ])
    ]

module _ (s : Stamp) (x y : Body) where
  abbrev listed : List Key
  listed = differing_addresses x.address.write y.address.write ++ turned_tokens (entries_of x.maps.right) (entries_of y.maps.right)

  address_in : (a : Addr) → Contains (differing_addresses x.address.write y.address.write) (Address a) → Contains listed (Address a)
  address_in a h = Contains-append_left (differing_addresses x.address.write y.address.write) (turned_tokens (entries_of x.maps.right) (entries_of y.maps.right)) (Address a) h

  token_in_list : (t : Stamp) → Contains (turned_tokens (entries_of x.maps.right) (entries_of y.maps.right)) (Token t) → Contains listed (Token t)
  token_in_list t h = Contains-append_right (differing_addresses x.address.write y.address.write) (turned_tokens (entries_of x.maps.right) (entries_of y.maps.right)) (Token t) h

  second_listed : (k : Key) → HasKey (slot_at s (Here y)) k → HasKey (slot_at s (Here x)) k ⊎ Contains listed k
  second_listed (Id i) h = inl (not_gone x, h.1)
  second_listed (Address a) h = elim (address_gained x.address.write y.address.write h.0 a h.1) [ inl was ↦ inl was | inr new ↦ inr (address_in a new) ]
  second_listed (Token t) h =
      let found = token_found (entries_of y.maps.right) y.maps.right.rises t h in
      elim (token_gained (entries_of x.maps.right) (entries_of y.maps.right) found.0 t found.1) [ inl was ↦ inl (token_there (entries_of x.maps.right) found.0 t was) | inr new ↦ inr (token_in_list t new) ]

  body_gained : (k : Key) → HasKey (joined s x y) k → HasKey (slot_at s (Here x)) k ⊎ Contains listed k
  body_gained k h = elim (body_from s x y k h) [ inl was ↦ inl was | inr is ↦ second_listed k is ]

  body_lost : (k : Key) → HasKey (slot_at s (Here x)) k → HasKey (joined s x y) k ⊎ Contains listed k
  body_lost (Id i) h = inl (not_gone (body_join x y), h.1)
  body_lost (Address a) h = elim (address_lost x.address.write y.address.write h.0 a h.1) [ inl is ↦ inl is | inr lost ↦ inr (address_in a lost) ]
  body_lost (Token t) h =
      let found = token_found (entries_of x.maps.right) x.maps.right.rises t h in
      let p = found.0 in
      let at = value_at-join path_order watching_join x.maps.right y.maps.right p in
      let kept : token_was (option_join watching_join (entry_of path_cmp (entries_of x.maps.right) p) (entry_of path_cmp (entries_of y.maps.right) p)) ≡ Some t → HasKey (joined s x y) (Token t) =
      λ is. token_there (entries_of (body_join x y).maps.right) p t (ap token_was at ∙ is) in
      elim (token_lost (entries_of x.maps.right) (entries_of y.maps.right) p t found.1) [
        | inl none ↦ inl (kept (ap (λ o. token_was (option_join watching_join (entry_of path_cmp (entries_of x.maps.right) p) o)) none ∙ alone (entry_of path_cmp (entries_of x.maps.right) p) ∙ found.1))
        | inr some ↦ elim some [
          | inl is ↦ inl (kept (elim (join_token (entry_of path_cmp (entries_of x.maps.right) p) (entry_of path_cmp (entries_of y.maps.right) p)) [ inl same ↦ same ∙ found.1 | inr same ↦ same ∙ is ]))
          | inr lost ↦ inr (token_in_list t lost)
        ]
      ]
    where
      alone : (o : Option Watching) → token_was (option_join watching_join o None) ≡ token_was o
      alone None = refl
      alone (Some w) = refl

-- ---- the join of two slots
module _ (s t : Stamp) (x y : OrGone Body) where
  abbrev slot_by : Ordering → Slot
  slot_by r = record { registration = lex_of (match_ordering r (t, y) (s, gone_join body_join x y) (s, x)) }

joined_by : (s : Stamp) (x y : OrGone Body) (k : Key) → HasKey (slot_at s (gone_join body_join x y)) k → HasKey (slot_at s x) k ⊎ HasKey (slot_at s y) k
joined_by s x Gone k h = none_gone s k h
joined_by s Gone (Here y) k h = none_gone s k h
joined_by s (Here x) (Here y) k h = body_from s x y k h

slot_from : (s t : Stamp) (x y : OrGone Body) (k : Key) (r : Ordering) → stamp_cmp s t ≡ r → HasKey (slot_by s t x y r) k → HasKey (slot_at s x) k ⊎ HasKey (slot_at t y) k
slot_from s t x y k Less e h = inr h
slot_from s t x y k Greater e h = inl h
slot_from s t x y k Equal e h = elim (joined_by s x y k h) [ inl was ↦ inl was | inr is ↦ inr (subst (λ u. HasKey (slot_at u y) k) (stamp_order.exact s t e) is) ]

one_body : (s : Stamp) (x y : Body) → slot_join (slot_at s (Here x)) (slot_at s (Here y)) ≡ slot_at s (Here (body_join x y))
one_body s x y = ap (slot_by s s (Here x) (Here y)) (tied_itself stamp_order.total s)

turning_bodies : (s : Stamp) (x y : Body) → HasKeyChanges (Some (slot_at s (Here x))) (slot_at s (Here y)) (listed s x y)
turning_bodies s x y = record {
  gained = λ k h. body_gained s x y k (subst (λ z. HasKey z k) (one_body s x y) h);
  lost = λ k h. elim (body_lost s x y k h) [ inl is ↦ inl (subst (λ z. HasKey z k) (sym (one_body s x y)) is) | inr lost ↦ inr lost ];
  first = λ none. absurd cc;
}

turning_one : (s t : Stamp) (x y : OrGone Body) → s ≡ t → both_here x y ≡ true
    → HasKeyChanges (Some (slot_at s x)) (slot_at t y) (differing_addresses (address_of (slot_at s x)) (address_of (slot_at t y)) ++ turned_tokens (watches_of (slot_at s x)) (watches_of (slot_at t y)))
turning_one s t Gone y same h = absurd cc
turning_one s t (Here x) Gone same h = absurd cc
turning_one s t (Here x) (Here y) same h = subst (λ u. HasKeyChanges (Some (slot_at s (Here x))) (slot_at u (Here y)) (listed s x y)) same (turning_bodies s x y)

turning_other : (s t : Stamp) (x y : OrGone Body) → HasKeyChanges (Some (slot_at s x)) (slot_at t y) (keys_in (slot_at s x) ++ keys_in (slot_at t y))
turning_other s t x y = record {
  gained = λ k h. elim (slot_from s t x y k (stamp_cmp s t) refl h) [ inl was ↦ inl was | inr is ↦ inr (Contains-append_right (keys_in (slot_at s x)) (keys_in (slot_at t y)) k (keys_has t y k is)) ];
  lost = λ k h. inr (Contains-append_left (keys_in (slot_at s x)) (keys_in (slot_at t y)) k (keys_has s x k h));
  first = λ none. absurd cc;
}

both_true : (a b : Bool) → (a && b) ≡ true → (a ≡ true) × (b ≡ true)
both_true true true h = (refl, refl)
both_true true false h = absurd cc
both_true false b h = absurd cc

turning_some : (s t : Stamp) (x y : OrGone Body) (b : Bool) → is_one (slot_at s x) (slot_at t y) ≡ b
    → HasKeyChanges (Some (slot_at s x)) (slot_at t y)
    (cond b (differing_addresses (address_of (slot_at s x)) (address_of (slot_at t y)) ++ turned_tokens (watches_of (slot_at s x)) (watches_of (slot_at t y))) (keys_in (slot_at s x) ++ keys_in (slot_at t y)))
turning_some s t x y true h = let w = both_true ((stamps.ghosts).eq s t) (both_here x y) h in turning_one s t x y (stamp_same s t w.0) w.1
turning_some s t x y false h = turning_other s t x y

pub is_turning : (old : Option Slot) (other : Slot) → HasKeyChanges old other (changes old other)
is_turning None other = record {
  gained = λ k h. inr (keys_has other.registration.stamp other.registration.value k h);
  lost = λ k h. absurd h;
  first = λ _ k h. has_keys other.registration.stamp other.registration.value k h;
}
is_turning (Some old) other = turning_some old.registration.stamp other.registration.stamp old.registration.value other.registration.value (is_one old other) refl

-- ---- lists that are pushed item by item
module _ {A : Type 0} (F : List A → List Key) (g : A → List Key) (cons : (e : A) (es : List A) → F (e ∷ es) ≡ g e ++ F es) (nil : F [] ≡ []) where
  pub list_step : (first ks now : List Key) (xs : List A) (i : ℕ) (x : A) → i < length xs → x ≡ get_or xs i x → now ≡ ks ++ g x → ks ++ F (drop i xs) ≡ first ++ F xs → now ++ F (drop (i + 1) xs) ≡ first ++ F xs
  list_step first ks now xs i x within is more so_far =
      ap (λ l. l ++ F (drop (i + 1) xs)) more ∙ append_assoc ks (g x) (F (drop (i + 1) xs))
      ∙ ap (λ l. ks ++ l) (sym (at_drop_more F xs i x within ∙ ap (λ y. F (y ∷ drop (i + 1) xs)) (sym is) ∙ cons x (drop (i + 1) xs)))
      ∙ so_far

  pub list_end : (first ks : List Key) (xs : List A) (i : ℕ) → length xs ≤ i → ks ++ F (drop i xs) ≡ first ++ F xs → ks ≡ first ++ F xs
  list_end first ks xs i past so_far = sym (append-nil ks) ∙ ap (λ l. ks ++ l) (sym (at_drop_all F xs i past ∙ nil)) ∙ so_far

pub token_keys_cons : (e : Path × Watching) (es : List (Path × Watching)) → token_keys (e ∷ es) ≡ token_key (token_in e.1) ++ token_keys es
token_keys_cons e es = ap (map Token) (tokens_cons e es) ∙ go (token_in e.1)
  where
    go : (t : Option Stamp) → map Token (then_token t (tokens_in es)) ≡ token_key t ++ token_keys es
    go None = refl
    go (Some t) = refl

pub removed_key : (v : OrGone Body) (s : Stamp) → v ≡ Gone → id_key v s ≡ []
removed_key v s h = ap (λ x. id_key x s) h

pub here_key : (v : OrGone Body) (s : Stamp) → (v ≡ Gone → ⊥) → id_key v s ≡ Id s ∷ []
here_key Gone s h = absurd (h refl)
here_key (Here b) s h = refl

pub pushed_two : (k0 k1 k2 a b : List Key) → k1 ≡ k0 ++ a → k2 ≡ k1 ++ b → k2 ≡ k0 ++ (a ++ b)
pushed_two k0 k1 k2 a b h g = g ∙ ap (λ l. l ++ b) h ∙ append_assoc k0 a b

pub pushed_three : (k0 k1 k2 k3 a b d : List Key) → k1 ≡ k0 ++ a → k2 ≡ k1 ++ b → k3 ≡ k2 ++ d → k3 ≡ k0 ++ ((a ++ b) ++ d)
pushed_three k0 k1 k2 k3 a b d h g f = pushed_two k0 k2 k3 (a ++ b) d (pushed_two k0 k1 k2 a b h g) f
