-- Entries that are taken and judged, one after another.
use Rattle.std.proofs.Common.{◌≡◌, inl, inr, ℕ, zero, suc, ◌+◌, take, add-one, List, [], ◌∷◌, ◌++◌, Option, Some, None, Bool, true, false, refl, sym, ap, ◌∙◌, subst}
use Rattle.std.specs.Prelude.{option_map, slice_get}
use Rattle.lw_log.specs.Calls.{LogCall, place, placed}
use Rattle.lw_log.specs.declared.position.Position.{Position}
use Rattle.lw_log.specs.declared.entry.FleetId.{FleetId}
use Rattle.lw_node.specs.Node.{NodeContent}
use Rattle.lw_replica.specs.declared.state.ReplicaState.{ReplicaState}
use Rattle.lw_replica.specs.Parts.{fleet_of, used_numbers_of}
use Rattle.lw_replica.specs.Reading.{bytes_of, place_read, MergesEntries, AreGood, IsFree, IsTakenFirst, HoldsNumber}
use Rattle.lw_replica.specs.inner.Seeing.{IsSeenBy, AreSeenBy}
use Rattle.lw_replica.specs.inner.ReplicaState.{HasSameStart, counted_in, fleet_told_in}
use Rattle.lw_replica.specs.inner.Taking.{AreBare, Takes, IsJudgedEntry, IsJudgedPage, IsJudged}
use Rattle.lw_replica.proofs.Counting.{counts_then}
use Rattle.lw_replica.proofs.Telling.{tells_then}
use Rattle.lw_replica.proofs.Numbering.{noted_none, noted_then}

-- ---- merges
pub merges_append : (old mid new : NodeContent) (xs ys : List (List ℕ)) → MergesEntries old xs mid → MergesEntries mid ys new → MergesEntries old (xs ++ ys) new
merges_append old mid new [] ys one two = subst (λ (n : NodeContent). MergesEntries n ys new) one two
merges_append old mid new (x ∷ xs) ys one two = (one.0, one.1, merges_append one.0 mid new xs ys one.2 two)

-- ---- entries that are good
good_append : (fleet : Option (List ℕ)) (xs ys : List (List ℕ)) → AreGood fleet xs → AreGood fleet ys → AreGood fleet (xs ++ ys)
good_append fleet [] ys one two = two
good_append fleet (x ∷ xs) ys one two = (one.0, good_append fleet xs ys one.1 two)

bare_append : (xs ys : List (List ℕ)) → AreBare xs → AreBare ys → AreBare (xs ++ ys)
bare_append [] ys one two = two
bare_append (x ∷ xs) ys one two = (one.0, bare_append xs ys one.1 two)

-- what brings no delta is good in any fleet
good_bare : (fleet other : Option (List ℕ)) (xs : List (List ℕ)) → AreGood fleet xs → AreBare xs → AreGood other xs
good_bare fleet other [] good bare = tt
good_bare fleet other (x ∷ xs) good bare = (record { known = good.0.known; of_fleet = λ d brings. absurd (bare.0 d brings) }, good_bare fleet other xs good.1 bare.1)

-- ---- what is taken
pub takes_none : (s : ReplicaState) → Takes s [] s
takes_none s = record { merged = refl; good = tt; settled = λ h. (h, refl); unsettled = λ h. tt; durable = refl; written = λ h. refl; sequence = refl; used_numbers = noted_none (used_numbers_of s); counted = refl; told = refl }

not_both : {G : Type 0} → false ≡ true → G
not_both h = absurd cc

pub takes_then : (a b c : ReplicaState) (xs ys : List (List ℕ)) → Takes a xs b → Takes b ys c → Takes a (xs ++ ys) c
takes_then a b c xs ys one two = record {
  merged = merges_append a.node b.node c.node xs ys one.merged two.merged;
  good = good_append (fleet_of c) xs ys (good b.settled refl) two.good;
  settled = λ h.
      let x = one.settled h in
      let y = two.settled x.0 in
      (y.0, y.1 ∙ x.1);
  unsettled = λ h. bare_append xs ys (one.unsettled (unsettled b.settled refl h)) (two.unsettled h);
  durable = two.durable ∙ one.durable;
  written = λ h. two.written (one.durable ∙ h) ∙ one.written h;
  sequence = two.sequence ∙ one.sequence;
  used_numbers = noted_then (used_numbers_of a) (used_numbers_of b) (used_numbers_of c) xs ys one.used_numbers
      two.used_numbers;
  counted = counts_then (counted_in a) (counted_in b) (counted_in c) xs ys one.counted two.counted;
  told = tells_then (fleet_told_in a) (fleet_told_in b) (fleet_told_in c) xs ys one.told two.told;
}
  where
    good : (t : Bool) → b.settled ≡ t → AreGood (fleet_of c) xs
    good true h = subst (λ (f : Option FleetId). AreGood (option_map (λ x. x.bytes) f) xs) (sym (two.settled h).1) one.good
    good false h = good_bare (fleet_of b) (fleet_of c) xs one.good (one.unsettled h)

    unsettled : (t : Bool) → b.settled ≡ t → c.settled ≡ false → b.settled ≡ false
    unsettled true h last = not_both (sym last ∙ (two.settled h).0)
    unsettled false h last = h

-- ---- what is judged
free_append : (number : ℕ) (xs ys : List (List ℕ)) → IsFree number xs → IsFree number ys → IsFree number (xs ++ ys)
free_append number [] ys one two = two
free_append number (x ∷ xs) ys one two = (one.0, free_append number xs ys one.1 two)

first_behind : (number tag : ℕ) (xs ys : List (List ℕ)) → IsFree number xs → IsTakenFirst number tag ys → IsTakenFirst number tag (xs ++ ys)
first_behind number tag [] ys one two = two
first_behind number tag (x ∷ xs) ys one two = inr (one.0, first_behind number tag xs ys one.1 two)

first_before : (number tag : ℕ) (xs ys : List (List ℕ)) → IsTakenFirst number tag xs → IsTakenFirst number tag (xs ++ ys)
first_before number tag [] ys first = absurd first
first_before number tag (x ∷ xs) ys (inl own) = inl own
first_before number tag (x ∷ xs) ys (inr later) = inr (later.0, first_before number tag xs ys later.1)

-- one entry behind those that tell of nothing
pub page_judged : (number tag : ℕ) (xs : List (List ℕ)) (e : List ℕ) (found : Bool) → IsFree number xs → IsJudgedEntry number tag e (Some found) → (ys : List (List ℕ)) → IsJudgedPage number tag (xs ++ e ∷ ys) (Some found)
page_judged number tag xs e true free own ys = first_behind number tag xs (e ∷ ys) free (inl own)
page_judged number tag xs e false free own ys = tt

pub free_more : (number tag : ℕ) (xs : List (List ℕ)) (e : List ℕ) → IsFree number xs → IsJudgedEntry number tag e None → IsFree number (xs ++ e ∷ [])
free_more number tag xs e free none = free_append number xs (e ∷ []) free (none, tt)

pub judged_start : (claimed : Bool) (number tag : ℕ) → IsJudged claimed number tag [] claimed
judged_start true number tag = refl
judged_start false number tag = tt

-- page after page
pub judged_then : (claimed own later : Bool) (number tag : ℕ) (xs ys : List (List ℕ)) → IsJudged claimed number tag xs own → IsJudged own number tag ys later → IsJudged claimed number tag (xs ++ ys) later
judged_then true own later number tag xs ys one two = subst (λ b. IsJudged b number tag ys later) one two
judged_then false true later number tag xs ys one two = subst (λ b. IsJudged false number tag (xs ++ ys) b) (sym two) (first_before number tag xs ys one)
judged_then false false true number tag xs ys one two = first_behind number tag xs ys one two
judged_then false false false number tag xs ys one two = free_append number xs ys one two

pub judged_holds : (number tag : ℕ) (es : List (List ℕ)) (own : Bool) → IsJudged false number tag es own → HoldsNumber number tag es
judged_holds number tag es true h = inl h
judged_holds number tag es false h = inr h

-- ---- entries of a page
entries_suc : (page : List (Position × List ℕ)) (i : ℕ) (x : Position × List ℕ) → slice_get page i ≡ Some x → bytes_of (placed (take (suc i) page)) ≡ bytes_of (placed (take i page)) ++ x.1 ∷ []
entries_suc [] i x at = absurd (let bad = at in cc)
entries_suc (y ∷ ys) zero x at = let same : y ≡ x = cc in ap (λ (z : Position × List ℕ). z.1 ∷ []) same
entries_suc (y ∷ ys) (suc i) x at = ap (λ (es : List (List ℕ)). y.1 ∷ es) (entries_suc ys i x at)

pub entries_take : (page : List (Position × List ℕ)) (i : ℕ) (x : Position × List ℕ) → slice_get page i ≡ Some x → bytes_of (placed (take (i + 1) page)) ≡ bytes_of (placed (take i page)) ++ x.1 ∷ []
entries_take page i x at = rw add-one (entries_suc page i x at)

pub entries_split : (page : List (Position × List ℕ)) (i : ℕ) (x : Position × List ℕ) → slice_get page i ≡ Some x → (rest : List (List ℕ)) × (bytes_of (placed page) ≡ bytes_of (placed (take i page)) ++ x.1 ∷ rest)
entries_split [] i x at = absurd (let bad = at in cc)
entries_split (y ∷ ys) zero x at = let same : y ≡ x = cc in (bytes_of (placed ys), ap (λ (z : Position × List ℕ). z.1 ∷ bytes_of (placed ys)) same)
entries_split (y ∷ ys) (suc i) x at =
    let more = entries_split ys i x at in
    (more.0, ap (λ (es : List (List ℕ)). y.1 ∷ es) more.1)

places_suc : (page : List (Position × List ℕ)) (i : ℕ) (x : Position × List ℕ) (after : Option (ℕ × ℕ)) → slice_get page i ≡ Some x → place_read after (placed (take (suc i) page)) ≡ Some (place x.0)
places_suc [] i x after at = absurd (let bad = at in cc)
places_suc (y ∷ ys) zero x after at = let same : y ≡ x = cc in ap (λ (z : Position × List ℕ). Some (place z.0)) same
places_suc (y ∷ ys) (suc i) x after at = places_suc ys i x (Some (place y.0)) at

pub places_take : (page : List (Position × List ℕ)) (i : ℕ) (x : Position × List ℕ) (after : Option (ℕ × ℕ)) → slice_get page i ≡ Some x → place_read after (placed (take (i + 1) page)) ≡ Some (place x.0)
places_take page i x after at = rw add-one (places_suc page i x after at)

pub seen_at : (asked : Option (List LogCall)) (page : List (Position × List ℕ)) (i : ℕ) (x : Position × List ℕ) → slice_get page i ≡ Some x → AreSeenBy asked (bytes_of (placed page)) → IsSeenBy asked x.1
seen_at asked [] i x at seen = absurd (let bad = at in cc)
seen_at asked (y ∷ ys) zero x at seen = let same : y ≡ x = cc in subst (λ (z : Position × List ℕ). IsSeenBy asked z.1) same seen.0
seen_at asked (y ∷ ys) (suc i) x at seen = seen_at asked ys i x at seen.1

items_suc : {A : Type 0} (xs : List A) (i : ℕ) (x : A) → slice_get xs i ≡ Some x → take (suc i) xs ≡ take i xs ++ x ∷ []
items_suc [] i x at = absurd (let bad = at in cc)
items_suc (y ∷ ys) zero x at = let same : y ≡ x = cc in ap (λ z. z ∷ []) same
items_suc (y ∷ ys) (suc i) x at = ap (λ zs. y ∷ zs) (items_suc ys i x at)

pub items_take : {A : Type 0} (xs : List A) (i : ℕ) (x : A) → slice_get xs i ≡ Some x → take (i + 1) xs ≡ take i xs ++ x ∷ []
items_take xs i x at = rw add-one (items_suc xs i x at)

-- ---- how far was read says nothing of what was taken
pub takes_read : (a b : ReplicaState) (es : List (List ℕ)) (r : Option Position) → Takes a es b → Takes a es (record b { read_to = r })
takes_read a b es r t = record { merged = t.merged; good = t.good; settled = t.settled; unsettled = t.unsettled; durable = t.durable; written = t.written; sequence = t.sequence; used_numbers = t.used_numbers; counted = t.counted; told = t.told }

pub same_read : (a b : ReplicaState) (r : Option Position) → HasSameStart a b
    → HasSameStart a (record b { read_to = r })
same_read a b r s = record { number = s.number; start = s.start; proposed_fleet = s.proposed_fleet; alone = s.alone; claimed = s.claimed; floor = s.floor; settled = s.settled; fleet = s.fleet; knows = s.knows }
