-- What was merged is known, and how far a replica has read.
use Rattle.std.proofs.Common.{◌≡◌, inl, inr, ◌⊎◌, ℕ, List, [], ◌∷◌, ◌++◌, Option, Some, None, Err, Bool, cond, refl, sym, ap, ◌∙◌, subst, append-nil, arith}
use Rattle.lw_reg.specs.State.{State, state_below}
use Rattle.lw_reg.proofs.States.{state_laws}
use Rattle.lw_delta.specs.Delta.{DeltaContent, IsSpelling}
use Rattle.lw_delta.proofs.Answering.{one_delta}
use Rattle.lw_node.specs.Exchange.{IsBelow, Merged, known_by, known_from, state_in}
use Rattle.lw_node.specs.Node.{NodeContent}
use Rattle.lw_log.specs.Calls.{LogCall, Placed, append_calls, place, place_of, placed}
use Rattle.lw_log.specs.Calls.LogCall.{Read, Wrote, Tried, Trimmed}
use Rattle.lw_log.specs.Entries.{EntryContent, HasDelta, BringsDelta}
use Rattle.lw_log.specs.Known.{Has}
use Rattle.lw_log.specs.declared.log_fault.LogFault.{LogFault}
use Rattle.lw_log.specs.declared.log_fault.LogFault.TheVariants.{Unavailable, Refused, Lost, NoMemory}
use Rattle.lw_log.specs.declared.position.Position.{Position}
use Rattle.lw_log.proofs.Entries.{one_entry}
use Rattle.lw_replica.specs.declared.state.ReplicaState.{ReplicaState}
use Rattle.lw_replica.specs.Reading.{AreReadToTheEnd, KnowsAll, MergesEntry, MergesEntries, ReadsOn, bytes_of, entries_in, last_read, place_read}
use Rattle.lw_replica.specs.inner.Taking.{ArePages, IsBehind, IsReadBy}
use Rattle.lw_replica.proofs.Going.{below_same, below_then, goes_below, goes_merged}
use Rattle.lw_replica.proofs.Merging.{same_delta}

-- ---- one entry
-- it brings one delta alone
one_brought : (bytes : List ℕ) (a b : DeltaContent) → BringsDelta bytes a → BringsDelta bytes b → a ≡ b
one_brought bytes a b x y =
    let entry : x.entry ≡ y.entry = one_entry bytes x.entry y.entry x.is y.is in
    let delta : x.delta ≡ y.delta = same_delta y.entry.body x.delta y.delta (subst (λ (e : EntryContent). HasDelta e.body x.delta) entry x.has) y.has in
    one_delta y.delta a b (subst (λ d. IsSpelling d a) delta x.spelled) y.spelled

-- what is merged is known
merged_known : (old new : NodeContent) (d : DeltaContent) → Merged old d.clock d.slots new → IsBelow (known_from d) (known_by new)
merged_known old new d m =
    let c = m.clock_is in (
      omega (arith, c),
      subst (λ (s : State). state_below (state_in d.slots) s) (sym m.state) (state_laws.above_right old.table.state (state_in d.slots)),
    )

has_more : (a b : ℕ × State) (bytes : List ℕ) → IsBelow a b → Has a bytes → Has b bytes
has_more a b bytes below has = λ d brings. below_then (known_from d) a b (has d brings) below

entry_known : (old new : NodeContent) (bytes : List ℕ) → MergesEntry old bytes new → Has (known_by new) bytes
entry_known old new bytes (inl x) =
    λ d brings. subst (λ (e : DeltaContent). IsBelow (known_from e) (known_by new)) (one_brought bytes x.0 d x.1 brings) (merged_known old new x.0 x.2)
entry_known old new bytes (inr x) = λ d brings. absurd (x.0 d brings)

entry_below : (old new : NodeContent) (bytes : List ℕ) → MergesEntry old bytes new → IsBelow (known_by old) (known_by new)
entry_below old new bytes (inl x) = goes_below old new (goes_merged old new x.0.clock x.0.slots x.2)
entry_below old new bytes (inr x) = below_same old new x.1

-- ---- entries
merges_below : (old new : NodeContent) (es : List (List ℕ)) → MergesEntries old es new → IsBelow (known_by old) (known_by new)
merges_below old new [] m = below_same old new m
merges_below old new (e ∷ es) m = below_then (known_by old) (known_by m.0) (known_by new) (entry_below old m.0 e m.1) (merges_below m.0 new es m.2)

pub knows_more : (a b : ℕ × State) (es : List (List ℕ)) → IsBelow a b → KnowsAll a es → KnowsAll b es
knows_more a b [] below known = tt
knows_more a b (e ∷ es) below known = (has_more a b e below known.0, knows_more a b es below known.1)

pub merges_known : (old new : NodeContent) (es : List (List ℕ)) → MergesEntries old es new → KnowsAll (known_by new) es
merges_known old new [] m = tt
merges_known old new (e ∷ es) m = (has_more (known_by m.0) (known_by new) e (merges_below m.0 new es m.2) (entry_known old m.0 e m.1), merges_known m.0 new es m.2)

knows_split : (known : ℕ × State) (xs ys : List (List ℕ)) → KnowsAll known (xs ++ ys) → KnowsAll known xs × KnowsAll known ys
knows_split known [] ys k = (tt, k)
knows_split known (x ∷ xs) ys k = let rest = knows_split known xs ys k.1 in ((k.0, rest.0), rest.1)

-- ---- how far it has read
pub on_more : (alone : Bool) (a b : ℕ × State) (from : Option (ℕ × ℕ)) (calls : List LogCall) (upto : Option (ℕ × ℕ)) → IsBelow a b → ReadsOn alone a from calls upto → ReadsOn alone b from calls upto
on_more alone a b from [] upto below h = h
on_more alone a b from (Read after es ∷ calls) upto below h = (h.0, h.1, h.2, h.3, knows_more a b (bytes_of h.0) below h.4, on_more alone a b (place_read from h.0) calls upto below h.5)
on_more alone a b from (Wrote p ∷ calls) upto below h = on_more alone a b (cond alone (Some p.0) from) calls upto below h
on_more alone a b from (Tried e ∷ calls) upto below h = on_more alone a b from calls upto below h
on_more alone a b from (Trimmed p ∷ calls) upto below h = on_more alone a b from calls upto below h

pub on_then : (alone : Bool) (known : ℕ × State) (from : Option (ℕ × ℕ)) (xs : List LogCall) (mid : Option (ℕ × ℕ)) (ys : List LogCall) (upto : Option (ℕ × ℕ)) → ReadsOn alone known from xs mid → ReadsOn alone known mid ys upto → ReadsOn alone known from (xs ++ ys) upto
on_then alone known from [] mid ys upto one two = subst (λ p. ReadsOn alone known p ys upto) one two
on_then alone known from (Read after es ∷ xs) mid ys upto one two = (one.0, one.1, one.2, one.3, one.4, on_then alone known (place_read from one.0) xs mid ys upto one.5 two)
on_then alone known from (Wrote p ∷ xs) mid ys upto one two = on_then alone known (cond alone (Some p.0) from) xs mid ys upto one two
on_then alone known from (Tried e ∷ xs) mid ys upto one two = on_then alone known from xs mid ys upto one two
on_then alone known from (Trimmed p ∷ xs) mid ys upto one two = on_then alone known from xs mid ys upto one two

-- full pages
pub on_pages : (alone : Bool) (known : ℕ × State) (after : Option (ℕ × ℕ)) (pages : List LogCall) (upto : Option (ℕ × ℕ)) → ArePages after pages upto → KnowsAll known (entries_in pages) → ReadsOn alone known after pages upto
on_pages alone known after [] upto are all = are
on_pages alone known after (Read from es ∷ pages) upto are all =
    let both = knows_split known (bytes_of es) (entries_in pages) all in
    (es, [], sym (append-nil es), are.0, both.0, on_pages alone known (place_read after es) pages upto are.2 both.1)
on_pages alone known after (Wrote p ∷ pages) upto are all = absurd are
on_pages alone known after (Tried e ∷ pages) upto are all = absurd are
on_pages alone known after (Trimmed p ∷ pages) upto are all = absurd are

-- to the end
pub on_end : (alone : Bool) (known : ℕ × State) (after : Option (ℕ × ℕ)) (pages : List LogCall) → AreReadToTheEnd after pages → KnowsAll known (entries_in pages) → ReadsOn alone known after pages (last_read after pages)
on_end alone known after [] h all = absurd h
on_end alone known after (Read from es ∷ []) h all = (es, [], sym (append-nil es), h.0, (knows_split known (bytes_of es) [] all).0, refl)
on_end alone known after (Read from es ∷ Read to ys ∷ pages) h all =
    let both = knows_split known (bytes_of es) (entries_in (Read to ys ∷ pages)) all in
    (es, [], sym (append-nil es), h.0, both.0, on_end alone known (place_read after es) (Read to ys ∷ pages) h.2 both.1)
on_end alone known after (Read from es ∷ Wrote p ∷ pages) h all = absurd h.2
on_end alone known after (Read from es ∷ Tried e ∷ pages) h all = absurd h.2
on_end alone known after (Read from es ∷ Trimmed p ∷ pages) h all = absurd h.2
on_end alone known after (Wrote p ∷ pages) h all = absurd h
on_end alone known after (Tried e ∷ pages) h all = absurd h
on_end alone known after (Trimmed p ∷ pages) h all = absurd h

-- ---- pages and appends
placed_append : (xs ys : List (Position × List ℕ)) → placed (xs ++ ys) ≡ placed xs ++ placed ys
placed_append [] ys = refl
placed_append (x ∷ xs) ys = ap (λ rest. (place x.0, x.1) ∷ rest) (placed_append xs ys)

pub placed_split : (page front back : List (Position × List ℕ)) → front ++ back ≡ page → placed page ≡ placed front ++ placed back
placed_split page front back is = ap placed (sym is) ∙ placed_append front back

-- nothing of a page is taken
pub behind_none : (s : ReplicaState) (page : List Placed) → IsBehind s page s
behind_none s page = record { taken = []; left = page; is = refl; known = tt; read_to = refl }

-- it is as far as it was, or is to read from the first entry
pub read_failed : (s s1 : ReplicaState) → (s1.read_to ≡ None) ⊎ (s1.read_to ≡ s.read_to) → (place_of s1.read_to ≡ None) ⊎ (place_of s1.read_to ≡ place_of s.read_to)
read_failed s s1 (inl none) = inl (ap place_of none)
read_failed s s1 (inr same) = inr (ap place_of same)

pub by_failed : (s s1 : ReplicaState) (entry : List ℕ) (fault : LogFault) → (s1.read_to ≡ None) ⊎ (s1.read_to ≡ s.read_to) → IsReadBy s (append_calls entry (Err fault)) s1
by_failed s s1 entry Unavailable moved = read_failed s s1 moved
by_failed s s1 entry Refused moved = read_failed s s1 moved
by_failed s s1 entry Lost moved = read_failed s s1 moved
by_failed s s1 entry NoMemory moved = read_failed s s1 moved

pub by_none : (s : ReplicaState) → IsReadBy s [] s
by_none s = inr refl

-- what was asked first moved it, and what was asked then moved it on, or lost all
pub by_then : (s0 s1 s2 : ReplicaState) (xs ys : List LogCall) → ReadsOn s0.alone (known_by s1.node) (place_of s0.read_to) xs (place_of s1.read_to) → s1.alone ≡ s0.alone → IsBelow (known_by s1.node) (known_by s2.node)
    → IsReadBy s1 ys s2 → IsReadBy s0 (xs ++ ys) s2
by_then s0 s1 s2 xs ys one alone below (inl none) = inl none
by_then s0 s1 s2 xs ys one alone below (inr two) =
    inr (on_then s0.alone (known_by s2.node) (place_of s0.read_to) xs (place_of s1.read_to) ys (place_of s2.read_to) (on_more s0.alone (known_by s1.node) (known_by s2.node) (place_of s0.read_to) xs (place_of s1.read_to) below one)
    (subst (λ b. ReadsOn b (known_by s2.node) (place_of s1.read_to) ys (place_of s2.read_to)) alone two))

-- the node knows more
pub by_more : (s0 s2 s3 : ReplicaState) (calls : List LogCall) → place_of s3.read_to ≡ place_of s2.read_to → IsBelow (known_by s2.node) (known_by s3.node) → IsReadBy s0 calls s2 → IsReadBy s0 calls s3
by_more s0 s2 s3 calls same below (inl none) = inl (same ∙ none)
by_more s0 s2 s3 calls same below (inr on) =
    inr (on_more s0.alone (known_by s2.node) (known_by s3.node) (place_of s0.read_to) calls (place_of s3.read_to) below (subst (λ (p : Option (ℕ × ℕ)). ReadsOn s0.alone (known_by s2.node) (place_of s0.read_to) calls p) (sym same) on))
