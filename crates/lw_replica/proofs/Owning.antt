-- What a replica has appended is its own.
use Rattle.std.proofs.Common.{◌≡◌, ◌<◌, ◌⊎◌, inl, ℕ, List, [], ◌∷◌, ◌++◌, Option, Bool, true, false, refl, sym, ap, ◌∙◌, subst}
use Rattle.std.specs.Prelude.{Result, Ok, Err, Some, None, IfOk}
use Rattle.lw_node.specs.Exchange.{IsDeltaSince, known_by}
use Rattle.lw_node.specs.Node.{NodeContent}
use Rattle.lw_log.specs.Calls.{LogCall, Placed, Calls, append_calls, place_of}
use Rattle.lw_delta.specs.Delta.{DeltaContent, IsSpelling}
use Rattle.lw_log.specs.Entries.{BodyContent, HasDelta, BringsDelta}
use Rattle.lw_log.specs.Entries.BodyContent.{Start, Delta, Snapshot}
use Rattle.lw_log.specs.declared.log_fault.LogFault.{LogFault}
use Rattle.lw_log.specs.declared.log_fault.LogFault.TheVariants.{Unavailable, Refused, Lost, NoMemory}
use Rattle.lw_log.specs.declared.position.Position.{Position}
use Rattle.lw_log.specs.declared.start.Start.{Start as Starts}
use Rattle.lw_replica.specs.declared.state.ReplicaState.{ReplicaState}
use Rattle.lw_log.specs.Calls.LogCall.{Read, Wrote, Tried, Trimmed}
use Rattle.lw_replica.specs.Replica.{ReplicaContent}
use Rattle.lw_replica.specs.Replica.{IsWritten, Stays}
use Rattle.lw_replica.specs.Own.{AreOwnCalls, IsOwnEntry, IsOwnSince, WritesOwn}
use Rattle.lw_replica.specs.Parts.{content_of, fleet_of, used_numbers_of, IsReplica}
use Rattle.lw_replica.specs.Reading.{AreReads, AreReadToTheEnd, KnowsAll, MergesEntries, ReadsOn, entries_in, last_read}
use Rattle.lw_replica.specs.Rounds.{place_after}
use Rattle.lw_replica.specs.inner.ReplicaState.{HasSameStart}
use Rattle.lw_replica.specs.inner.Taking.{IsEntryOf, IsReadBy}
use Rattle.lw_replica.specs.inner.Snapshots.{IsSnapshotOf, IsTryingSnapshot, TriesSnapshot}
use Rattle.lw_replica.specs.inner.Writing.{IsStartOf, AreClaims, Claims, IsClaimed, WritesOwnCalls}
use Rattle.lw_replica.proofs.Asking.{calls_none, calls_then, ended_reads}
use Rattle.lw_replica.proofs.Going.{below_then, goes_below}
use Rattle.lw_replica.proofs.Knowing.{by_none, by_then, knows_more, merges_known, on_end}
use Rattle.lw_replica.proofs.Merging.{same_then}
use Rattle.lw_replica.proofs.Covering.{appended_durable, written_anew, written_whole}

pub own_append : (m : ReplicaContent) (xs ys : List LogCall) → AreOwnCalls m xs → AreOwnCalls m ys → AreOwnCalls m (xs ++ ys)
own_append m [] ys one two = two
own_append m (x ∷ xs) ys one two = (one.0, own_append m xs ys one.1 two)

pub reads_own : (m : ReplicaContent) (calls : List LogCall) → AreReads calls → AreOwnCalls m calls
reads_own m [] reads = tt
reads_own m (Read from es ∷ calls) reads = (tt, reads_own m calls reads)
reads_own m (Wrote p ∷ calls) reads = absurd reads
reads_own m (Tried e ∷ calls) reads = absurd reads
reads_own m (Trimmed p ∷ calls) reads = absurd reads

-- ---- claims
pub claims_append : (number tag : ℕ) (xs ys : List LogCall) → AreClaims number tag xs → AreClaims number tag ys → AreClaims number tag (xs ++ ys)
claims_append number tag [] ys one two = two
claims_append number tag (Read from es ∷ xs) ys one two = claims_append number tag xs ys one two
claims_append number tag (Wrote p ∷ xs) ys one two = (one.0, claims_append number tag xs ys one.1 two)
claims_append number tag (Tried e ∷ xs) ys one two = (one.0, claims_append number tag xs ys one.1 two)
claims_append number tag (Trimmed p ∷ xs) ys one two = absurd one

pub reads_claim : (number tag : ℕ) (calls : List LogCall) → AreReads calls → AreClaims number tag calls
reads_claim number tag [] reads = tt
reads_claim number tag (Read from es ∷ calls) reads = reads_claim number tag calls reads
reads_claim number tag (Wrote p ∷ calls) reads = absurd reads
reads_claim number tag (Tried e ∷ calls) reads = absurd reads
reads_claim number tag (Trimmed p ∷ calls) reads = absurd reads

claim_owns : (m : ReplicaContent) (bytes : List ℕ) → IsStartOf m.node.number m.tag bytes → IsOwnEntry m bytes
claim_owns m bytes s = inl (record { entry = s.entry; is = s.is; number = s.number_is; tag = s.tag_is; body_is = s.body_is })

pub claims_own : (m : ReplicaContent) (calls : List LogCall) → AreClaims m.node.number m.tag calls → AreOwnCalls m calls
claims_own m [] claims = tt
claims_own m (Read from es ∷ calls) claims = (tt, claims_own m calls claims)
claims_own m (Wrote p ∷ calls) claims = (claim_owns m p.1 claims.0, claims_own m calls claims.1)
claims_own m (Tried e ∷ calls) claims = (claim_owns m e claims.0, claims_own m calls claims.1)
claims_own m (Trimmed p ∷ calls) claims = absurd claims

pub append_claims : (number tag : ℕ) (entry : List ℕ) (r : Result Position LogFault) → IsStartOf number tag entry → AreClaims number tag (append_calls entry r)
append_claims number tag entry (Ok p) own = (own, tt)
append_claims number tag entry (Err NoMemory) own = tt
append_claims number tag entry (Err Unavailable) own = (own, tt)
append_claims number tag entry (Err Refused) own = (own, tt)
append_claims number tag entry (Err Lost) own = (own, tt)

pub start_of : (s : ReplicaState) (fleet bytes : List ℕ) → IsEntryOf s fleet Start bytes → IsStartOf s.start.number s.start.tag bytes
start_of s fleet bytes e = record { entry = e.entry; is = e.is; number_is = e.number; tag_is = e.tag; body_is = e.body_is }

-- ---- deltas
pub append_own : (m : ReplicaContent) (entry : List ℕ) (r : Result Position LogFault) → IsOwnEntry m entry → AreOwnCalls m (append_calls entry r)
append_own m entry (Ok p) own = (own, tt)
append_own m entry (Err NoMemory) own = tt
append_own m entry (Err Unavailable) own = (own, tt)
append_own m entry (Err Refused) own = (own, tt)
append_own m entry (Err Lost) own = (own, tt)

pub own_since : (asked : Option (List LogCall)) (s0 s : ReplicaState) (fleet delta bytes : List ℕ) (since : ℕ) → s.node ≡ s0.node → s.start ≡ s0.start → fleet_of s ≡ Some fleet → IsDeltaSince s0.node since delta → IsEntryOf s0 fleet (Delta delta) bytes
    → s0.start.number ≡ s0.node.number → IsOwnSince (content_of asked s) since bytes
own_since asked s0 s fleet delta bytes since node start fleet_is is e number = (
  delta,
  subst (λ (n : NodeContent). IsDeltaSince n since delta) (sym node) is,
  (
    record {
      entry = e.entry;
      is = e.is;
      number = e.number ∙ number ∙ ap (λ (n : NodeContent). n.number) (sym node);
      tag = e.tag ∙ ap (λ (x : Starts). x.tag) (sym start);
      body_is = e.body_is;
    },
    fleet_is ∙ ap (λ f. Some f) (sym e.fleet_is),
  ),
)

-- after an entry with all that has moved since then was appended, the log covers all that the node knows
pub replica_brings : (a0 a1 : Option (List LogCall)) (s0 s : ReplicaState) (p : Placed) (since : ℕ) (durable : Bool) (delta : List ℕ) (is : IsDeltaSince s0.node since delta) → BringsDelta p.1 (record { clock = s0.node.clock; slots = is.slots })
    → Calls a0 a1 (Wrote p ∷ []) → IsWritten a0 s0.node durable since → s.node ≡ s0.node → s.start ≡ s0.start → s.floor ≡ s0.floor → s.durable ≡ true → s.written ≡ s0.node.table.count.change → IsReplica a0 s0 → IsReplica a1 s
replica_brings a0 a1 s0 s p since durable delta is brings asked was node start floor is_durable written m =
    let whole = appended_durable s0.node since is.slots is.are a0 a1 p durable asked brings was in
    let now = written_whole a1 s0.node whole in
    record {
      covering = record {
        written = subst (λ n. IsWritten a1 n s.durable s.written) (sym node) (subst (λ l. IsWritten a1 s0.node l s.written) (sym is_durable) (subst (λ w. IsWritten a1 s0.node true w) (sym written) now));
        up_to = λ h. written ∙ ap (λ (n : NodeContent). n.table.count.change) (sym node);
      };
      number = ap (λ (x : Starts). x.number) start ∙ m.number ∙ ap (λ (n : NodeContent). n.number) (sym node);
      floor = subst (λ n. n < 262556467200000) (sym floor) m.floor;
    }

brought_by : (s : ReplicaState) (fleet delta bytes : List ℕ) (body : BodyContent) (d : DeltaContent) → IsEntryOf s fleet body bytes → HasDelta body delta → IsSpelling delta d → BringsDelta bytes d
brought_by s fleet delta bytes body d e has spelled = record { entry = e.entry; delta = delta; is = e.is; has = subst (λ b. HasDelta b delta) (sym e.body_is) has; spelled = spelled }

-- after its entry was appended the log covers all that the node knows
pub replica_written : (a0 a1 : Option (List LogCall)) (s0 s : ReplicaState) (p : Placed) (fleet delta : List ℕ) → IsDeltaSince s0.node s0.written delta → IsEntryOf s0 fleet (Delta delta) p.1 → Calls a0 a1 (Wrote p ∷ [])
    → s.node ≡ s0.node → s.start ≡ s0.start → s.floor ≡ s0.floor → s.durable ≡ true → s.written ≡ s0.node.table.count.change → IsReplica a0 s0 → IsReplica a1 s
replica_written a0 a1 s0 s p fleet delta is e asked node start floor durable written m =
    replica_brings a0 a1 s0 s p s0.written s0.durable delta is (brought_by s0 fleet delta p.1 (Delta delta) _ e refl is.spelled) asked m.covering.written node start floor durable written m

-- and so it is after a snapshot
pub replica_snapshot : (a0 a1 : Option (List LogCall)) (s0 s : ReplicaState) (p : Placed) (fleet : List ℕ) → IsSnapshotOf s0 fleet p.1 → Calls a0 a1 (Wrote p ∷ [])
    → s.node ≡ s0.node → s.start ≡ s0.start → s.floor ≡ s0.floor → s.durable ≡ true → s.written ≡ s0.node.table.count.change → IsReplica a0 s0 → IsReplica a1 s
replica_snapshot a0 a1 s0 s p fleet w asked node start floor durable written m =
    replica_brings a0 a1 s0 s p 0 false w.delta w.is (brought_by s0 fleet w.delta p.1 (Snapshot (used_numbers_of s0) w.delta) _ w.entry refl w.is.spelled) asked (written_anew a0 s0.node s0.durable s0.written m.covering.written) node start floor durable written m

pub append_snapshot : (s : ReplicaState) (fleet entry : List ℕ) (r : Result Position LogFault) → IsSnapshotOf s fleet entry → IsTryingSnapshot s fleet (append_calls entry r)
append_snapshot s fleet entry (Ok p) whole = whole
append_snapshot s fleet entry (Err NoMemory) whole = tt
append_snapshot s fleet entry (Err Unavailable) whole = whole
append_snapshot s fleet entry (Err Refused) whole = whole
append_snapshot s fleet entry (Err Lost) whole = whole

-- nothing was asked
pub claims_none : (asked : Option (List LogCall)) (s : ReplicaState) → Claims asked s asked s
claims_none asked s = ([], calls_none asked, tt, by_none s)

pub tries_none : (asked : Option (List LogCall)) (s : ReplicaState) (fleet : List ℕ)
    → TriesSnapshot asked s fleet asked s
tries_none asked s fleet = ([], calls_none asked, tt, by_none s)

-- ---- what a round has appended
claims_at : (a : Option (List LogCall)) (s0 s : ReplicaState) (calls : List LogCall) → s0.start.number ≡ s.node.number → s0.start.tag ≡ s.start.tag → AreClaims s0.start.number s0.start.tag calls → AreOwnCalls (content_of a s) calls
claims_at a s0 s calls number tag claims = claims_own (content_of a s) calls (subst (λ t. AreClaims s.node.number t calls) tag (subst (λ n. AreClaims n s0.start.tag calls) number claims))

-- what a replica is does not go
pub stays_of : (a0 a1 : Option (List LogCall)) (s0 s : ReplicaState) → HasSameStart s0 s → Stays (content_of a0 s0) (content_of a1 s)
stays_of a0 a1 s0 s same = record {
  start = record { number = same.number; tag = ap (λ (x : Starts). x.tag) same.start; floor = same.floor; alone = same.alone };
  claimed = λ h. same.claimed ∙ h;
  settled = same.settled;
  fleet = same.fleet;
  knows = same.knows;
}

pub claims_write : (a0 a1 : Option (List LogCall)) (s0 s : ReplicaState) → Claims a0 s0 a1 s → s0.start.number ≡ s0.node.number → HasSameStart s0 s → WritesOwn (content_of a0 s0) (content_of a1 s)
claims_write a0 a1 s0 s claims own same = record {
  more = claims.0;
  asked = claims.1;
  own = claims_at a1 s0 s claims.0 (own ∙ sym same.number) (ap (λ (x : Starts). x.tag) (sym same.start)) claims.2;
  stays = stays_of a0 a1 s0 s same;
  read_on = claims.3;
}

-- ---- after a claim
module _ (a0 a1 a2 : Option (List LogCall)) (s0 s1 s2 : ReplicaState) (c : IsClaimed a0 s0 a1 s1) (same : HasSameStart s0 (record s1 { claimed = false })) (is : s1.claimed ≡ true) (later : HasSameStart s1 s2) (w : WritesOwnCalls a1 s1 a2 s2) where
  own_start : IsOwnEntry (content_of a2 s2) c.place.1
  own_start = inl (record {
    entry = c.own.0.entry;
    is = c.own.0.is;
    number = c.own.0.number ∙ sym later.number;
    tag = c.own.0.tag ∙ ap (λ (x : Starts). x.tag) (sym later.start);
    body_is = c.own.0.body_is;
  })

  known : KnowsAll (known_by s1.node) (entries_in c.pages)
  known = knows_more (known_by c.merged.node) (known_by s1.node) (entries_in c.pages) (goes_below c.merged.node s1.node c.goes) (merges_known s0.node c.merged.node (entries_in c.pages) c.merges)

  read_claim : ReadsOn s0.alone (known_by s1.node) (place_of s0.read_to) (Wrote c.place ∷ c.pages) (place_of s1.read_to)
  read_claim =
      subst (λ (p : Option (ℕ × ℕ)). ReadsOn s0.alone (known_by s1.node) (place_after s0.alone (place_of s0.read_to) (Wrote c.place ∷ [])) c.pages p) (sym c.read_to)
      (on_end s0.alone (known_by s1.node) (place_after s0.alone (place_of s0.read_to) (Wrote c.place ∷ [])) c.pages c.read known)

  pub claimed_write : WritesOwn (content_of a0 s0) (content_of a2 s2)
  claimed_write = record {
    more = (Wrote c.place ∷ c.pages) ++ w.0;
    asked = calls_then a0 a1 a2 (Wrote c.place ∷ c.pages) w.0 c.asked w.1;
    own = own_append (content_of a2 s2) (Wrote c.place ∷ c.pages) w.0 (own_start, reads_own (content_of a2 s2) c.pages (ended_reads (place_after s0.alone (place_of s0.read_to) (Wrote c.place ∷ [])) c.pages c.read)) w.2;
    stays = record {
      start = record {
        number = later.number ∙ same.number;
        tag = ap (λ (x : Starts). x.tag) (later.start ∙ same.start);
        floor = later.floor ∙ same.floor;
        alone = later.alone ∙ same.alone;
      };
      claimed = λ h. later.claimed ∙ is;
      settled = λ h. later.settled (same.settled h);
      fleet = λ f h was. later.fleet f (same.settled h) (same.fleet f h was);
      knows = below_then (known_by s0.node) (known_by s1.node) (known_by s2.node) same.knows later.knows;
    };
    read_on = by_then s0 s1 s2 (Wrote c.place ∷ c.pages) w.0 read_claim same.alone later.knows w.3;
  }

-- ---- without one
pub reads_write : (a0 a1 : Option (List LogCall)) (s0 s : ReplicaState) → HasSameStart s0 s → (pages : List LogCall) × Calls a0 a1 pages × AreReads pages × IsReadBy s0 pages s → WritesOwn (content_of a0 s0) (content_of a1 s)
reads_write a0 a1 s0 s same reads = record { more = reads.0; asked = reads.1; own = reads_own (content_of a1 s) reads.0 reads.2; stays = stays_of a0 a1 s0 s same; read_on = reads.3 }

-- the log was read to its end, and what was read is known
pub read_all : (s0 s1 : ReplicaState) (pages : List LogCall) → AreReadToTheEnd (place_of s0.read_to) pages → MergesEntries s0.node (entries_in pages) s1.node → place_of s1.read_to ≡ last_read (place_of s0.read_to) pages
    → ReadsOn s0.alone (known_by s1.node) (place_of s0.read_to) pages (place_of s1.read_to)
read_all s0 s1 pages read merged last =
    subst (λ (p : Option (ℕ × ℕ)). ReadsOn s0.alone (known_by s1.node) (place_of s0.read_to) pages p) (sym last) (on_end s0.alone (known_by s1.node) (place_of s0.read_to) pages read (merges_known s0.node s1.node (entries_in pages) merged))

pub reads_write_more : (a0 a1 a2 : Option (List LogCall)) (s0 s1 s2 : ReplicaState) (pages : List LogCall) → Calls a0 a1 pages → AreReadToTheEnd (place_of s0.read_to) pages → MergesEntries s0.node (entries_in pages) s1.node
    → place_of s1.read_to ≡ last_read (place_of s0.read_to) pages → HasSameStart s0 s1 → HasSameStart s1 s2 → WritesOwnCalls a1 s1 a2 s2 → WritesOwn (content_of a0 s0) (content_of a2 s2)
reads_write_more a0 a1 a2 s0 s1 s2 pages asked read merged last same later w = record {
  more = pages ++ w.0;
  asked = calls_then a0 a1 a2 pages w.0 asked w.1;
  own = own_append (content_of a2 s2) pages w.0 (reads_own (content_of a2 s2) pages (ended_reads (place_of s0.read_to) pages read)) w.2;
  stays = stays_of a0 a2 s0 s2 (same_then s0 s1 s2 same later);
  read_on = by_then s0 s1 s2 pages w.0 (read_all s0 s1 pages read merged last) same.alone later.knows w.3;
}

-- the calls are made, and what has changed is written
pub writes_from : (a0 a1 : Option (List LogCall)) (s0 mid s : ReplicaState) → mid ≡ record s0 { node = mid.node; durable = mid.durable } → WritesOwnCalls a0 mid a1 s → WritesOwnCalls a0 s0 a1 s
writes_from a0 a1 s0 mid s only w = (
  w.0,
  w.1,
  w.2,
  subst (λ (p : Option (ℕ × ℕ)). (place_of s.read_to ≡ None) ⊎ ReadsOn s0.alone (known_by s.node) p w.0 (place_of s.read_to)) (ap (λ (x : ReplicaState). place_of x.read_to) only)
      (subst (λ b. (place_of s.read_to ≡ None) ⊎ ReadsOn b (known_by s.node) (place_of mid.read_to) w.0 (place_of s.read_to)) (ap (λ (x : ReplicaState). x.alone) only) w.3),
)

pub if_ok : {A E : Type 0} (P Q : A → Type 0) (r : Result A E) → IfOk r P → ((x : A) → P x → Q x) → IfOk r Q
if_ok P Q (Ok x) p f = f x p
if_ok P Q (Err e) p f = tt
