-- A compaction, put together from its parts.
use Rattle.std.proofs.Common.{◌≡◌, ◌⊎◌, inl, inr, ℕ, List, [], ◌∷◌, Option, Some, None, Bool, false, cond, refl, sym, ap, ◌∙◌, subst, append-nil}
use Rattle.std.specs.Prelude.{Result, Ok, Err, option_map}
use Rattle.lw_node.specs.Exchange.{IsDeltaSince, known_by}
use Rattle.lw_node.specs.Node.{NodeContent}
use Rattle.lw_log.specs.Calls.{LogCall, Calls, place, place_of, trim_calls}
use Rattle.lw_log.specs.Calls.LogCall.{Read, Wrote, Tried, Trimmed}
use Rattle.lw_log.specs.Entries.BodyContent.{Snapshot}
use Rattle.lw_log.specs.declared.entry.FleetId.{FleetId}
use Rattle.lw_log.specs.declared.log_fault.LogFault.{LogFault}
use Rattle.lw_log.specs.declared.log_fault.LogFault.TheVariants.{Unavailable, Refused, Lost, NoMemory}
use Rattle.lw_log.specs.declared.position.Position.{Position}
use Rattle.lw_log.specs.declared.start.Start.{Start as Starts}
use Rattle.lw_replica.specs.declared.state.ReplicaState.{ReplicaState}
use Rattle.lw_replica.specs.Compaction.{IsOwnSnapshot, IsRenewing, IsCompacted, Compacts, LetsGo, StandsBefore}
use Rattle.lw_replica.specs.Counting.{CountsEntries, own_entries}
use Rattle.lw_replica.specs.Own.{NumbersOn}
use Rattle.lw_replica.specs.Parts.{content_of, fleet_of, used_numbers_of, IsReplica}
use Rattle.lw_replica.specs.Rounds.{place_after}
use Rattle.lw_replica.specs.Reading.{AreReads, AreReadToTheEnd, ReadsOn, AreGood, AreNoted, HoldsNumber, MergesEntries, entries_in, last_read}
use Rattle.lw_replica.specs.Fleets.{TellFleets}
use Rattle.lw_replica.specs.inner.ReplicaState.{HasSameStart, counted_in, fleet_told_in}
use Rattle.lw_replica.specs.inner.Taking.{IsReadBy, Takes, IsJudged}
use Rattle.lw_replica.specs.inner.Snapshots.{IsSnapshotOf, IsWrittenSnapshot, IsTryingSnapshot, TriesSnapshot}
use Rattle.lw_replica.proofs.Asking.{calls_then, ended_reads}
use Rattle.lw_replica.proofs.Knowing.{by_then}
use Rattle.lw_replica.proofs.Merging.{same_then}
use Rattle.lw_replica.proofs.Owning.{read_all, stays_of}
use Rattle.lw_replica.proofs.Sequences.{on_both, on_reads}
use Rattle.lw_replica.proofs.Counting.{counts_then}
use Rattle.lw_replica.proofs.Taking.{judged_holds}

pub none_of : {A : Type 0} (o : Option A) → ((x : A) → o ≡ Some x → ⊥) → o ≡ None
none_of None h = refl
none_of (Some x) h = absurd (h x refl)

own_snapshot : (asked : Option (List LogCall)) (s1 s2 : ReplicaState) (fleet bytes : List ℕ) → s2.node ≡ s1.node → s2.start ≡ s1.start → fleet_of s2 ≡ Some fleet → used_numbers_of s2 ≡ used_numbers_of s1 → s1.start.number ≡ s1.node.number → IsSnapshotOf s1 fleet bytes
    → IsOwnSnapshot (content_of asked s2) bytes
own_snapshot asked s1 s2 fleet bytes node start fleet_is used_numbers number w = (
  w.delta,
  subst (λ (n : NodeContent). IsDeltaSince n 0 w.delta) (sym node) w.is,
  (
    record {
      entry = w.entry.entry;
      is = w.entry.is;
      number = w.entry.number ∙ number ∙ ap (λ (n : NodeContent). n.number) (sym node);
      tag = w.entry.tag ∙ ap (λ (x : Starts). x.tag) (sym start);
      body_is = subst (λ ns. w.entry.entry.body ≡ Snapshot ns w.delta) (sym used_numbers) w.entry.body_is;
    },
    fleet_is ∙ ap (λ f. Some f) (sym w.entry.fleet_is),
  ),
)

-- ---- what was asked, also where it fails
pub compacts_read : (a0 a1 : Option (List LogCall)) (s0 s1 : ReplicaState) → HasSameStart s0 s1 → (pages : List LogCall) × Calls a0 a1 pages × AreReads pages × IsReadBy s0 pages s1 → Compacts (content_of a0 s0) (content_of a1 s1)
compacts_read a0 a1 s0 s1 same reads = record {
  pages = reads.0;
  more = [];
  asked = subst (λ cs. Calls a0 a1 cs) (sym (append-nil reads.0)) reads.1;
  reads = reads.2;
  renewing = tt;
  stays = stays_of a0 a1 s0 s1 same;
  read_on = subst (λ cs. IsReadBy s0 cs s1) (sym (append-nil reads.0)) reads.3;
}

-- the log was read to its end
module _ (a0 a1 : Option (List LogCall)) (s0 s1 : ReplicaState) (pages : List LogCall) (own : Bool) (asked : Calls a0 a1 pages) (read : AreReadToTheEnd (place_of s0.read_to) pages)
    (takes : Takes s0 (entries_in pages) s1) (judged : IsJudged s0.claimed s0.start.number s0.start.tag (entries_in pages) own) (last : place_of s1.read_to ≡ last_read (place_of s0.read_to) pages)
    (same : HasSameStart s0 s1) (replica : IsReplica a0 s0) where
  number_is : s1.start.number ≡ s1.node.number
  number_is = ap (λ (x : Starts). x.number) same.start ∙ replica.number ∙ sym same.number

  holds_read : s0.claimed ≡ false → HoldsNumber s1.node.number s1.start.tag (entries_in pages)
  holds_read unclaimed =
      let number : s0.start.number ≡ s1.node.number = replica.number ∙ sym same.number in
      let tag : s0.start.tag ≡ s1.start.tag = ap (λ (x : Starts). x.tag) (sym same.start) in
      let h : HoldsNumber s0.start.number s0.start.tag (entries_in pages) = judged_holds s0.start.number s0.start.tag (entries_in pages) own (subst (λ b. IsJudged b s0.start.number s0.start.tag (entries_in pages) own) unclaimed judged) in
      subst (λ n. HoldsNumber n s1.start.tag (entries_in pages)) number (subst (λ t. HoldsNumber s0.start.number t (entries_in pages)) tag h)

  read_pages : ReadsOn s0.alone (known_by s1.node) (place_of s0.read_to) pages (place_of s1.read_to)
  read_pages = read_all s0 s1 pages read takes.merged last

  read_numbers : NumbersOn s0.sequence pages s1.sequence
  read_numbers = subst (λ n. NumbersOn s0.sequence pages n) (sym takes.sequence) (on_reads s0.sequence pages (ended_reads (place_of s0.read_to) pages read))

  -- ---- nothing is written
  pub compacts_none : Compacts (content_of a0 s0) (content_of a1 s1)
  compacts_none = compacts_read a0 a1 s0 s1 same (pages, asked, ended_reads (place_of s0.read_to) pages read, inr read_pages)

  pub compacted_none : (place_of s1.read_to ≡ None) ⊎ (fleet_of s1 ≡ None) → IsCompacted (content_of a0 s0) (content_of a1 s1)
  compacted_none none = record {
    pages = pages;
    wrote = [];
    asked = subst (λ cs. Calls a0 a1 cs) (sym (append-nil pages)) asked;
    start = record { number = same.number; tag = ap (λ (x : Starts). x.tag) same.start; floor = same.floor; alone = same.alone };
    sequence = subst (λ cs. NumbersOn s0.sequence cs s1.sequence) (sym (append-nil pages)) read_numbers;
    claimed = same.claimed;
    read = read;
    read_to = last;
    good = takes.good;
    told = takes.told;
    holds = holds_read;
    merged = takes.merged;
    used_numbers = takes.used_numbers;
    counted = subst (λ es. CountsEntries (counted_in s0) es (counted_in s1)) (sym (append-nil (entries_in pages))) takes.counted;
    renewed = inl (
      refl,
      elim none [
        | inl h ↦ inl (sym last ∙ h)
        | inr h ↦ inr h
      ],
    );
  }

  -- ---- a snapshot is appended, or tried
  module _ (a2 : Option (List LogCall)) (s2 : ReplicaState) (fleet : List ℕ) (fleet_is : fleet_of s1 ≡ Some fleet) (later : HasSameStart s1 s2) (node : s2.node ≡ s1.node) (in_fleet : s2.fleet ≡ s1.fleet) (settled : s2.settled ≡ s1.settled) (used_numbers : s2.used_numbers ≡ s1.used_numbers) where
    fleet_now : fleet_of s2 ≡ fleet_of s1
    fleet_now = ap (λ (f : Option FleetId). option_map (λ (x : FleetId). x.bytes) f) in_fleet

    told_now : fleet_told_in s2 ≡ fleet_told_in s1
    told_now = ap (λ b. (b, fleet_of s2)) settled ∙ ap (λ f. (s1.settled, f)) fleet_now

    used_numbers_now : used_numbers_of s2 ≡ used_numbers_of s1
    used_numbers_now = ap (λ n. n.bytes.value) used_numbers

    is_own : (a : Option (List LogCall)) (bytes : List ℕ) → IsSnapshotOf s1 fleet bytes → IsOwnSnapshot (content_of a s2) bytes
    is_own a bytes w = own_snapshot a s1 s2 fleet bytes node later.start (fleet_now ∙ fleet_is) used_numbers_now
        number_is w

    trying : (a : Option (List LogCall)) (more : List LogCall) → IsTryingSnapshot s1 fleet more → IsRenewing (content_of a0 s0) pages (content_of a s2) more
    trying a [] t = tt
    trying a (Wrote p ∷ []) t = (read, is_own a p.1 t)
    trying a (Tried e ∷ []) t = (read, is_own a e t)
    trying a (Read from es ∷ []) t = absurd t
    trying a (Trimmed p ∷ []) t = absurd t
    trying a (Wrote p ∷ x ∷ more) t = absurd t
    trying a (Tried e ∷ x ∷ more) t = absurd t
    trying a (Read from es ∷ x ∷ more) t = absurd t
    trying a (Trimmed p ∷ x ∷ more) t = absurd t

    pub compacts_tried : TriesSnapshot a1 s1 fleet a2 s2 → Compacts (content_of a0 s0) (content_of a2 s2)
    compacts_tried tries = record {
      pages = pages;
      more = tries.0;
      asked = calls_then a0 a1 a2 pages tries.0 asked tries.1;
      reads = ended_reads (place_of s0.read_to) pages read;
      renewing = trying a2 tries.0 tries.2;
      stays = stays_of a0 a2 s0 s2 (same_then s0 s1 s2 same later);
      read_on = by_then s0 s1 s2 pages tries.0 read_pages same.alone later.knows tries.3;
    }

    -- ---- and what was read goes
    module _ (a3 : Option (List LogCall)) (upto : Position) (is : s1.read_to ≡ Some upto) (at : Position) (w : IsWrittenSnapshot a1 s1 fleet (place at) a2 s2) where
      last_is : last_read (place_of s0.read_to) pages ≡ Some (place upto)
      last_is = sym last ∙ ap (λ p. place_of p) is

      is_before : StandsBefore (place upto) (place at) → StandsBefore (place upto) w.place.0
      is_before before = subst (λ (p : ℕ × ℕ). StandsBefore (place upto) p) (sym w.place_is) before

      renewing_trim : StandsBefore (place upto) (place at) → (r : Result Unit LogFault) → IsRenewing (content_of a0 s0) pages (content_of a3 s2) (Wrote w.place ∷ trim_calls upto r)
      renewing_trim before (Ok x) = (read, is_own a3 w.place.1 w.whole, last_is, is_before before)
      renewing_trim before (Err NoMemory) = (read, is_own a3 w.place.1 w.whole)
      renewing_trim before (Err Unavailable) = (read, is_own a3 w.place.1 w.whole, last_is, is_before before)
      renewing_trim before (Err Refused) = (read, is_own a3 w.place.1 w.whole, last_is, is_before before)
      renewing_trim before (Err Lost) = (read, is_own a3 w.place.1 w.whole, last_is, is_before before)

      -- a trim moves it no more
      trimmed_on : (r : Result Unit LogFault) → ReadsOn s1.alone (known_by s2.node) (place_of s1.read_to) (Wrote w.place ∷ trim_calls upto r) (place_of s2.read_to)
      trimmed_on (Ok x) = w.read_to
      trimmed_on (Err NoMemory) = w.read_to
      trimmed_on (Err Unavailable) = w.read_to
      trimmed_on (Err Refused) = w.read_to
      trimmed_on (Err Lost) = w.read_to

      pub compacts_trimmed : StandsBefore (place upto) (place at) → (r : Result Unit LogFault) → Calls a2 a3 (trim_calls upto r) → Compacts (content_of a0 s0) (content_of a3 s2)
      compacts_trimmed before r trimmed = record {
        pages = pages;
        more = Wrote w.place ∷ trim_calls upto r;
        asked = calls_then a0 a1 a3 pages (Wrote w.place ∷ trim_calls upto r) asked (calls_then a1 a2 a3 (Wrote w.place ∷ []) (trim_calls upto r) w.asked trimmed);
        reads = ended_reads (place_of s0.read_to) pages read;
        renewing = renewing_trim before r;
        stays = stays_of a0 a3 s0 s2 (same_then s0 s1 s2 same later);
        read_on = by_then s0 s1 s2 pages (Wrote w.place ∷ trim_calls upto r) read_pages same.alone later.knows (inr (trimmed_on r));
      }

      -- all but what goes
      compacted_by : (calls : List LogCall) → Calls a2 a3 calls → NumbersOn s2.sequence calls s2.sequence → place_after s0.alone (last_read (place_of s0.read_to) pages) (Wrote w.place ∷ calls) ≡ cond s0.alone (Some w.place.0) (last_read (place_of s0.read_to) pages)
          → own_entries s0.alone (Wrote w.place ∷ calls) ≡ own_entries s0.alone (Wrote w.place ∷ []) → LetsGo w.place (place upto) (Wrote w.place ∷ calls) → IsReplica a3 s2 → IsCompacted (content_of a0 s0) (content_of a3 s2)
      compacted_by calls after numbered place_is own_is goes now = record {
        pages = pages;
        wrote = Wrote w.place ∷ calls;
        asked = calls_then a0 a1 a3 pages (Wrote w.place ∷ calls) asked (calls_then a1 a2 a3 (Wrote w.place ∷ []) calls w.asked after);
        start = record {
          number = later.number ∙ same.number;
          tag = ap (λ (x : Starts). x.tag) (later.start ∙ same.start);
          floor = later.floor ∙ same.floor;
          alone = later.alone ∙ same.alone;
        };
        sequence = on_both s0.sequence pages s1.sequence (Wrote w.place ∷ calls) s2.sequence read_numbers (on_both s1.sequence (Wrote w.place ∷ []) s2.sequence calls s2.sequence w.numbered numbered);
        claimed = later.claimed ∙ same.claimed;
        read = read;
        read_to = w.read_to ∙ ap (λ b. cond b (Some w.place.0) (place_of s1.read_to)) same.alone ∙ ap (λ p. cond s0.alone (Some w.place.0) p) last ∙ sym place_is;
        good = subst (λ f. AreGood f (entries_in pages)) (sym fleet_now) takes.good;
        told = subst (λ (t : Bool × Option (List ℕ)). TellFleets (fleet_told_in s0) (entries_in pages) t) (sym told_now) takes.told;
        holds = λ unclaimed. subst (λ n. HoldsNumber n s2.start.tag (entries_in pages)) (sym later.number) (subst (λ (x : Starts). HoldsNumber s1.node.number x.tag (entries_in pages)) (sym later.start) (holds_read unclaimed));
        merged = subst (λ (n : NodeContent). MergesEntries s0.node (entries_in pages) n) (sym node) takes.merged;
        used_numbers = subst (λ ns. AreNoted (used_numbers_of s0) (entries_in pages) ns) (sym used_numbers_now)
            takes.used_numbers;
        counted = counts_then (counted_in s0) (counted_in s1) (counted_in s2) (entries_in pages) (own_entries s0.alone (Wrote w.place ∷ calls)) takes.counted
            (subst (λ es. CountsEntries (counted_in s1) es (counted_in s2)) (sym own_is) (subst (λ b. CountsEntries (counted_in s1) (own_entries b (Wrote w.place ∷ [])) (counted_in s2)) same.alone w.counted));
        renewed = inr (w.place, place upto, goes, is_own a3 w.place.1 w.whole, last_is, w.durable, now.covering.written.whole w.durable);
      }

      pub compacted_snapshot : StandsBefore (place upto) (place at) → Calls a2 a3 (Trimmed (place upto) ∷ []) → IsReplica a3 s2 → IsCompacted (content_of a0 s0) (content_of a3 s2)
      compacted_snapshot before trimmed now = compacted_by (Trimmed (place upto) ∷ []) trimmed refl refl refl (inl (is_before before, refl)) now

      -- nothing goes
      pub compacted_kept : (StandsBefore (place upto) (place at) → ⊥) → Calls a2 a3 [] → IsReplica a3 s2 → IsCompacted (content_of a0 s0) (content_of a3 s2)
      compacted_kept behind none now = compacted_by [] none refl refl refl (inr (λ h. behind (subst (λ (p : ℕ × ℕ). StandsBefore (place upto) p) w.place_is h), refl)) now

      pub compacts_kept : Calls a2 a3 [] → Compacts (content_of a0 s0) (content_of a3 s2)
      compacts_kept none = record {
        pages = pages;
        more = Wrote w.place ∷ [];
        asked = calls_then a0 a1 a3 pages (Wrote w.place ∷ []) asked (calls_then a1 a2 a3 (Wrote w.place ∷ []) [] w.asked none);
        reads = ended_reads (place_of s0.read_to) pages read;
        renewing = (read, is_own a3 w.place.1 w.whole);
        stays = stays_of a0 a3 s0 s2 (same_then s0 s1 s2 same later);
        read_on = by_then s0 s1 s2 pages (Wrote w.place ∷ []) read_pages same.alone later.knows (inr w.read_to);
      }
