-- A round, put together from its parts.
use Rattle.std.proofs.lemmas.List.{append_assoc}
use Rattle.std.proofs.Common.{◌≡◌, inl, inr, ℕ, List, [], ◌∷◌, ◌++◌, Option, Bool, true, false, cond, refl, sym, ap, ◌∙◌, subst, arith}
use Rattle.std.specs.Prelude.{IsTrue, option_map}
use Rattle.lw_call.specs.declared.call.Call.{Call}
use Rattle.lw_call.specs.declared.reply.Reply.{Reply}
use Rattle.lw_node.specs.Node.{NodeContent}
use Rattle.lw_log.specs.Calls.{LogCall, Calls, place_of}
use Rattle.lw_log.specs.Calls.LogCall.{Wrote}
use Rattle.lw_log.specs.declared.entry.FleetId.{FleetId}
use Rattle.lw_log.specs.declared.start.Start.{Start as Starts}
use Rattle.lw_log.specs.Entries.BodyContent.{Start}
use Rattle.lw_replica.specs.declared.used_numbers.UsedNumbers.{UsedNumbers}
use Rattle.lw_replica.specs.declared.state.ReplicaState.{ReplicaState}
use Rattle.lw_replica.specs.Own.{IsOwnIn, IsOwnSince, NumbersOn, next_sequence}
use Rattle.lw_replica.specs.Counting.{CountsEntries, own_entries}
use Rattle.lw_replica.specs.Parts.{content_of, fleet_of, used_numbers_of, IsReplica}
use Rattle.lw_replica.specs.Reading.{AreReadToTheEnd, entries_in, last_read, AreGood, AreNoted, HoldsNumber, IsTakenFirst}
use Rattle.lw_replica.specs.Rounds.{Makes, IsClaiming, IsCalm, IsWriting, IsRound, place_after, since_of}
use Rattle.lw_replica.specs.Replica.{IsSameStart}
use Rattle.lw_replica.specs.inner.Going.{Goes}
use Rattle.lw_replica.specs.Fleets.{TellFleets}
use Rattle.lw_replica.specs.inner.ReplicaState.{HasSameStart, IsStill, counted_in, fleet_told_in}
use Rattle.lw_replica.specs.inner.Taking.{Takes, IsJudged}
use Rattle.lw_replica.specs.inner.Writing.{Made, Written, IsClaimed}
use Rattle.lw_replica.proofs.Asking.{calls_then, ended_reads}
use Rattle.lw_replica.proofs.Counting.{counts_then}
use Rattle.lw_replica.proofs.Numbering.{noted_same}
use Rattle.lw_replica.proofs.Sequences.{on_both, on_reads}
use Rattle.lw_replica.proofs.Taking.{judged_holds}

not_both : {G : Type 0} → false ≡ true → G
not_both h = absurd cc

since_is : (durable : Bool) (change written s : ℕ) → (durable ≡ true → s ≡ change) → (durable ≡ false → s ≡ written) → cond durable change written ≡ s
since_is true change written s one other = sym (one refl)
since_is false change written s one other = sym (other refl)

module _ (a1 a2 : Option (List LogCall)) (old merged s1 s2 s3 : ReplicaState) (asked : Option (List LogCall)) (calls : List Call) (replies : List Reply)
    (made : Made s1 calls replies s2) (wrote : Written a1 s2 a2 s3)
    (durable : merged.durable ≡ old.durable) (up_to : old.durable ≡ true → merged.written ≡ merged.node.table.count.change) (written : old.durable ≡ false → merged.written ≡ old.written)
    (written_is : s1.written ≡ merged.written)
    (calm : IsTrue s2.durable → IsStill merged s2.node) (still : IsStill merged s2.node → IsTrue s2.durable) where
  to_calm : IsStill merged s2.node → IsCalm (content_of asked old) merged.node s3.node
  to_calm h = subst (λ (n : NodeContent). IsCalm (content_of asked old) merged.node n) (sym wrote.node) (sym durable ∙ h.0, h.1, h.2, h.3)

  from_calm : IsCalm (content_of asked old) merged.node s3.node → IsStill merged s2.node
  from_calm h = let x = subst (λ (n : NodeContent). IsCalm (content_of asked old) merged.node n) wrote.node h in (durable ∙ x.0, x.1, x.2, x.3)

  written_now : s2.written ≡ merged.written
  written_now = ap (λ (s : ReplicaState). s.written) made.only ∙ written_is

  since_now : since_of (content_of asked old) merged.node ≡ s2.written
  since_now = since_is old.durable merged.node.table.count.change old.written s2.written (λ h. written_now ∙ up_to h) (λ h. written_now ∙ written h)

  pub is_writing : IsWriting (content_of asked old) merged.node wrote.now.wrote (content_of a2 s3)
  is_writing = elim wrote.now.one [
    | inl x ↦ inl (to_calm (calm x.0), x.1)
    | inr x ↦ inr (λ h. not_both (sym x.0 ∙ still (from_calm h)), x.1, x.2, subst (λ since. IsOwnSince (content_of a2 s3) since x.1.1) (sym since_now) x.3)
  ]

-- the start stays the same
same_start : (a0 a3 : Option (List LogCall)) (s0 s1 s2 s3 : ReplicaState) → s1.node.number ≡ s0.node.number → s1.start ≡ s0.start → s1.alone ≡ s0.alone → s1.floor ≡ s0.floor → Goes s1.node s2.node → s2 ≡ record s1 { node = s2.node; durable = s2.durable }
    → HasSameStart s2 s3 → IsSameStart (content_of a0 s0) (content_of a3 s3)
same_start a0 a3 s0 s1 s2 s3 number start alone floor goes only same = record {
  number = same.number ∙ goes.number ∙ number;
  tag = ap (λ (s : Starts). s.tag) (same.start ∙ ap (λ (s : ReplicaState). s.start) only ∙ start);
  floor = same.floor ∙ ap (λ (s : ReplicaState). s.floor) only ∙ floor;
  alone = same.alone ∙ ap (λ (s : ReplicaState). s.alone) only ∙ alone;
}

good_later : (s1 s2 s3 : ReplicaState) (es : List (List ℕ)) → s2 ≡ record s1 { node = s2.node; durable = s2.durable } → s3.fleet ≡ s2.fleet → AreGood (fleet_of s1) es → AreGood (fleet_of s3) es
good_later s1 s2 s3 es only fleet good =
    subst (λ f. AreGood f es) (ap (λ (f : Option FleetId). option_map (λ (x : FleetId). x.bytes) f) (sym (fleet ∙ ap (λ (s : ReplicaState). s.fleet) only))) good

noted_later : (s0 s1 s2 s3 : ReplicaState) (es : List (List ℕ)) → s2 ≡ record s1 { node = s2.node; durable = s2.durable } → s3.used_numbers ≡ s2.used_numbers → AreNoted (used_numbers_of s0) es (used_numbers_of s1) → AreNoted (used_numbers_of s0) es (used_numbers_of s3)
noted_later s0 s1 s2 s3 es only used_numbers noted = noted_same (used_numbers_of s0) (used_numbers_of s0) (used_numbers_of s1) (used_numbers_of s3) es refl (ap (λ (x : UsedNumbers). x.bytes.value) used_numbers ∙ ap used_numbers_of only) noted

-- what was read, and then written
read_later : (s0 s1 s2 s3 : ReplicaState) (from : Option (ℕ × ℕ)) (pages wrote : List LogCall) → s1.alone ≡ s0.alone → place_of s1.read_to ≡ last_read from pages → s2 ≡ record s1 { node = s2.node; durable = s2.durable }
    → place_of s3.read_to ≡ place_after s2.alone (place_of s2.read_to) wrote → place_of s3.read_to ≡ place_after s0.alone (last_read from pages) wrote
read_later s0 s1 s2 s3 from pages wrote alone last only now =
    now
    ∙ ap (λ b. place_after b (place_of s2.read_to) wrote) (ap (λ (s : ReplicaState). s.alone) only ∙ alone)
    ∙ ap (λ p. place_after s0.alone p wrote) (ap (λ (s : ReplicaState). place_of s.read_to) only ∙ last)

-- what was told
told_later : (s0 s1 s2 s3 : ReplicaState) (es : List (List ℕ)) → s2 ≡ record s1 { node = s2.node; durable = s2.durable } → s3.fleet ≡ s2.fleet → s3.settled ≡ s2.settled → TellFleets (fleet_told_in s0) es (fleet_told_in s1)
    → TellFleets (fleet_told_in s0) es (fleet_told_in s3)
told_later s0 s1 s2 s3 es only fleet settled told =
    let now : fleet_told_in s3 ≡ fleet_told_in s1 =
    ap (λ b. (b, fleet_of s3)) settled ∙ ap (λ (f : Option FleetId). (s2.settled, option_map (λ (x : FleetId). x.bytes) f)) fleet ∙ ap fleet_told_in only in
    subst (λ (t : Bool × Option (List ℕ)). TellFleets (fleet_told_in s0) es t) (sym now) told

-- what was counted, and then what was written
counted_later : (s0 s1 s2 s3 : ReplicaState) (from : ℕ × ℕ) (es : List (List ℕ)) (wrote : List LogCall) → s1.alone ≡ s0.alone → CountsEntries from es (counted_in s1) → s2 ≡ record s1 { node = s2.node; durable = s2.durable }
    → CountsEntries (counted_in s2) (own_entries s2.alone wrote) (counted_in s3) → CountsEntries from (es ++ own_entries s0.alone wrote) (counted_in s3)
counted_later s0 s1 s2 s3 from es wrote alone before only now =
    counts_then from (counted_in s2) (counted_in s3) es (own_entries s0.alone wrote) (subst (λ (n : ℕ × ℕ). CountsEntries from es n) (sym (ap counted_in only)) before)
    (subst (λ b. CountsEntries (counted_in s2) (own_entries b wrote) (counted_in s3)) (ap (λ (s : ReplicaState). s.alone) only ∙ alone) now)

-- ---- a round that claims nothing
module _ (a0 a1 a2 : Option (List LogCall)) (s0 s1 s2 s3 : ReplicaState) (calls : List Call) (replies : List Reply) (pages : List LogCall) (own : Bool)
    (asked : Calls a0 a1 pages) (read : AreReadToTheEnd (place_of s0.read_to) pages) (takes : Takes s0 (entries_in pages) s1)
    (judged : IsJudged s0.claimed s0.start.number s0.start.tag (entries_in pages) own) (last : place_of s1.read_to ≡ last_read (place_of s0.read_to) pages)
    (same : HasSameStart s0 s1) (replica : IsReplica a0 s0) (later : IsReplica a1 s1)
    (made : Made s1 calls replies s2) (wrote : Written a1 s2 a2 s3) (idle : ¬ IsClaiming (content_of a0 s0) calls) where
  holds_idle : s0.claimed ≡ false → HoldsNumber s3.node.number s3.start.tag (entries_in pages)
  holds_idle unclaimed =
      let number : s0.start.number ≡ s3.node.number = replica.number ∙ sym (wrote.same.number ∙ made.goes.number ∙ same.number) in
      let tag : s0.start.tag ≡ s3.start.tag = ap (λ (s : Starts). s.tag) (sym (wrote.same.start ∙ ap (λ (s : ReplicaState). s.start) made.only ∙ same.start)) in
      let h : HoldsNumber s0.start.number s0.start.tag (entries_in pages) = judged_holds s0.start.number s0.start.tag (entries_in pages) own (subst (λ b. IsJudged b s0.start.number s0.start.tag (entries_in pages) own) unclaimed judged) in
      subst (λ n. HoldsNumber n s3.start.tag (entries_in pages)) number (subst (λ t. HoldsNumber s0.start.number t (entries_in pages)) tag h)

  pub idle_round : IsRound (content_of a0 s0) calls replies (content_of a2 s3)
  idle_round = record {
    claim = [];
    pages = pages;
    merged_node = s1.node;
    mid = s1.node;
    wrote = wrote.now.wrote;
    asked = calls_then a0 a1 a2 pages wrote.now.wrote asked wrote.now.asked;
    start = same_start a0 a2 s0 s1 s2 s3 same.number same.start same.alone same.floor made.goes made.only wrote.same;
    sequence = on_both s0.sequence pages s0.sequence wrote.now.wrote s3.sequence (on_reads s0.sequence pages (ended_reads (place_of s0.read_to) pages read))
        (subst (λ n. NumbersOn n wrote.now.wrote s3.sequence) (ap (λ (s : ReplicaState). s.sequence) made.only ∙ takes.sequence) wrote.now.numbered);
    claims = inl (idle, refl, wrote.same.claimed ∙ ap (λ (s : ReplicaState). s.claimed) made.only ∙ same.claimed);
    read = read;
    read_to = read_later s0 s1 s2 s3 (place_of s0.read_to) pages wrote.now.wrote same.alone last made.only wrote.now.read_to;
    good = good_later s1 s2 s3 (entries_in pages) made.only wrote.fleet takes.good;
    told = λ t. told_later s0 s1 s2 s3 (entries_in pages) made.only wrote.fleet wrote.settled takes.told;
    holds = holds_idle;
    first = λ claiming. absurd (idle claiming);
    used_numbers = noted_later s0 s1 s2 s3 (entries_in pages) made.only wrote.used_numbers takes.used_numbers;
    counted = counted_later s0 s1 s2 s3 (counted_in s0) (entries_in pages) wrote.now.wrote same.alone takes.counted made.only wrote.now.counted;
    merged = takes.merged;
    raised = refl;
    made = subst (λ (n : NodeContent). Makes s1.node calls replies n) (sym wrote.node) made.made;
    written = is_writing a1 a2 s0 s1 s1 s2 s3 a0 calls replies made wrote takes.durable (λ h. later.covering.up_to (takes.durable ∙ h)) takes.written refl made.still.0 made.still.1;
    all = wrote.now.durable;
    durable = wrote.replica.covering.written.whole wrote.now.durable;
  }

-- ---- a round that claims its number
module _ (a0 a1 a2 : Option (List LogCall)) (s0 s1 s2 s3 : ReplicaState) (calls : List Call) (replies : List Reply)
    (claimed : IsClaimed a0 s0 a1 s1) (same : HasSameStart s0 (record s1 { claimed = false })) (is : s1.claimed ≡ true)
    (made : Made s1 calls replies s2) (wrote : Written a1 s2 a2 s3) (claiming : IsClaiming (content_of a0 s0) calls) where
  -- the log covered all, and nothing has moved since the merges
  calm_since : IsTrue s2.durable → IsStill claimed.merged s2.node
  calm_since h =
      let x = made.still.0 h in
      let y = claimed.still.0 x.0 in
      (y.0, x.1 ∙ y.1, x.2, x.3 ∙ y.3)

  still_since : IsStill claimed.merged s2.node → IsTrue s2.durable
  still_since h =
      let a = claimed.goes.change in
      let b = made.goes.change in
      let c = claimed.goes.clock in
      let d = made.goes.clock in
      let e = h.1 in
      let f = h.3 in
      let l = h.2 in
      made.still.1 (
        claimed.still.1 (h.0, omega (arith, a, b, e), omega (arith, a, b, e, l), omega (arith, c, d, f)),
        omega (arith, a, b, e),
        l,
        omega (arith, c, d, f),
      )

  tag_is : s1.start.tag ≡ s3.start.tag
  tag_is = ap (λ (s : Starts). s.tag) (sym (wrote.same.start ∙ ap (λ (s : ReplicaState). s.start) made.only))

  number_is : s1.node.number ≡ s3.node.number
  number_is = sym (wrote.same.number ∙ made.goes.number)

  fleet_is : fleet_of s1 ≡ fleet_of s3
  fleet_is = ap (λ (f : Option FleetId). option_map (λ (x : FleetId). x.bytes) f) (sym (wrote.fleet ∙ ap (λ (s : ReplicaState). s.fleet) made.only))

  abbrev own_start : IsOwnIn (content_of a2 s3) Start claimed.place.1
  own_start = (
    record { entry = claimed.own.0.entry; is = claimed.own.0.is; number = claimed.own.0.number ∙ number_is; tag = claimed.own.0.tag ∙ tag_is; body_is = claimed.own.0.body_is },
    sym fleet_is ∙ claimed.own.1,
  )

  pub claimed_round : IsRound (content_of a0 s0) calls replies (content_of a2 s3)
  claimed_round = record {
    claim = Wrote claimed.place ∷ [];
    pages = claimed.pages;
    merged_node = claimed.merged.node;
    mid = s1.node;
    wrote = wrote.now.wrote;
    asked = calls_then a0 a1 a2 (Wrote claimed.place ∷ claimed.pages) wrote.now.wrote claimed.asked wrote.now.asked;
    start = same_start a0 a2 s0 s1 s2 s3 same.number same.start same.alone same.floor made.goes made.only wrote.same;
    sequence = (
      (claimed.own.0.entry, claimed.own.0.is, claimed.numbered),
      on_both (next_sequence s0.sequence) claimed.pages (next_sequence s0.sequence) wrote.now.wrote s3.sequence
          (on_reads (next_sequence s0.sequence) claimed.pages (ended_reads (place_after s0.alone (place_of s0.read_to) (Wrote claimed.place ∷ [])) claimed.pages claimed.read))
          (subst (λ n. NumbersOn n wrote.now.wrote s3.sequence) (ap (λ (s : ReplicaState). s.sequence) made.only ∙ claimed.sequence) wrote.now.numbered),
    );
    claims = inr (claiming, wrote.same.claimed ∙ ap (λ (s : ReplicaState). s.claimed) made.only ∙ is, claimed.place, refl, own_start, claimed.numbered);
    read = claimed.read;
    read_to = read_later s0 s1 s2 s3 (place_after s0.alone (place_of s0.read_to) (Wrote claimed.place ∷ [])) claimed.pages wrote.now.wrote same.alone claimed.read_to made.only wrote.now.read_to;
    good = good_later s1 s2 s3 (entries_in claimed.pages) made.only wrote.fleet claimed.good;
    told = λ t. elim t [
      | inl shared ↦ told_later s0 s1 s2 s3 (entries_in claimed.pages) made.only wrote.fleet wrote.settled (claimed.told shared)
      | inr none ↦ absurd cc
    ];
    holds = λ unclaimed. subst (λ n. HoldsNumber n s3.start.tag (entries_in claimed.pages)) number_is (subst (λ t. HoldsNumber s1.node.number t (entries_in claimed.pages)) tag_is claimed.holds);
    first = λ claims shared. subst (λ n. IsTakenFirst n s3.start.tag (entries_in claimed.pages)) number_is (subst (λ t. IsTakenFirst s1.node.number t (entries_in claimed.pages)) tag_is (claimed.first shared));
    used_numbers = noted_later s0 s1 s2 s3 (entries_in claimed.pages) made.only wrote.used_numbers claimed.used_numbers;
    counted = subst (λ es. CountsEntries (counted_in s0) es (counted_in s3)) (append_assoc (own_entries s0.alone (Wrote claimed.place ∷ [])) (entries_in claimed.pages) (own_entries s0.alone wrote.now.wrote))
        (counted_later s0 s1 s2 s3 (counted_in s0) (own_entries s0.alone (Wrote claimed.place ∷ []) ++ entries_in claimed.pages) wrote.now.wrote same.alone claimed.counted made.only wrote.now.counted);
    merged = claimed.merges;
    raised = claimed.raised;
    made = subst (λ (n : NodeContent). Makes s1.node calls replies n) (sym wrote.node) made.made;
    written = is_writing a1 a2 s0 claimed.merged s1 s2 s3 a0 calls replies made wrote claimed.durable claimed.up_to claimed.written claimed.written_is calm_since still_since;
    all = wrote.now.durable;
    durable = wrote.replica.covering.written.whole wrote.now.durable;
  }
