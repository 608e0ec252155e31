-- A claim, put together from its parts.
use Rattle.std.proofs.Common.{◌≡◌, ◌↔◌, ◌⊎◌, inl, inr, ℕ, List, [], ◌∷◌, Option, Some, None, Bool, true, false, sym, ap, ◌∙◌, subst}
use Rattle.std.specs.Prelude.{IsTrue, option_map}
use Rattle.lw_node.specs.Exchange.{Merged}
use Rattle.lw_node.specs.Node.{NodeContent}
use Rattle.lw_log.specs.Calls.{LogCall, Calls, place_of}
use Rattle.lw_log.specs.Calls.LogCall.{Wrote}
use Rattle.lw_log.specs.declared.entry.FleetId.{FleetId}
use Rattle.lw_log.specs.declared.start.Start.{Start as Starts}
use Rattle.lw_replica.specs.declared.state.ReplicaState.{ReplicaState}
use Rattle.lw_replica.specs.Counting.{CountsEntries, own_entries}
use Rattle.lw_replica.specs.Parts.{fleet_of, used_numbers_of, IsReplica}
use Rattle.lw_replica.specs.Reading.{AreReadToTheEnd, entries_in, last_read, AreGood, HoldsNumber, IsTakenFirst, MergesEntries}
use Rattle.lw_replica.specs.inner.Going.{Goes}
use Rattle.lw_replica.specs.Fleets.{TellFleets}
use Rattle.lw_replica.specs.inner.ReplicaState.{HasSameStart, IsStill, counted_in, fleet_told_in}
use Rattle.lw_replica.specs.inner.Taking.{Takes, IsJudged}
use Rattle.lw_replica.specs.inner.Writing.{Claims, IsStarted, IsClaimed}
use Rattle.lw_replica.proofs.Asking.{calls_then}
use Rattle.lw_replica.proofs.Owning.{reads_claim, start_of}
use Rattle.lw_replica.proofs.Catching.{Asked}
use Rattle.lw_replica.proofs.Going.{below_same, goes_below}
use Rattle.lw_replica.proofs.Knowing.{by_more, by_then}
use Rattle.lw_replica.proofs.Counting.{counts_then}
use Rattle.lw_replica.proofs.Numbering.{noted_same}
use Rattle.lw_replica.proofs.Taking.{judged_holds}

module _ (a0 a1 a2 : Option (List LogCall)) (s0 s1 s2 s3 : ReplicaState) (fleet : List ℕ) (own : Bool) (pages : List LogCall)
    (started : IsStarted a0 s0 fleet a1 s1) (asked : Calls a1 a2 pages) (read : AreReadToTheEnd (place_of s1.read_to) pages) (takes : Takes s1 (entries_in pages) s2)
    (judged : IsJudged s1.claimed s1.start.number s1.start.tag (entries_in pages) own) (same : HasSameStart s1 s2) (in_fleet : fleet_of s2 ≡ Some fleet) (last : place_of s2.read_to ≡ last_read (place_of s1.read_to) pages)
    (number : s0.start.number ≡ s0.node.number) (unclaimed : s0.claimed ≡ false) (replica : IsReplica a2 s2)
    (shown : s2.alone ≡ false → own ≡ true) (raised : Merged s2.node s2.floor [] s3.node) (still : IsTrue s3.durable ↔ IsStill s2 s3.node) (only : s3 ≡ record s2 { node = s3.node; durable = s3.durable }) (goes : Goes s2.node s3.node) where
  one : s1 ≡ record s0 { sequence = s1.sequence; read_to = s1.read_to; size = s1.size; fleet = s1.fleet }
  one = started.only

  start_is : s3.start ≡ s0.start
  start_is = ap (λ (s : ReplicaState). s.start) only ∙ same.start ∙ ap (λ (s : ReplicaState). s.start) one

  number_is : s3.node.number ≡ s0.node.number
  number_is = goes.number ∙ same.number ∙ ap (λ (s : ReplicaState). s.node.number) one

  fleet_is : fleet_of s3 ≡ Some fleet
  fleet_is = ap (λ (s : ReplicaState). option_map (λ (f : FleetId). f.bytes) s.fleet) only ∙ in_fleet

  holds_first : HoldsNumber s1.start.number s1.start.tag (entries_in pages)
  holds_first = judged_holds s1.start.number s1.start.tag (entries_in pages) own (subst (λ b. IsJudged b s1.start.number s1.start.tag (entries_in pages) own) (ap (λ (s : ReplicaState). s.claimed) one ∙ unclaimed) judged)

  holds_now : HoldsNumber s3.node.number s3.start.tag (entries_in pages)
  holds_now =
      let n : s1.start.number ≡ s3.node.number = ap (λ (s : ReplicaState). s.start.number) one ∙ number
      ∙ sym number_is in
      let t : s1.start.tag ≡ s3.start.tag = ap (λ (x : Starts). x.tag) (ap (λ (s : ReplicaState). s.start) one ∙ sym start_is) in
      subst (λ x. HoldsNumber x s3.start.tag (entries_in pages)) n (subst (λ x. HoldsNumber s1.start.number x (entries_in pages)) t holds_first)

  first_now : s0.alone ≡ false → IsTakenFirst s3.node.number s3.start.tag (entries_in pages)
  first_now shared =
      let is : own ≡ true = shown (same.alone ∙ ap (λ (s : ReplicaState). s.alone) one ∙ shared) in
      let mine : IsJudged false s1.start.number s1.start.tag (entries_in pages) true =
      subst (λ b. IsJudged false s1.start.number s1.start.tag (entries_in pages) b) is
      (subst (λ b. IsJudged b s1.start.number s1.start.tag (entries_in pages) own) (ap (λ (s : ReplicaState). s.claimed) one ∙ unclaimed) judged) in
      let n : s1.start.number ≡ s3.node.number = ap (λ (s : ReplicaState). s.start.number) one ∙ number
      ∙ sym number_is in
      let t : s1.start.tag ≡ s3.start.tag = ap (λ (x : Starts). x.tag) (ap (λ (s : ReplicaState). s.start) one ∙ sym start_is) in
      subst (λ x. IsTakenFirst x s3.start.tag (entries_in pages)) n (subst (λ x. IsTakenFirst s1.start.number x (entries_in pages)) t mine)

  told_now : s0.alone ≡ false → TellFleets (fleet_told_in s0) (entries_in pages) (fleet_told_in s3)
  told_now shared =
      let before : fleet_told_in s1 ≡ fleet_told_in s0 =
      ap (λ b. (b, fleet_of s1)) (ap (λ (s : ReplicaState). s.settled) one) ∙ ap (λ (f : Option FleetId). (s0.settled, option_map (λ (x : FleetId). x.bytes) f)) (started.shared shared) in
      subst (λ (t : Bool × Option (List ℕ)). TellFleets t (entries_in pages) (fleet_told_in s3)) before
      (subst (λ (t : Bool × Option (List ℕ)). TellFleets (fleet_told_in s1) (entries_in pages) t) (ap fleet_told_in (sym only)) takes.told)

  pub claim_is : IsClaimed a0 s0 a2 (record s3 { claimed = true })
  claim_is = record {
    place = started.place;
    pages = pages;
    merged = s2;
    asked = calls_then a0 a1 a2 (Wrote started.place ∷ []) pages started.asked asked;
    own = (
      record {
        entry = started.entry.entry;
        is = started.entry.is;
        number = started.entry.number ∙ number ∙ sym number_is;
        tag = started.entry.tag ∙ ap (λ (x : Starts). x.tag) (sym start_is);
        body_is = started.entry.body_is;
      },
      fleet_is ∙ ap (λ f. Some f) (sym started.entry.fleet_is),
    );
    numbered = started.entry.sequence_is;
    sequence = ap (λ (s : ReplicaState). s.sequence) only ∙ takes.sequence ∙ started.sequence;
    read = subst (λ p. AreReadToTheEnd p pages) started.read_to read;
    read_to = ap (λ (s : ReplicaState). place_of s.read_to) only ∙ last ∙ ap (λ p. last_read p pages) started.read_to;
    good = subst (λ f. AreGood f (entries_in pages)) (ap (λ (s : ReplicaState). option_map (λ (f : FleetId). f.bytes) s.fleet) (sym only)) takes.good;
    told = told_now;
    holds = holds_now;
    first = first_now;
    merges = subst (λ (n : NodeContent). MergesEntries n (entries_in pages) s2.node) (ap (λ (s : ReplicaState). s.node) one) takes.merged;
    used_numbers = noted_same (used_numbers_of s1) (used_numbers_of s0) (used_numbers_of s2) (used_numbers_of s3) (entries_in pages) (sym (ap used_numbers_of one)) (ap used_numbers_of only) takes.used_numbers;
    counted = counts_then (counted_in s0) (counted_in s1) (counted_in s3) (own_entries s0.alone (Wrote started.place ∷ [])) (entries_in pages) started.counted
        (subst (λ (n : ℕ × ℕ). CountsEntries (counted_in s1) (entries_in pages) n) (sym (ap counted_in only)) takes.counted);
    durable = takes.durable ∙ ap (λ (s : ReplicaState). s.durable) one;
    written = λ h. takes.written (ap (λ (s : ReplicaState). s.durable) one ∙ h)
        ∙ ap (λ (s : ReplicaState). s.written) one;
    up_to = λ h. replica.covering.up_to (takes.durable ∙ ap (λ (s : ReplicaState). s.durable) one ∙ h);
    raised = subst (λ n. Merged s2.node n [] s3.node) (same.floor ∙ ap (λ (s : ReplicaState). s.floor) one) raised;
    goes = goes;
    still = still;
    written_is = ap (λ (s : ReplicaState). s.written) only;
  }

-- a claim, and what was read behind it
pub claims_read : (a0 a1 a2 : Option (List LogCall)) (s0 s1 s2 : ReplicaState) (fleet : List ℕ) → IsStarted a0 s0 fleet a1 s1 → HasSameStart s0 s1 → HasSameStart s1 s2 → Asked a1 s1 a2 s2 → Claims a0 s0 a2 s2
claims_read a0 a1 a2 s0 s1 s2 fleet started first same two = (
  Wrote started.place ∷ two.0,
  calls_then a0 a1 a2 (Wrote started.place ∷ []) two.0 started.asked two.1,
  (start_of s0 fleet started.place.1 started.entry, reads_claim s0.start.number s0.start.tag two.0 two.2),
  by_then s0 s1 s2 (Wrote started.place ∷ []) two.0 started.read_to first.alone same.knows two.3,
)

-- and the node goes on
pub claims_more : (a0 a2 : Option (List LogCall)) (s0 s2 s3 : ReplicaState) → s3.read_to ≡ s2.read_to → Goes s2.node s3.node → Claims a0 s0 a2 s2 → Claims a0 s0 a2 s3
claims_more a0 a2 s0 s2 s3 same goes claims = (claims.0, claims.1, claims.2, by_more s0 s2 s3 claims.0 (ap place_of same) (goes_below s2.node s3.node goes) claims.3)

-- and it has lost something
pub claims_failed : (a0 a2 : Option (List LogCall)) (s0 s2 s3 : ReplicaState) → s3 ≡ record s2 { read_to = s3.read_to; written = s3.written; durable = s3.durable } → (s3.read_to ≡ None) ⊎ (s3.read_to ≡ s2.read_to) → Claims a0 s0 a2 s2 → Claims a0 s0 a2 s3
claims_failed a0 a2 s0 s2 s3 only (inl none) claims = (claims.0, claims.1, claims.2, inl (ap place_of none))
claims_failed a0 a2 s0 s2 s3 only (inr same) claims = (claims.0, claims.1, claims.2, by_more s0 s2 s3 claims.0 (ap place_of same) (below_same s2.node s3.node (ap (λ (x : ReplicaState). x.node) only)) claims.3)
