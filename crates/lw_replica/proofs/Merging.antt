-- What a replica takes from one entry.
use Rattle.std.proofs.Common.{◌≡◌, ◌↔◌, ◌⊎◌, inl, inr, ℕ, ◌<◌, ◌≤◌, List, [], ◌∷◌, length, Option, Some, Result, Ok, Err, Bool, true, false, refl, sym, ap, ◌∙◌, subst, arith}
use Rattle.std.specs.Prelude.{IsTrue, OnErr, OnOk, option_map}
use Rattle.std.specs.Result.{is_err}
use Rattle.lw_join.proofs.MapLemmas.{empty_below}
use Rattle.lw_reg.specs.OrderLaws.{text_order}
use Rattle.lw_reg.specs.SlotLaws.{slot_laws}
use Rattle.lw_table.specs.Changes.{LAST}
use Rattle.lw_delta.specs.Delta.{DeltaContent, IsSpelling}
use Rattle.lw_delta.proofs.Answering.{one_delta}
use Rattle.lw_call.specs.declared.merge_fault.MergeFault.{MergeFault}
use Rattle.lw_node.specs.Exchange.{Merged, Merges, known_by}
use Rattle.lw_node.specs.Node.{NodeContent, fresh}
use Rattle.lw_log.specs.Calls.{LogCall}
use Rattle.lw_log.specs.Entries.{BodyContent, EntryContent, IsEntry, HasDelta, BringsDelta}
use Rattle.lw_log.specs.EntryFaults.{IsNewer}
use Rattle.lw_log.specs.declared.entry.FleetId.{FleetId}
use Rattle.lw_replica.specs.declared.state.ReplicaState.{ReplicaState}
use Rattle.lw_replica.specs.Replica.{IsWritten}
use Rattle.lw_replica.specs.Counting.{counted_with, CountsEntry}
use Rattle.lw_replica.specs.Parts.{fleet_of, used_numbers_of, IsCovering}
use Rattle.lw_replica.specs.Reading.{HasBit, TellsOf, Meets}
use Rattle.lw_replica.specs.inner.Going.{Goes}
use Rattle.lw_replica.specs.inner.Seeing.{IsSeenBy}
use Rattle.lw_replica.specs.Fleets.{TellsFleet}
use Rattle.lw_replica.specs.inner.ReplicaState.{HasSameStart, IsStill, counted_in, fleet_told_in}
use Rattle.lw_replica.specs.inner.Taking.{Takes}
use Rattle.lw_replica.proofs.Counting.{counts_one}
use Rattle.lw_replica.proofs.Telling.{tells_one, tells_delta}
use Rattle.lw_replica.proofs.Going.{below_same, below_then, goes_below, goes_merges}
use Rattle.lw_replica.proofs.Numbering.{noted_one, noted_entry}
use Rattle.lw_replica.proofs.Covering.{written_goes, written_calm, written_whole, taken_durable}

-- ---- merges
-- the delta that the bytes spell was merged, if there was no fault
pub merged_snapshot : (old new : NodeContent) (bytes : List ℕ) (outcome : Result ℕ MergeFault) → Merges old bytes outcome new → is_err outcome ≡ false → (d : DeltaContent) → IsSpelling bytes d → Merged old d.clock d.slots new
merged_snapshot old new bytes (Ok count) m good d spelled = subst (λ (x : DeltaContent). Merged old x.clock x.slots new) (one_delta bytes m.delta d m.spelled spelled) m.merged
merged_snapshot old new bytes (Err fault) m good d spelled = absurd cc

-- ---- what is covered
module _ (asked : Option (List LogCall)) (old new : NodeContent) (durable : Bool) (written : ℕ) where
  -- a snapshot is merged where all was covered: it still is
  pub covering_taken : (change : ℕ) (bytes : List ℕ) (d : DeltaContent) → durable ≡ true → change ≡ new.table.count.change → IsSeenBy asked bytes → BringsDelta bytes d → Merged old d.clock d.slots new → IsWritten asked old durable written
      → IsWritten asked new durable change
  covering_taken change bytes d all is seen brings m w =
      let whole = written_whole asked new (taken_durable asked old new bytes d seen brings m (w.whole all)) in
      subst (λ b. IsWritten asked new b change) (sym all) (subst (λ n. IsWritten asked new true n) (sym is) whole)

  pub covering_kept : durable ≡ false → Goes old new → new.table.count.change ≤ LAST → IsWritten asked old durable written → IsWritten asked new durable written
  covering_kept none goes last w = subst (λ b. IsWritten asked new b written) (sym none) (written_goes asked old new durable written goes last w)

  -- the log covers all only where nothing has moved
  pub covering_settled : (later : Bool) → Goes old new → new.table.count.change ≤ LAST
      → (IsTrue later → (durable ≡ true) × (new.table.count.change ≡ old.table.count.change) × (new.table.count.change < LAST) × (new.clock ≡ old.clock))
      → (durable ≡ true → written ≡ old.table.count.change) → IsWritten asked old durable written → IsWritten asked new later written × (later ≡ true → written ≡ new.table.count.change)
  covering_settled false goes last calm up_to w = (
    written_goes asked old new durable written goes last w,
    λ f.
        absurd cc,
  )
  covering_settled true goes last calm up_to w =
      let c = calm refl in
      (subst (λ b. IsWritten asked new b written) c.0 (written_calm asked old new durable written goes c.1 c.3 c.2 w), λ t. up_to c.0 ∙ sym c.1)

-- a new node knows nothing that is not covered
pub written_new : (asked : Option (List LogCall)) (node : NodeContent) (number : ℕ) → node ≡ fresh number → IsWritten asked node true 0
written_new asked node number is =
    subst (λ (n : NodeContent). IsWritten asked n true 0) (sym is)
    (written_whole asked (fresh number) (λ calls known. λ reader has. (omega arith, empty_below text_order slot_laws reader.1)))

-- ---- one entry
-- an entry that brings nothing, or bytes that are none
pub takes_nothing : (old new : ReplicaState) (bytes : List ℕ) → (IsNewer bytes → ⊥) → ((d : DeltaContent) → BringsDelta bytes d → ⊥) → new.node ≡ old.node → (old.settled ≡ true → (new.settled ≡ true) × (new.fleet ≡ old.fleet))
    → new.durable ≡ old.durable → new.written ≡ old.written → new.sequence ≡ old.sequence → ((n : ℕ) → HasBit (used_numbers_of new) n ↔ (HasBit (used_numbers_of old) n ⊎ Meets n bytes)) → CountsEntry (counted_in old) bytes (counted_in new) → TellsFleet (fleet_told_in old) bytes (fleet_told_in new) → Takes old (bytes ∷ []) new
takes_nothing old new bytes known none node settled durable written sequence noted counts tells = record {
  merged = (new.node, inr (none, node), refl);
  good = (record { known = known; of_fleet = λ d brings. absurd (none d brings) }, tt);
  settled = settled;
  unsettled = λ h. (none, tt);
  durable = durable;
  written = λ h. written;
  sequence = sequence;
  used_numbers = noted_one (used_numbers_of old) (used_numbers_of new) bytes noted;
  counted = counts_one (counted_in old) (counted_in new) bytes counts;
  told = tells_one (fleet_told_in old) (fleet_told_in new) bytes tells;
}

no_delta : (body : BodyContent) (delta : List ℕ) → ((d : List ℕ) → HasDelta body d → ⊥) → HasDelta body delta → ⊥
no_delta body delta none has = none delta has

-- an entry without a delta brings none
pub brings_none : (bytes : List ℕ) (e : EntryContent) → ((x : EntryContent) → IsEntry bytes x → e ≡ x) → ((delta : List ℕ) → HasDelta e.body delta → ⊥) → (d : DeltaContent) → BringsDelta bytes d → ⊥
brings_none bytes e only none d brings = none brings.delta (subst (λ (x : EntryContent). HasDelta x.body brings.delta) (sym (only brings.entry brings.is)) brings.has)

-- bytes that are no entry bring none
pub brings_no_entry : (bytes : List ℕ) → ((x : EntryContent) → IsEntry bytes x → ⊥) → (d : DeltaContent) → BringsDelta bytes d → ⊥
brings_no_entry bytes none d brings = none brings.entry brings.is

pub same_delta : (body : BodyContent) (a b : List ℕ) → HasDelta body a → HasDelta body b → a ≡ b
same_delta BodyContent.Start a b h g = absurd h
same_delta (BodyContent.Delta own) a b h g = sym h ∙ g
same_delta (BodyContent.Snapshot used_numbers own) a b h g = sym h ∙ g

pub takes_delta : (old new : ReplicaState) (bytes : List ℕ) (e : EntryContent) (delta : List ℕ) (d : DeltaContent) → IsEntry bytes e → ((x : EntryContent) → IsEntry bytes x → e ≡ x) → HasDelta e.body delta → IsSpelling delta d → (IsNewer bytes → ⊥)
    → Merged old.node d.clock d.slots new.node → new.settled ≡ true → fleet_of new ≡ Some e.fleet → (old.settled ≡ true → new.fleet ≡ old.fleet) → new.durable ≡ old.durable → (old.durable ≡ false → new.written ≡ old.written) → new.sequence ≡ old.sequence
    → ((n : ℕ) → HasBit (used_numbers_of new) n ↔ (HasBit (used_numbers_of old) n ⊎ ((e.number ≡ n) ⊎ TellsOf n e.body))) → counted_in new ≡ counted_with e.body (length bytes) (counted_in old) → Takes old (bytes ∷ []) new
takes_delta old new bytes e delta d is only has spelled known merged settled fleet kept durable written sequence noted counts = record {
  merged = (new.node, inl (d, record { entry = e; delta = delta; is = is; has = has; spelled = spelled }, merged), refl);
  good = (record { known = known; of_fleet = λ x brings. fleet ∙ ap (λ (y : EntryContent). Some y.fleet) (only brings.entry brings.is) }, tt);
  settled = λ h. (settled, kept h);
  unsettled = λ h. absurd cc;
  durable = durable;
  written = written;
  sequence = sequence;
  used_numbers = noted_one (used_numbers_of old) (used_numbers_of new) bytes (noted_entry (used_numbers_of old) (used_numbers_of new) bytes e is only noted);
  counted = counts_one (counted_in old) (counted_in new) bytes (inl (e, is, counts));
  told = tells_one (fleet_told_in old) (fleet_told_in new) bytes (inl (e, is, ap (λ b. (b, fleet_of new)) settled ∙ ap (λ f. (true, f)) fleet ∙ tells_delta (fleet_told_in old) e.body e.fleet delta has));
}

-- ---- what holds of a success
pub on_ok : {E P Q : Type 0} (r : Result (Unit {0}) E) → OnOk r P → (P → Q) → OnOk r Q
on_ok (Ok x) p f = f p
on_ok (Err e) p f = tt

pub on_err : {A E P : Type 0} (r : Result A E) → P → OnErr r P
on_err (Ok x) p = tt
on_err (Err e) p = p

pub on_ok_four : {E A B C D Q : Type 0} (r : Result (Unit {0}) E) → OnOk r A → OnOk r B → OnOk r C → OnOk r D → (A → B → C → D → Q) → OnOk r Q
on_ok_four (Ok x) a b c d f = f a b c d
on_ok_four (Err e) a b c d f = tt

-- ---- a replica's parts
pub same_then : (a b c : ReplicaState) → HasSameStart a b → HasSameStart b c → HasSameStart a c
same_then a b c one two = record {
  number = two.number ∙ one.number;
  start = two.start ∙ one.start;
  proposed_fleet = two.proposed_fleet ∙ one.proposed_fleet;
  alone = two.alone ∙ one.alone;
  claimed = two.claimed ∙ one.claimed;
  floor = two.floor ∙ one.floor;
  settled = λ h. two.settled (one.settled h);
  fleet = λ f h is. two.fleet f (one.settled h) (one.fleet f h is);
  knows = below_then (known_by a.node) (known_by b.node) (known_by c.node) one.knows two.knows;
}

pub same_none : (s : ReplicaState) → HasSameStart s s
same_none s = record { number = refl; start = refl; proposed_fleet = refl; alone = refl; claimed = refl; floor = refl; settled = λ h. h; fleet = λ f h is. is; knows = below_same s.node s.node refl }

-- what is read or written next changes nothing of it
pub same_failed : (s s1 : ReplicaState) → s1 ≡ record s { read_to = s1.read_to; written = s1.written; durable = s1.durable } → HasSameStart s s1
same_failed s s1 only = subst (λ (x : ReplicaState). HasSameStart s x) (sym only) (record { number = refl; start = refl; proposed_fleet = refl; alone = refl; claimed = refl; floor = refl; settled = λ h. h; fleet = λ f h is. is; knows = below_same s.node s.node refl })

pub settled_covering : (asked : Option (List LogCall)) (old new : ReplicaState) → Goes old.node new.node → new.node.table.count.change ≤ LAST → (IsTrue new.durable → IsStill old new.node) → new.written ≡ old.written → IsCovering asked old → IsCovering asked new
settled_covering asked old new goes last calm is covering =
    let x = covering_settled asked old.node new.node old.durable old.written new.durable goes last calm covering.up_to covering.written in
    record { written = subst (λ w. IsWritten asked new.node new.durable w) (sym is) x.0; up_to = λ h. is ∙ x.1 h }

-- its start was appended, in its fleet
pub same_started : (s s1 : ReplicaState) → s1 ≡ record s { sequence = s1.sequence; read_to = s1.read_to; size = s1.size; fleet = s1.fleet } → (own : FleetId) → ((f : List ℕ) → fleet_of s ≡ Some f → own.bytes ≡ f)
    → (s1.fleet ≡ s.fleet) ⊎ (s1.fleet ≡ Some own) → HasSameStart s s1
same_started s s1 only own is moved = record {
  number = ap (λ (x : ReplicaState). x.node.number) only;
  start = ap (λ (x : ReplicaState). x.start) only;
  proposed_fleet = ap (λ (x : ReplicaState). x.proposed_fleet) only;
  alone = ap (λ (x : ReplicaState). x.alone) only;
  claimed = ap (λ (x : ReplicaState). x.claimed) only;
  floor = ap (λ (x : ReplicaState). x.floor) only;
  settled = λ h. ap (λ (x : ReplicaState). x.settled) only ∙ h;
  fleet = λ f h was. elim moved [
    | inl same ↦ ap (λ (x : Option FleetId). option_map (λ (y : FleetId). y.bytes) x) same ∙ was
    | inr new ↦ ap (λ (x : Option FleetId). option_map (λ (y : FleetId). y.bytes) x) new ∙ ap Some (is f was)
  ];
  knows = below_same s.node s1.node (ap (λ (x : ReplicaState). x.node) only);
}

-- the parts that a start is of are the same
pub same_parts : (a b c : ReplicaState) → b.node ≡ a.node → b.start ≡ a.start → b.proposed_fleet ≡ a.proposed_fleet → b.alone ≡ a.alone → b.claimed ≡ a.claimed → b.floor ≡ a.floor → b.settled ≡ a.settled → b.fleet ≡ a.fleet → HasSameStart b c → HasSameStart a c
same_parts a b c node start proposed_fleet alone claimed floor settled fleet same = same_then a b c (record {
  number = ap (λ (n : NodeContent). n.number) node;
  start = start;
  proposed_fleet = proposed_fleet;
  alone = alone;
  claimed = claimed;
  floor = floor;
  settled = λ h. settled ∙ h;
  fleet = λ f h was. ap (λ (x : Option FleetId). option_map (λ (y : FleetId). y.bytes) x) fleet ∙ was;
  knows = below_same a.node b.node node;
}) same

-- an entry was appended, and the log covers all
pub same_appended : (s s1 : ReplicaState) (durable : Bool) (written : ℕ) → s1 ≡ record s { sequence = s1.sequence; read_to = s1.read_to; size = s1.size } → HasSameStart s (record s1 { durable = durable; written = written })
same_appended s s1 durable written only =
    let same : (x : ReplicaState) → HasSameStart x (record x { sequence = s1.sequence; read_to = s1.read_to; size = s1.size; durable = durable; written = written }) = λ x. record {
      number = refl;
      start = refl;
      proposed_fleet = refl;
      alone = refl;
      claimed = refl;
      floor = refl;
      settled = λ h. h;
      fleet = λ f h is. is;
      knows = below_same x.node x.node refl;
    } in
    subst (λ (x : ReplicaState). HasSameStart s (record x { durable = durable; written = written })) (sym only) (same s)

-- the node goes on
pub same_made : (s s1 : ReplicaState) → s1 ≡ record s { node = s1.node; durable = s1.durable } → Goes s.node s1.node → HasSameStart s s1
same_made s s1 only goes = record {
  number = goes.number;
  start = ap (λ (x : ReplicaState). x.start) only;
  proposed_fleet = ap (λ (x : ReplicaState). x.proposed_fleet) only;
  alone = ap (λ (x : ReplicaState). x.alone) only;
  claimed = ap (λ (x : ReplicaState). x.claimed) only;
  floor = ap (λ (x : ReplicaState). x.floor) only;
  settled = λ h. ap (λ (x : ReplicaState). x.settled) only ∙ h;
  fleet = λ f h was. ap fleet_of only ∙ was;
  knows = goes_below s.node s1.node goes;
}

-- its number is claimed
pub same_unclaimed : (s s1 : ReplicaState) → HasSameStart s s1 → s.claimed ≡ false → HasSameStart s (record s1 { claimed = false })
same_unclaimed s s1 same unclaimed = record {
  number = same.number;
  start = same.start;
  proposed_fleet = same.proposed_fleet;
  alone = same.alone;
  claimed = sym unclaimed;
  floor = same.floor;
  settled = same.settled;
  fleet = same.fleet;
  knows = same.knows;
}

-- a delta was merged, if there was no fault, or a part of it
pub same_merged : (a b : ReplicaState) (delta : List ℕ) (outcome : Result ℕ MergeFault) → Merges a.node delta outcome b.node → b.start ≡ a.start → b.proposed_fleet ≡ a.proposed_fleet → b.alone ≡ a.alone → b.claimed ≡ a.claimed → b.floor ≡ a.floor
    → (a.settled ≡ true → (b.settled ≡ true) × (b.fleet ≡ a.fleet)) → HasSameStart a b
same_merged a b delta outcome merges start proposed_fleet alone claimed floor kept =
    let goes = goes_merges a.node b.node delta outcome merges in
    record {
      number = goes.number;
      start = start;
      proposed_fleet = proposed_fleet;
      alone = alone;
      claimed = claimed;
      floor = floor;
      settled = λ h. (kept h).0;
      fleet = λ f h was. ap (λ (x : Option FleetId). option_map (λ (y : FleetId). y.bytes) x) (kept h).1 ∙ was;
      knows = goes_below a.node b.node goes;
    }
