-- What the log covers of what the node knows, from one call to the next.
use Rattle.std.proofs.Common.{◌≡◌, inl, inr, ℕ, ◌<◌, ◌≤◌, List, [], ◌∷◌, ◌++◌, Option, Some, None, Bool, true, false, refl, sym, ap, ◌∙◌, subst, arith}
use Rattle.std.specs.Prelude.{IsSomeAnd}
use Rattle.std.specs.FinMap.{get}
use Rattle.lw_join.specs.JoinLaws.{absorbed}
use Rattle.lw_join.specs.Options.{option_below}
use Rattle.lw_reg.specs.declared.slot.Slot.{Slot}
use Rattle.lw_reg.specs.Slot.{slot_below}
use Rattle.lw_reg.specs.State.{State, state_below, state_join}
use Rattle.lw_reg.proofs.States.{state_laws}
use Rattle.lw_table.specs.Changes.{LAST, IsSince, IsSinceIn}
use Rattle.lw_delta.specs.Delta.{DeltaContent}
use Rattle.lw_node.specs.Exchange.{Merged, IsBelow, known_by, known_from, state_in}
use Rattle.lw_node.specs.Node.{NodeContent}
use Rattle.lw_node.proofs.RestLemmas.{deltas_bring}
use Rattle.lw_log.specs.Calls.{LogCall, Placed, Calls}
use Rattle.lw_log.specs.Calls.LogCall.{Wrote}
use Rattle.lw_log.specs.Entries.{BringsDelta}
use Rattle.lw_log.specs.Known.{IsSeen, HasSeen, IsCovered}
use Rattle.lw_log.proofs.Seen.{seen_before, own_appends_cover}
use Rattle.lw_replica.specs.Replica.{IsCoveredBy, HasUnmoved, IsWritten}
use Rattle.lw_replica.specs.inner.Going.{Goes}
use Rattle.lw_replica.specs.inner.Seeing.{IsSeenBy}

-- ---- what was asked grows
some_calls : (a b : List LogCall) → ◌≡◌ {A = Option (List LogCall)} (Some a) (Some b) → a ≡ b
some_calls a b h = ap of h
  where
    of : Option (List LogCall) → List LogCall
    of None = a
    of (Some x) = x

none_calls : (b : List LogCall) → ◌≡◌ {A = Option (List LogCall)} None (Some b) → ⊥
none_calls b h = cc

-- where the calls are known afterwards, they were known before, and the later ones stand behind
pub known_before : {G : Type 0} (old new : Option (List LogCall)) (more calls : List LogCall) → Calls old new more → new ≡ Some calls
    → ((first : List LogCall) → old ≡ Some first → calls ≡ first ++ more → G) → G
known_before None new more calls asked is then = absurd (none_calls calls (sym asked ∙ is))
known_before (Some first) new more calls asked is then = then first refl (some_calls calls (first ++ more) (sym is ∙ asked))

has_before : (reader : ℕ × State) (first more calls : List LogCall) → calls ≡ first ++ more → HasSeen reader calls → HasSeen reader first
has_before reader first more calls is has = λ e seen. has e (subst (λ cs. IsSeen e cs) (sym is) (seen_before first more e seen))

pub written_more : (old new : Option (List LogCall)) (more : List LogCall) (node : NodeContent) (durable : Bool) (written : ℕ) → Calls old new more → IsWritten old node durable written → IsWritten new node durable written
written_more old new more node durable written asked w = record {
  within = w.within;
  unmoved = λ calls is reader has. known_before old new more calls asked is (λ first was same. w.unmoved first was reader (has_before reader first more calls same has));
  whole = λ all calls is. λ reader has. known_before old new more calls asked is (λ first was same. w.whole all first was reader (has_before reader first more calls same has));
}

-- ---- the node goes on
not_true : {G : Type 0} → false ≡ true → G
not_true h = absurd cc

pub written_goes : (asked : Option (List LogCall)) (old new : NodeContent) (durable : Bool) (written : ℕ) → Goes old new → new.table.count.change ≤ LAST → IsWritten asked old durable written → IsWritten asked new false written
written_goes asked old new durable written goes last w =
    let a = goes.change in
    let b = w.within in record {
      within = omega (arith, a, b);
      unmoved = λ calls is reader has e slot at not_since.
          let x = goes.before last written e b not_since in
          w.unmoved calls is reader has e slot (sym x.1 ∙ at) x.0;
      whole = λ f. not_true f;
    }

-- neither change number nor clock moves: nothing does
pub written_calm : (asked : Option (List LogCall)) (old new : NodeContent) (durable : Bool) (written : ℕ) → Goes old new → new.table.count.change ≡ old.table.count.change → new.clock ≡ old.clock → new.table.count.change < LAST
    → IsWritten asked old durable written → IsWritten asked new durable written
written_calm asked old new durable written goes change clock last w =
    let kept = written_goes asked old new durable written goes (omega (arith, last)) w in
    let state = goes.still change last in
    let same : known_by new ≡ known_by old = λ i. (clock i, state i) in record {
      within = kept.within;
      unmoved = kept.unmoved;
      whole = λ all calls is. λ reader has. subst (λ known. IsBelow known reader) (sym same) (w.whole all calls is reader has);
    }

-- what is lost is written from the start
pub written_anew : (asked : Option (List LogCall)) (node : NodeContent) (durable : Bool) (written : ℕ) → IsWritten asked node durable written → IsWritten asked node false 0
written_anew asked node durable written w = record {
  within = omega arith;
  unmoved = λ calls is reader has e slot at not_since. w.unmoved calls is reader has e slot at (λ since. not_since (earlier e since));
  whole = λ f. not_true f;
}
  where
    earlier : (e : List ℕ) → IsSince node.table.count written e → IsSince node.table.count 0 e
    earlier e (inl last) = inl last
    earlier e (inr k) = inr (k.0, k.1, (let h = k.2 in omega (arith, h)))

-- ---- what is covered whole is covered up to the change number
some_below : (o : Option Slot) (slot : Slot) → option_below slot_below (Some slot) o → IsSomeAnd o (slot_below slot)
some_below None slot h = h
some_below (Some s) slot h = h

pub written_whole : (asked : Option (List LogCall)) (node : NodeContent) → IsCoveredBy asked (known_by node) → IsWritten asked node true node.table.count.change
written_whole asked node whole = record {
  within = omega arith;
  unmoved = λ calls is reader has e slot at not_since.
      some_below (get reader.1 e) slot (subst (λ o. option_below slot_below o (get reader.1 e)) at ((whole calls is reader has).1 e));
  whole = λ all. whole;
}

-- ---- an entry is taken that was seen
pub taken_durable : (asked : Option (List LogCall)) (old new : NodeContent) (bytes : List ℕ) (d : DeltaContent) → IsSeenBy asked bytes → BringsDelta bytes d → Merged old d.clock d.slots new
    → IsCoveredBy asked (known_by old) → IsCoveredBy asked (known_by new)
taken_durable asked old new bytes d seen brings m durable calls is = λ reader has.
    let was = durable calls is reader has in
    let own = has bytes (seen calls is) d brings in
    let c = m.clock_is in
    let a = was.0 in
    let b = own.0 in (
      omega (arith, a, b, c),
      subst (λ s. state_below s reader.1) (sym m.state) (state_laws.least old.table.state (state_in d.slots) reader.1 was.1 own.1),
    )

-- ---- an entry is appended that brings what moved since then
module _ (node : NodeContent) (since : ℕ) (slots : List (List ℕ × Slot)) (are : IsSinceIn node.table.state node.table.count since slots) where
  abbrev sent : DeltaContent
  sent = record { clock = node.clock; slots = slots }

  brings_all : (reader : ℕ × State) → HasUnmoved node since reader.1 → IsBelow (known_from sent) reader → IsBelow (known_by node) reader
  brings_all reader unmoved below =
      let is : state_join reader.1 node.table.state ≡ reader.1 = sym (deltas_bring node since slots reader.1 are unmoved) ∙ absorbed state_laws reader.1 (state_in slots) below.1 in
      (below.0, subst (λ s. state_below node.table.state s) is (state_laws.above_right reader.1 node.table.state))

  pub appended_durable : (old new : Option (List LogCall)) (p : Placed) (durable : Bool) → Calls old new (Wrote p ∷ []) → BringsDelta p.1 sent → IsWritten old node durable since → IsCoveredBy new (known_by node)
  appended_durable old new p durable asked brings w calls is =
      known_before old new (Wrote p ∷ []) calls asked is
      (λ first was same. subst (λ cs. IsCovered cs (known_by node)) (sym same)
      (own_appends_cover first p sent (known_by node) brings (λ reader has below. brings_all reader (w.unmoved first was reader has) below)))
