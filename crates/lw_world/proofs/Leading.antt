-- The clocks of a run lead, and its stamps differ.
use Rattle.std.proofs.Common.{◌≡◌, ℕ, zero, suc, ◌+◌, ◌<◌, ◌≤◌, List, [], ◌∷◌, Option, Some, None, Result, Ok, Err, refl, sym, ap, ◌∙◌, subst, inl, inr, ◌⊎◌, arith}
use Rattle.std.specs.Prelude.{◌≢◌, Contains, AllPairs, IfSome, set, slice_get}
use Rattle.std.proofs.lemmas.Bool.{cases_eq}
use Rattle.std.proofs.lemmas.List.Elements.{All-weaker, All-contains, All-contains_itself, All-filter, Contains-append_cases, Contains-push_cases}
use Rattle.std.proofs.lemmas.List.Kept.{AllPairs-cons}
use Rattle.lw_stamp.specs.declared.stamp.Stamp.{Stamp}
use Rattle.lw_stamp.specs.Moment.{ms_of}
use Rattle.lw_reg.specs.declared.op.Op.{Op}
use Rattle.lw_reg.specs.Marks.{left_by}
use Rattle.lw_reg.proofs.Members.{none_there, first_there, more_there, there_or_first}
use Rattle.lw_call.specs.declared.clock_end.ClockEnd.{ClockEnd as NoStamp}
use Rattle.lw_call.specs.declared.merge_fault.MergeFault.{MergeFault}
use Rattle.lw_call.specs.declared.merge_fault.MergeFault.TheVariants.{Malformed, NoMemory}
use Rattle.lw_call.specs.declared.observe_fault.ObserveFault.{ObserveFault}
use Rattle.lw_call.specs.declared.observe_fault.ObserveFault.TheVariants as faults
use Rattle.lw_call.specs.Contents.{OutgoingContent}
use Rattle.lw_node.specs.Calls.{Sent, Swept}
use Rattle.lw_node.specs.Effects.{Request, Refused, ObserveMeans, CancelMeans, SweepMeans}
use Rattle.lw_node.specs.Laws.{IsRegister}
use Rattle.lw_world.specs.declared.event.Action.{Action}
use Rattle.lw_world.specs.declared.event.Action.TheVariants as actions
use Rattle.lw_world.specs.declared.event.Event.{Event}
use Rattle.lw_world.specs.declared.outcome.Outcome.{Outcome}
use Rattle.lw_world.specs.declared.outcome.Outcome.TheVariants as outcomes
use Rattle.lw_world.specs.declared.outcome.Sending.{Sending}
use Rattle.lw_world.specs.Known.{Knowledge, Message, knows_nothing, IssuesOr, about, names_of}
use Rattle.lw_world.specs.inner.Known.{issuer_of}
use Rattle.lw_world.specs.Laws.{IsReached, ClocksLead, StampsDiffer, KnownWasIssued}
use Rattle.lw_world.specs.Run.{History, numbered_from, begun, noted, Left, idle, Issuing, Sends, Delivers, Delivered, Acts, at_number, after, Happens, Steps, Runs}
use Rattle.lw_world.proofs.Freshness.{WasNext, was_before, was_within, IsFresh, taken_fresh, observe_fresh, cancel_fresh, sweep_fresh}

-- ---- places of a list
module _ {A : Type 0} where
  there_at : (xs : List A) (place : ℕ) (x : A) → slice_get xs place ≡ Some x → Contains xs x
  there_at [] place x e = absurd cc
  there_at (y ∷ ys) zero x e = first_there y ys x cc
  there_at (y ∷ ys) (suc place) x e = more_there y ys x (there_at ys place x e)

  set_there : (xs : List A) (place : ℕ) (x a : A) → slice_get xs place ≡ Some x → slice_get (set xs place a) place ≡ Some a
  set_there [] place x a e = absurd cc
  set_there (y ∷ ys) zero x a e = refl
  set_there (y ∷ ys) (suc place) x a e = set_there ys place x a e

  set_elsewhere : (xs : List A) (place other : ℕ) (a : A) → other ≢ place → slice_get (set xs place a) other ≡ slice_get xs other
  set_elsewhere [] place other a apart = refl
  set_elsewhere (y ∷ ys) zero zero a apart = absurd (apart refl)
  set_elsewhere (y ∷ ys) zero (suc other) a apart = refl
  set_elsewhere (y ∷ ys) (suc place) zero a apart = refl
  set_elsewhere (y ∷ ys) (suc place) (suc other) a apart = set_elsewhere ys place other a (λ e. apart (ap suc e))

  one_at : (xs : List A) (place other : ℕ) (x y : A) → other ≡ place → slice_get xs place ≡ Some x → slice_get xs other ≡ Some y → x ≡ y
  one_at xs place other x y same at there = let both : Some x ≡ Some y = sym at ∙ ap (slice_get xs) (sym same) ∙ there in cc

-- ---- what holds along a run
-- the operations are below the clock, and were issued
abbrev AllKnown : ℕ → List Op → List Op → Type 0
AllKnown clock issued os = (o : Op) → Contains os o → WasNext clock o × Contains issued o

-- a node that is not behind it has issued the operation
record WasIssued (nodes : List Knowledge) (o : Op) : Type 0 where
  place : ℕ
  knows : Knowledge
  at : slice_get nodes place ≡ Some knows
  node : o.stamp.node ≡ suc place
  within : o.stamp.counter ≤ knows.clock
  own : IsRegister o.what → o.reg ≡ o.stamp

abbrev AreDistinct : List Op → Type 0
AreDistinct [] = Unit {0}
AreDistinct (o ∷ os) = ((p : Op) → Contains os p → o.stamp ≢ p.stamp) × AreDistinct os

record Invariant (h : History) : Type 0 where
  nodes : (place : ℕ) (k : Knowledge) → slice_get h.nodes place ≡ Some k → (k.number ≡ suc place) × AllKnown k.clock h.issued k.operations
  messages : (m : Message) → Contains h.messages m → AllKnown m.delta.clock h.issued m.operations
  issued : (o : Op) → Contains h.issued o → WasIssued h.nodes o
  distinct : AreDistinct h.issued

-- ---- before the first event
numbered_at : (first more place : ℕ) (k : Knowledge) → slice_get (numbered_from first more) place ≡ Some k → k ≡ knows_nothing (first + place)
numbered_at first zero place k e = absurd cc
numbered_at first (suc more) zero k e = let here : knows_nothing first ≡ k = cc in sym here ∙ ap knows_nothing (omega arith)
numbered_at first (suc more) (suc place) k e = numbered_at (first + 1) more place k e ∙ ap knows_nothing (omega arith)

begun_holds : (count : ℕ) → Invariant (begun count)
begun_holds count = record {
  nodes = λ place k e.
      let is = numbered_at 1 count place k e in
      (ap (λ (x : Knowledge). x.number) is ∙ omega arith, λ o there. none_there o (subst (λ (x : Knowledge). Contains x.operations o) is there));
  messages = λ m there. none_there m there;
  issued = λ o there. none_there o there;
  distinct = tt;
}

-- ---- what a node does
-- what is left keeps to what is known, and what it issues is fresh
record Moves (h : History) (k : Knowledge) (left : Left) : Type 0 where
  number : left.knows.number ≡ k.number
  clock : k.clock ≤ left.knows.clock
  knows : AllKnown left.knows.clock (noted left.operation h.issued) left.knows.operations
  messages : (m : Message) → Contains left.messages m → AllKnown m.delta.clock (noted left.operation h.issued) m.operations
  fresh : IfSome left.operation (λ o. IsFresh k o × (k.clock < left.knows.clock))

among_about : (es : List (List ℕ)) (os : List Op) (o : Op) → Contains (about es os) o → Contains os o
among_about es os o there = All-contains (Contains os) (about es os) o (All-filter _ (Contains os) os (All-contains_itself os)) there

module _ (h : History) (holds : Invariant h) (place : ℕ) (k : Knowledge) (at : slice_get h.nodes place ≡ Some k) where
  known : AllKnown k.clock h.issued k.operations
  known = (holds.nodes place k at).1

  moves_idle : (left : Left) → left ≡ idle h.messages k → Moves h k left
  moves_idle left e = subst (Moves h k) (sym e) (record { number = refl; clock = omega arith; knows = known; messages = holds.messages; fresh = tt })

  moves_issued : (operation : Option Op) (knows : Knowledge) (messages : List Message) → IfSome operation (IsFresh k) → IssuesOr k operation knows → messages ≡ h.messages
      → Moves h k (record { operation = operation; knows = knows; messages = messages })
  moves_issued None knows messages fresh same are = moves_idle _ (λ i. record { operation = None; knows = same i; messages = are i })
  moves_issued (Some o) knows messages fresh issues are = record {
    number = issues.number;
    clock = (let e = issues.clock in omega (arith, e));
    knows = λ p there. learnt p (there_or_first o k.operations p (subst (λ os. Contains os p) issues.operations there));
    messages = λ m there p of. let x = holds.messages m (subst (λ ms. Contains ms m) are there) p of in (x.0, more_there o h.issued p x.1);
    fresh = (fresh, (let e = issues.clock in omega (arith, e)));
  }
    where
      learnt : (p : Op) → (p ≡ o) ⊎ Contains k.operations p → WasNext knows.clock p × Contains (o ∷ h.issued) p
      learnt p (inl same) = (
        subst (WasNext knows.clock) (sym same) (record { before = k.clock; below = (let e = issues.clock in omega (arith, e)); next = fresh.next }),
        first_there o h.issued p same,
      )
      learnt p (inr there) =
          let x = known p there in
          (was_before k.clock knows.clock (let e = issues.clock in omega (arith, e)) p x.0, more_there o h.issued p x.1)

  moves_issuing : (operation : Option Op) (left : Left) → IfSome operation (IsFresh k) → Issuing h.messages k operation left → Moves h k left
  moves_issuing operation left fresh i =
      subst (Moves h k) {x = record { operation = operation; knows = left.knows; messages = left.messages }} (λ j. record { operation = sym i.issued j; knows = left.knows; messages = left.messages })
      (moves_issued operation left.knows left.messages fresh i.known i.messages_are)

  moves_sent : (since : ℕ) (sending : Sending) (left : Left) → Sends h.messages k since sending left → Moves h k left
  moves_sent since sending left s = subst (Moves h k) (sym s.left_is) (record { number = refl; clock = omega arith; knows = known; messages = λ m there. sent m (Contains-push_cases h.messages new m there); fresh = tt })
    where
      new : Message
      new = record { delta = s.delta; operations = about (names_of s.delta.slots) k.operations }

      sent : (m : Message) → Contains h.messages m ⊎ (new ≡ m) → AllKnown m.delta.clock h.issued m.operations
      sent m (inl old) = holds.messages m old
      sent m (inr same) = subst (λ (x : Message). AllKnown x.delta.clock h.issued x.operations) same (λ o of.
          let x = known o (among_about (names_of s.delta.slots) k.operations o of) in
          (subst (λ clock. WasNext clock o) (sym s.clock) x.0, x.1))

  moves_delivered : (m : Message) → Contains h.messages m → (operations : List Op) → ((o : Op) → Contains operations o → Contains m.operations o)
      → (left : Left) → Delivers h.messages k m.delta.clock operations left → Moves h k left
  moves_delivered m there operations of left d =
      subst (Moves h k) {x = record { operation = None; knows = left.knows; messages = h.messages }} (λ i. record { operation = sym d.none i; knows = left.knows; messages = sym d.messages_are i }) (record {
        number = d.gains.number;
        clock = (let e = d.gains.clock_is in omega (arith, e));
        knows = λ o have. gained o (Contains-append_cases operations k.operations o (subst (λ os. Contains os o) d.gains.operations_are have));
        messages = holds.messages;
        fresh = tt;
      })
    where
      gained : (o : Op) → Contains operations o ⊎ Contains k.operations o → WasNext left.knows.clock o × Contains h.issued o
      gained o (inl new) = let x = holds.messages m there o (of o new) in (was_before m.delta.clock left.knows.clock (let e = d.gains.clock_is in omega (arith, e)) o x.0, x.1)
      gained o (inr old) = let x = known o old in (was_before k.clock left.knows.clock (let e = d.gains.clock_is in omega (arith, e)) o x.0, x.1)

  moves_brought : (m : Message) → Contains h.messages m → (outcome : Result ℕ MergeFault) (left : Left) → Delivered h.messages k m outcome left → Moves h k left
  moves_brought m there (Ok count) left d = moves_delivered m there m.operations (λ o have. have) left d.1
  moves_brought m there (Err (NoMemory joined)) left d = moves_delivered m there (about _ m.operations) (λ o have. among_about _ m.operations o have) left d.1
  moves_brought m there (Err (Malformed fault)) left d = absurd d

  moves_commanded : (Meant : Result (Request × Op) Refused → Type 0) → ((request : Request) (o : Op) → Meant (Ok (request, o)) → IsFresh k o)
      → (outcome : Result OutgoingContent ObserveFault) (left : Left) → Sent Meant (λ operation. Issuing h.messages k operation left) outcome → Moves h k left
  moves_commanded Meant fresh (Ok outgoing) left s = moves_issuing (Some s.operation) left (fresh s.request s.operation s.meant) s.left
  moves_commanded Meant fresh (Err faults.NotFound) left s = moves_issuing None left tt s.1
  moves_commanded Meant fresh (Err faults.ClockEnd) left s = moves_issuing None left tt s.1
  moves_commanded Meant fresh (Err faults.NoMemory) left s = moves_issuing None left tt s.1

  moves_swept : (Meant : Result (Option Op) Refused → Type 0) → ((o : Op) → Meant (Ok (Some o)) → IsFresh k o)
      → (outcome : Result (Option Stamp) NoStamp) (left : Left) → Swept Meant (λ operation. Issuing h.messages k operation left) outcome → Moves h k left
  moves_swept Meant fresh (Ok (Some id)) left s = moves_issuing (Some s.0) left (fresh s.0 s.1) s.3
  moves_swept Meant fresh (Ok None) left s = moves_issuing None left tt s.1
  moves_swept Meant fresh (Err ended) left s = moves_issuing None left tt s.1

  each : (o : Op) → Contains k.operations o → WasNext k.clock o
  each o there = (known o there).0

  moves : (action : Action) (outcome : Outcome) (left : Left) → Acts h.messages k action outcome left → Moves h k left
  moves (actions.Take now source bytes) (outcomes.Taken (Ok taken)) left acts =
      moves_issuing acts.operation left (taken_fresh k (ms_of now) each source bytes _ acts.meant) acts.left
  moves (actions.Take now source bytes) (outcomes.Taken (Err refused)) left acts = moves_issuing None left tt acts.1
  moves (actions.Observe now id path accept mid) (outcomes.Observed outcome) left acts =
      moves_commanded (ObserveMeans (issuer_of k (ms_of now)) (left_by k.operations) id path accept mid) (observe_fresh k (ms_of now) each id path accept mid) outcome left acts
  moves (actions.Cancel now token mid) (outcomes.Cancelled outcome) left acts =
      moves_commanded (CancelMeans (issuer_of k (ms_of now)) (left_by k.operations) token mid) (cancel_fresh k (ms_of now) each token mid) outcome left acts
  moves (actions.Sweep now) (outcomes.Swept outcome) left acts =
      moves_swept (SweepMeans (issuer_of k (ms_of now)) (left_by k.operations)) (sweep_fresh k (ms_of now) each) outcome left acts
  moves (actions.Ask now question) (outcomes.Answered outcome) left acts = moves_issuing None left tt acts.1
  moves (actions.Send since) (outcomes.Sent (Ok sending)) left acts = moves_sent since sending left acts
  moves (actions.Send since) (outcomes.Sent (Err refused)) left acts = moves_idle left acts
  moves (actions.Deliver number) (outcomes.Delivered outcome) left acts = moves_brought acts.0 (there_at h.messages number acts.0 acts.1) outcome left acts.2
  moves (actions.Deliver number) outcomes.NoSuchMessage left acts = moves_idle left acts.1
  moves _ _ left acts = absurd acts

  -- ---- the history afterwards
  module _ (left : Left) (m : Moves h k left) where
    nodes_after : (other : ℕ) (j : Knowledge) → slice_get (set h.nodes place left.knows) other ≡ Some j → (j.number ≡ suc other) × AllKnown j.clock (noted left.operation h.issued) j.operations
    nodes_after other j is = go (cases_eq other place)
      where
        more : (operation : Option Op) (o : Op) → Contains h.issued o → Contains (noted operation h.issued) o
        more None o there = there
        more (Some p) o there = more_there p h.issued o there

        go : (other ≡ place) ⊎ (other ≡ place → ⊥) → (j.number ≡ suc other) × AllKnown j.clock (noted left.operation h.issued) j.operations
        go (inl same) =
            let new : left.knows ≡ j = one_at (set h.nodes place left.knows) place other left.knows j same (set_there h.nodes place k left.knows at) is in
            subst (λ (x : Knowledge). (x.number ≡ suc other) × AllKnown x.clock (noted left.operation h.issued) x.operations) new
            (m.number ∙ (holds.nodes place k at).0 ∙ ap suc (sym same), m.knows)
        go (inr apart) =
            let old = holds.nodes other j (sym (set_elsewhere h.nodes place other left.knows apart) ∙ is) in
            (old.0, λ o there. let x = old.1 o there in (x.0, more left.operation o x.1))

    issued_after : (o : Op) → WasIssued h.nodes o → WasIssued (set h.nodes place left.knows) o
    issued_after o was = go (cases_eq was.place place)
      where
        go : (was.place ≡ place) ⊎ (was.place ≡ place → ⊥) → WasIssued (set h.nodes place left.knows) o
        go (inl same) =
            let one : k ≡ was.knows = one_at h.nodes place was.place k was.knows same at was.at in
            let below : o.stamp.counter ≤ k.clock = subst (λ (x : Knowledge). o.stamp.counter ≤ x.clock) (sym one) was.within in
            let le = m.clock in
            record { place = place; knows = left.knows; at = set_there h.nodes place k left.knows at; node = was.node ∙ ap suc same; within = omega (arith, below, le); own = was.own }
        go (inr apart) = record {
          place = was.place;
          knows = was.knows;
          at = set_elsewhere h.nodes place was.place left.knows apart ∙ was.at;
          node = was.node;
          within = was.within;
          own = was.own;
        }

    -- what is fresh has a stamp that no other has
    fresh_differs : (o : Op) → IsFresh k o → (p : Op) → WasIssued h.nodes p → o.stamp ≢ p.stamp
    fresh_differs o fresh p was same =
        let nodes : suc was.place ≡ suc place = sym was.node ∙ sym (ap (λ (s : Stamp). s.node) same) ∙ fresh.node ∙ (holds.nodes place k at).0 in
        let one : k ≡ was.knows = one_at h.nodes place was.place k was.knows (omega (arith, nodes)) at was.at in
        let below : p.stamp.counter ≤ k.clock = subst (λ (x : Knowledge). p.stamp.counter ≤ x.clock) (sym one) was.within in
        let counter : p.stamp.counter ≡ k.clock + 1 = sym (ap (λ (s : Stamp). s.counter) same) ∙ fresh.next.next in
        omega (arith, below, counter)

    noted_issued : (operation : Option Op) → IfSome operation (λ o. IsFresh k o × (k.clock < left.knows.clock)) → (o : Op) → Contains (noted operation h.issued) o → WasIssued (set h.nodes place left.knows) o
    noted_issued None fresh o there = issued_after o (holds.issued o there)
    noted_issued (Some p) fresh o there = go (there_or_first p h.issued o there)
      where
        new : WasIssued (set h.nodes place left.knows) p
        new =
            let counter = fresh.0.next.next in
            let lt = fresh.1 in
            record {
              place = place;
              knows = left.knows;
              at = set_there h.nodes place k left.knows at;
              node = fresh.0.node ∙ (holds.nodes place k at).0;
              within = omega (arith, counter, lt);
              own = fresh.0.own;
            }

        go : (o ≡ p) ⊎ Contains h.issued o → WasIssued (set h.nodes place left.knows) o
        go (inl same) = subst (WasIssued (set h.nodes place left.knows)) (sym same) new
        go (inr there) = issued_after o (holds.issued o there)

    noted_distinct : (operation : Option Op) → IfSome operation (λ o. IsFresh k o × (k.clock < left.knows.clock)) → AreDistinct (noted operation h.issued)
    noted_distinct None fresh = holds.distinct
    noted_distinct (Some o) fresh = (λ p there. fresh_differs o fresh.0 p (holds.issued p there), holds.distinct)

    moved : Invariant (after h (suc place) left)
    moved = record {
      nodes = nodes_after;
      messages = m.messages;
      issued = noted_issued left.operation m.fresh;
      distinct = noted_distinct left.operation m.fresh;
    }

-- ---- events
happened : (old : History) (event : Event) (outcome : Outcome) (new : History) → Happens old event outcome new → Invariant old → Invariant new
happened old event outcome new happens holds = subst Invariant (sym happens.new_is) (go event.node happens.is)
  where
    go : (number : ℕ) → at_number old.nodes number ≡ Some happens.knows → Invariant (after old number happens.left)
    go zero is = absurd cc
    go (suc place) is = moved old holds place happens.knows is happens.left (moves old holds place happens.knows is event.action outcome happens.left happens.acts)

stepped : (old : History) (event : Event) (outcome : Outcome) (new : History) → Steps old event outcome new → Invariant old → Invariant new
stepped old event outcomes.NoSuchNode new step holds = subst Invariant (sym step.1) holds
stepped old event (outcomes.Taken r) new step holds = happened old event _ new step holds
stepped old event (outcomes.Observed r) new step holds = happened old event _ new step holds
stepped old event (outcomes.Cancelled r) new step holds = happened old event _ new step holds
stepped old event (outcomes.Swept r) new step holds = happened old event _ new step holds
stepped old event (outcomes.Answered r) new step holds = happened old event _ new step holds
stepped old event (outcomes.Sent r) new step holds = happened old event _ new step holds
stepped old event (outcomes.Delivered r) new step holds = happened old event _ new step holds
stepped old event outcomes.NoSuchMessage new step holds = happened old event _ new step holds

ran : (events : List Event) (outs : List Outcome) (old new : History) → Runs old events outs new → Invariant old → Invariant new
ran [] [] old new run holds = subst Invariant (sym run) holds
ran (e ∷ es) (o ∷ os) old new run holds = ran es os run.0 new run.2 (stepped old e o run.0 run.1 holds)
ran [] (o ∷ os) old new run holds = absurd run
ran (e ∷ es) [] old new run holds = absurd run

reached : (count : ℕ) (h : History) → IsReached count h → Invariant h
reached count h r = ran r.events r.outcomes (begun count) h r.runs (begun_holds count)

-- ---- the laws
at_place : (h : History) → Invariant h → (number : ℕ) (k : Knowledge) → at_number h.nodes number ≡ Some k → AllKnown k.clock h.issued k.operations
at_place h holds zero k is = absurd cc
at_place h holds (suc place) k is = (holds.nodes place k is).1

pub clocks_lead : ClocksLead
clocks_lead count h r number k is o there = was_within k.clock o (at_place h (reached count h r) number k is o there).0

all_pairs : (os : List Op) → AreDistinct os → AllPairs (λ (o p : Op). o.stamp ≢ p.stamp) os
all_pairs [] d = λ i j x lt within. absurd (omega (arith, lt, within))
all_pairs (o ∷ os) d = AllPairs-cons (λ (o p : Op). o.stamp ≢ p.stamp) o os (All-weaker (Contains os) (λ p. o.stamp ≢ p.stamp) d.0 os (All-contains_itself os)) (all_pairs os d.1)

pub stamps_differ : StampsDiffer
stamps_differ count h r = all_pairs h.issued (reached count h r).distinct

one_of : (os : List Op) (a b : Op) → AreDistinct os → Contains os a → Contains os b → a.stamp ≡ b.stamp → a ≡ b
one_of [] a b d there here same = none_there a there
one_of (o ∷ os) a b d there here same = go (there_or_first o os a there) (there_or_first o os b here) (λ p q. one_of os a b d.1 p q same)
  where
    go : (a ≡ o) ⊎ Contains os a → (b ≡ o) ⊎ Contains os b → (Contains os a → Contains os b → a ≡ b) → a ≡ b
    go (inl p) (inl q) rest = p ∙ sym q
    go (inl p) (inr q) rest = absurd (d.0 b q (ap (λ (x : Op). x.stamp) (sym p) ∙ same))
    go (inr p) (inl q) rest = absurd (d.0 a p (ap (λ (x : Op). x.stamp) (sym q) ∙ sym same))
    go (inr p) (inr q) rest = rest p q

pub known_was_issued : KnownWasIssued
known_was_issued count h r number k is =
    let holds = reached count h r in
    let from : (o : Op) → Contains k.operations o → Contains h.issued o = λ o there. (at_place h holds number k is o there).1 in
    record {
      known = from;
      stamped = record {
        one = λ a b there here same. one_of h.issued a b holds.distinct (from a there) (from b here) same;
        own = λ o there. (holds.issued o (from o there)).own;
      };
    }
