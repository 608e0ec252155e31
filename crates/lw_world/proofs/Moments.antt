-- The moments of a run: what lasts from one to each later one, and what holds of each.
use Rattle.std.proofs.Common.{◌≡◌, ℕ, zero, suc, ◌+◌, ◌≤◌, List, [], ◌∷◌, ◌++◌, length, take, drop, set, Option, Some, None, Result, Ok, Err, sym, refl, ap, ◌∙◌, subst, arith, inl, inr, ◌⊎◌}
use Rattle.std.specs.Prelude.{slice_get}
use Rattle.lw_stamp.specs.declared.stamp.Stamp.{Stamp}
use Rattle.lw_stamp.specs.Moment.{ms_of}
use Rattle.lw_reg.specs.declared.op.Op.{Op}
use Rattle.lw_reg.specs.Marks.{left_by}
use Rattle.lw_reg.proofs.Members.{none_there}
use Rattle.lw_call.specs.declared.clock_end.ClockEnd.{ClockEnd as NoStamp}
use Rattle.lw_call.specs.declared.merge_fault.MergeFault.{MergeFault}
use Rattle.lw_call.specs.declared.merge_fault.MergeFault.TheVariants.{Malformed, NoMemory}
use Rattle.lw_call.specs.declared.observe_fault.ObserveFault.{ObserveFault}
use Rattle.lw_call.specs.declared.observe_fault.ObserveFault.TheVariants as faults
use Rattle.lw_call.specs.Contents.{OutgoingContent}
use Rattle.lw_node.specs.Calls.{Sent, Swept}
use Rattle.lw_node.specs.Effects.{Request, Refused, SweepMeans}
use Rattle.lw_world.specs.declared.event.Action.{Action}
use Rattle.lw_world.specs.declared.event.Action.TheVariants as actions
use Rattle.lw_world.specs.declared.event.Event.{Event}
use Rattle.lw_world.specs.declared.outcome.Outcome.{Outcome}
use Rattle.lw_world.specs.declared.outcome.Outcome.TheVariants as outcomes
use Rattle.lw_world.specs.declared.outcome.Sending.{Sending}
use Rattle.lw_world.specs.Known.{Knowledge, Message, knows_nothing, IssuesOr, about, names_of}
use Rattle.lw_world.specs.inner.Known.{issuer_of}
use Rattle.lw_world.specs.Run.{History, Left, idle, Issuing, Delivers, Delivered, Sends, Acts, Happens, Steps, Runs, at_number, with_node, after, begun, numbered_from}
use Rattle.lw_world.specs.inner.Sound.{IsSound, AreSound}
use Rattle.lw_world.proofs.Lasting.{IsCounted, Learns, Lasts, lasts_itself, lasts_then, learns_lasts, learns_counted, nothing_counted}
use Rattle.lw_world.proofs.Making.{all_sound}

-- ---- what a node does
-- it knows the same, or more
abbrev pub Follows : Knowledge → Knowledge → Type 0
Follows k l = (l ≡ k) ⊎ Learns k l

-- there are the same messages, or one more
abbrev pub Appends : List Message → List Message → Type 0
Appends old new = (new ≡ old) ⊎ ((m : Message) × IsSound m × (new ≡ old ++ m ∷ []))

pub record Leaves (messages : List Message) (k : Knowledge) (left : Left) : Type 0 where
  pub knows : Follows k left.knows
  pub messages_are : Appends messages left.messages

idle_leaves : (messages : List Message) (k : Knowledge) (left : Left) → left ≡ idle messages k → Leaves messages k left
idle_leaves messages k left is = record { knows = inl (ap (λ (l : Left). l.knows) is); messages_are = inl (ap (λ (l : Left). l.messages) is) }

issued_follows : (k new : Knowledge) (operation : Option Op) → IssuesOr k operation new → Follows k new
issued_follows k new None same = inl same
issued_follows k new (Some o) issues = inr (record { more = o ∷ []; operations = issues.operations; clock = let next = issues.clock in omega (arith, next); count = issues.count })

issuing_leaves : (messages : List Message) (k : Knowledge) (operation : Option Op) (left : Left) → Issuing messages k operation left → Leaves messages k left
issuing_leaves messages k operation left h = record { knows = issued_follows k left.knows operation h.known; messages_are = inl h.messages_are }

sent_leaves : (Meant : Result (Request × Op) Refused → Type 0) (messages : List Message) (k : Knowledge) (outcome : Result OutgoingContent ObserveFault) (left : Left) → Sent Meant (λ operation. Issuing messages k operation left) outcome → Leaves messages k left
sent_leaves Meant messages k (Ok outgoing) left h = issuing_leaves messages k (Some h.operation) left h.left
sent_leaves Meant messages k (Err faults.NotFound) left h = issuing_leaves messages k None left h.1
sent_leaves Meant messages k (Err faults.ClockEnd) left h = issuing_leaves messages k None left h.1
sent_leaves Meant messages k (Err faults.NoMemory) left h = issuing_leaves messages k None left h.1

swept_leaves : (Meant : Result (Option Op) Refused → Type 0) (messages : List Message) (k : Knowledge) (outcome : Result (Option Stamp) NoStamp) (left : Left) → Swept Meant (λ operation. Issuing messages k operation left) outcome → Leaves messages k left
swept_leaves Meant messages k (Ok (Some id)) left h = issuing_leaves messages k (Some h.0) left h.3
swept_leaves Meant messages k (Ok None) left h = issuing_leaves messages k None left h.1
swept_leaves Meant messages k (Err ended) left h = issuing_leaves messages k None left h.1

delivers_leaves : (messages : List Message) (k : Knowledge) (clock : ℕ) (operations : List Op) (left : Left) → Delivers messages k clock operations left → Leaves messages k left
delivers_leaves messages k clock operations left h =
    record {
      knows = inr (record { more = operations; operations = h.gains.operations_are; clock = let greater = h.gains.clock_is in omega (arith, greater); count = h.gains.count });
      messages_are = inl h.messages_are;
    }

delivered_leaves : (messages : List Message) (k : Knowledge) (m : Message) (outcome : Result ℕ MergeFault) (left : Left) → Delivered messages k m outcome left → Leaves messages k left
delivered_leaves messages k m (Ok count) left h = delivers_leaves messages k m.delta.clock m.operations left h.1
delivered_leaves messages k m (Err (NoMemory joined)) left h = delivers_leaves messages k m.delta.clock (about (names_of (take joined m.delta.slots)) m.operations) left h.1
delivered_leaves messages k m (Err (Malformed fault)) left h = absurd h

-- the message that is sent
abbrev pub message_of : {messages : List Message} {k : Knowledge} {since : ℕ} {sending : Sending} {left : Left} → Sends messages k since sending left → Message
message_of {k = k} s = record { delta = s.delta; operations = about (names_of s.delta.slots) k.operations }

sent_sound : (messages : List Message) (k : Knowledge) (since : ℕ) (sending : Sending) (left : Left) (s : Sends messages k since sending left) → IsSound (message_of s)
sent_sound messages k since sending left s =
    record { known = k.operations; operations_are = refl; slots = λ e slot there. ((s.slots.members e slot).0 there).0; spelled = s.spelled }

acts_leaves : (messages : List Message) (k : Knowledge) (action : Action) (outcome : Outcome) (left : Left) → Acts messages k action outcome left → Leaves messages k left
acts_leaves messages k (actions.Take now source bytes) (outcomes.Taken (Ok taken)) left h = issuing_leaves messages k h.operation left h.left
acts_leaves messages k (actions.Take now source bytes) (outcomes.Taken (Err refused)) left h = issuing_leaves messages k None left h.1
acts_leaves messages k (actions.Observe now id path accept mid) (outcomes.Observed outcome) left h = sent_leaves _ messages k outcome left h
acts_leaves messages k (actions.Cancel now token mid) (outcomes.Cancelled outcome) left h = sent_leaves _ messages k outcome left h
acts_leaves messages k (actions.Sweep now) (outcomes.Swept outcome) left h = swept_leaves (SweepMeans (issuer_of k (ms_of now)) (left_by k.operations)) messages k outcome left h
acts_leaves messages k (actions.Ask now question) (outcomes.Answered outcome) left h = issuing_leaves messages k None left h.1
acts_leaves messages k (actions.Send since) (outcomes.Sent (Ok sending)) left h = record {
  knows = inl (ap (λ (l : Left). l.knows) h.left_is);
  messages_are = inr (message_of h, sent_sound messages k since sending left h, ap (λ (l : Left). l.messages) h.left_is);
}
acts_leaves messages k (actions.Send since) (outcomes.Sent (Err refused)) left h = idle_leaves messages k left h
acts_leaves messages k (actions.Deliver number) (outcomes.Delivered outcome) left h = delivered_leaves messages k h.0 outcome left h.2
acts_leaves messages k (actions.Deliver number) outcomes.NoSuchMessage left h = idle_leaves messages k left h.1
acts_leaves messages k _ _ left h = absurd h

-- ---- lists
pub some_one : {A : Type 0} (a b : A) → ◌≡◌ {A = Option A} (Some a) (Some b) → a ≡ b
some_one a b h = cc

set_at : {A : Type 0} (xs : List A) (place : ℕ) (a : A) (other : ℕ) → (other ≡ place) ⊎ (slice_get (set xs place a) other ≡ slice_get xs other)
set_at [] place a other = inr refl
set_at (x ∷ xs) zero a zero = inl refl
set_at (x ∷ xs) zero a (suc other) = inr refl
set_at (x ∷ xs) (suc place) a zero = inr refl
set_at (x ∷ xs) (suc place) a (suc other) = elim (set_at xs place a other) [ inl e ↦ inl (ap suc e) | inr e ↦ inr e ]

set_own : {A : Type 0} (xs : List A) (place : ℕ) (a x : A) → slice_get xs place ≡ Some x → slice_get (set xs place a) place ≡ Some a
set_own [] place a x at = absurd (let bad = at in cc)
set_own (y ∷ ys) zero a x at = refl
set_own (y ∷ ys) (suc place) a x at = set_own ys place a x at

with_at : (nodes : List Knowledge) (node : ℕ) (a : Knowledge) (other : ℕ) → (other ≡ node) ⊎ (at_number (with_node nodes node a) other ≡ at_number nodes other)
with_at nodes node a zero = inr refl
with_at nodes zero a (suc other) = inr refl
with_at nodes (suc place) a (suc other) = elim (set_at nodes place a other) [ inl e ↦ inl (ap suc e) | inr e ↦ inr e ]

pub with_own : (nodes : List Knowledge) (node : ℕ) (a k : Knowledge) → at_number nodes node ≡ Some k → at_number (with_node nodes node a) node ≡ Some a
with_own nodes zero a k at = absurd (let bad = at in cc)
with_own nodes (suc place) a k at = set_own nodes place a k at

still_there : (ms : List Message) (m : Message) (number : ℕ) (x : Message) → slice_get ms number ≡ Some x → slice_get (ms ++ m ∷ []) number ≡ Some x
still_there [] m number x at = absurd (let bad = at in cc)
still_there (y ∷ ys) m zero x at = at
still_there (y ∷ ys) m (suc number) x at = still_there ys m number x at

pub last_there : (ms : List Message) (m : Message) → slice_get (ms ++ m ∷ []) (length ms) ≡ Some m
last_there [] m = refl
last_there (y ∷ ys) m = last_there ys m

-- ---- a step
-- each node is there still, what it knew lasts, and each message keeps its number
pub record Goes (old new : History) : Type 0 where
  pub nodes : (number : ℕ) (k : Knowledge) → at_number old.nodes number ≡ Some k → (l : Knowledge) × (at_number new.nodes number ≡ Some l) × Lasts k l
  pub messages : (number : ℕ) (m : Message) → slice_get old.messages number ≡ Some m → slice_get new.messages number ≡ Some m

pub record IsGood (h : History) : Type 0 where
  pub counted : (number : ℕ) (k : Knowledge) → at_number h.nodes number ≡ Some k → IsCounted k
  pub sound : AreSound h.messages

goes_itself : (h : History) → Goes h h
goes_itself h = record { nodes = λ number k at. (k, at, lasts_itself k); messages = λ number m at. at }

goes_then : (old mid new : History) → Goes old mid → Goes mid new → Goes old new
goes_then old mid new one two = record {
  nodes = λ number k at.
      let l = one.nodes number k at in
      let m = two.nodes number l.0 l.1 in
      (m.0, m.1, lasts_then k l.0 m.0 l.2 m.2);
  messages = λ number m at. two.messages number m (one.messages number m at);
}

follows_lasts : (k l : Knowledge) → IsCounted k → Follows k l → Lasts k l
follows_lasts k l counted (inl same) = subst (Lasts k) (sym same) (lasts_itself k)
follows_lasts k l counted (inr learns) = learns_lasts k l learns counted.last

follows_counted : (k l : Knowledge) → IsCounted k → Follows k l → IsCounted l
follows_counted k l counted (inl same) = subst IsCounted (sym same) counted
follows_counted k l counted (inr learns) = learns_counted k l learns counted

appends_keeps : (old new : List Message) → Appends old new → (number : ℕ) (x : Message) → slice_get old number ≡ Some x → slice_get new number ≡ Some x
appends_keeps old new (inl same) number x at = ap (λ (ms : List Message). slice_get ms number) same ∙ at
appends_keeps old new (inr more) number x at = ap (λ (ms : List Message). slice_get ms number) more.2 ∙ still_there old more.0 number x at

appends_sound : (old new : List Message) → Appends old new → AreSound old → AreSound new
appends_sound old new (inl same) sound = subst AreSound (sym same) sound
appends_sound old new (inr more) sound = subst AreSound (sym more.2) (all_sound old more.0 sound more.1)

module _ (old : History) (good : IsGood old) (node : ℕ) (k : Knowledge) (at : at_number old.nodes node ≡ Some k) (left : Left) (leaves : Leaves old.messages k left) where
  after_goes : Goes old (after old node left)
  after_goes = record {
    nodes = λ number j there. each number j there (with_at old.nodes node left.knows number);
    messages = appends_keeps old.messages left.messages leaves.messages_are;
  }
    where
      each : (number : ℕ) (j : Knowledge) → at_number old.nodes number ≡ Some j → (number ≡ node) ⊎ (at_number (with_node old.nodes node left.knows) number ≡ at_number old.nodes number)
          → (l : Knowledge) × (at_number (with_node old.nodes node left.knows) number ≡ Some l) × Lasts j l
      each number j there (inl own) =
          let same : k ≡ j = some_one k j (sym at ∙ ap (at_number old.nodes) (sym own) ∙ there) in (
            left.knows,
            ap (at_number (with_node old.nodes node left.knows)) own ∙ with_own old.nodes node left.knows k at,
            subst (λ (x : Knowledge). Lasts x left.knows) same (follows_lasts k left.knows (good.counted node k at) leaves.knows),
          )
      each number j there (inr other) = (j, other ∙ there, lasts_itself j)

  after_good : IsGood (after old node left)
  after_good = record {
    counted = λ number j there. each number j there (with_at old.nodes node left.knows number);
    sound = appends_sound old.messages left.messages leaves.messages_are good.sound;
  }
    where
      each : (number : ℕ) (j : Knowledge) → at_number (with_node old.nodes node left.knows) number ≡ Some j → (number ≡ node) ⊎ (at_number (with_node old.nodes node left.knows) number ≡ at_number old.nodes number)
          → IsCounted j
      each number j there (inl own) =
          let same : left.knows ≡ j = some_one left.knows j (sym (with_own old.nodes node left.knows k at) ∙ ap (at_number (with_node old.nodes node left.knows)) (sym own) ∙ there) in
          subst IsCounted same (follows_counted k left.knows (good.counted node k at) leaves.knows)
      each number j there (inr other) = good.counted number j (sym other ∙ there)

happens_goes : (old : History) (event : Event) (outcome : Outcome) (new : History) → IsGood old → Happens old event outcome new → Goes old new × IsGood new
happens_goes old event outcome new good h =
    let leaves = acts_leaves old.messages h.knows event.action outcome h.left h.acts in (
      subst (Goes old) (sym h.new_is) (after_goes old good event.node h.knows h.is h.left leaves),
      subst IsGood (sym h.new_is) (after_good old good event.node h.knows h.is h.left leaves),
    )

steps_goes : (old : History) (event : Event) (outcome : Outcome) (new : History) → IsGood old → Steps old event outcome new → Goes old new × IsGood new
steps_goes old event outcomes.NoSuchNode new good h = (subst (Goes old) (sym h.1) (goes_itself old), subst IsGood (sym h.1) good)
steps_goes old event outcome new good h = happens_goes old event outcome new good h

-- before the first event
fresh_counted : (first count place : ℕ) (k : Knowledge) → slice_get (numbered_from first count) place ≡ Some k → IsCounted k
fresh_counted first zero place k at = absurd (let bad = at in cc)
fresh_counted first (suc more) zero k at = subst IsCounted (some_one (knows_nothing first) k at) (nothing_counted first)
fresh_counted first (suc more) (suc place) k at = fresh_counted (first + 1) more place k at

pub begun_good : (count : ℕ) → IsGood (begun count)
begun_good count = record { counted = each; sound = λ m there. none_there m there }
  where
    each : (number : ℕ) (k : Knowledge) → at_number (numbered_from 1 count) number ≡ Some k → IsCounted k
    each zero k at = absurd (let bad = at in cc)
    each (suc place) k at = fresh_counted 1 count place k at

-- ---- a run
pub record Moments (begin : History) (events : List Event) (outcomes : List Outcome) (end : History) : Type 0 where
  pub at : ℕ → History
  pub first : at 0 ≡ begin
  pub steps : (place : ℕ) (event : Event) (outcome : Outcome) → slice_get events place ≡ Some event → slice_get outcomes place ≡ Some outcome → Steps (at place) event outcome (at (suc place))
  pub goes : (i j : ℕ) → i ≤ j → Goes (at i) (at j)
  pub ends : (i : ℕ) → Goes (at i) end
  pub good : (i : ℕ) → IsGood (at i)
  pub good_end : IsGood end

still : (begin end : History) → IsGood end → end ≡ begin → Moments begin [] [] end
still begin end good same = record {
  at = λ _. end;
  first = same;
  steps = λ place event outcome at. absurd (let bad = at in cc);
  goes = λ i j before. goes_itself end;
  ends = λ i. goes_itself end;
  good = λ i. good;
  good_end = good;
}

abbrev pub one_later : {A : Type 0} → A → (ℕ → A) → ℕ → A
one_later a f zero = a
one_later a f (suc i) = f i

module _ (begin : History) (good : IsGood begin) (event : Event) (outcome : Outcome) (mid : History) (step : Steps begin event outcome mid) (es : List Event) (os : List Outcome) (end : History) (rest : Moments mid es os end) where
  into : (j : ℕ) → Goes begin (rest.at j)
  into j = goes_then begin mid (rest.at j) (steps_goes begin event outcome mid good step).0 (subst (λ (h : History). Goes h (rest.at j)) rest.first (rest.goes 0 j (omega arith)))

  step_on : (m : Moments begin (event ∷ es) (outcome ∷ os) end) × ((i : ℕ) → m.at (suc i) ≡ rest.at i)
  step_on = (
    record {
      at = one_later begin rest.at;
      first = refl;
      steps = steps;
      goes = goes;
      ends = ends;
      good = all_good;
      good_end = rest.good_end;
    },
    λ i. refl,
  )
    where
      steps : (place : ℕ) (e : Event) (o : Outcome) → slice_get (event ∷ es) place ≡ Some e → slice_get (outcome ∷ os) place ≡ Some o → Steps (one_later begin rest.at place) e o (rest.at place)
      steps zero e o is so =
          subst (λ (x : Event). Steps begin x o (rest.at 0)) (some_one event e is)
          (subst (λ (y : Outcome). Steps begin event y (rest.at 0)) (some_one outcome o so)
          (subst (λ (h : History). Steps begin event outcome h) (sym rest.first) step))
      steps (suc place) e o is so = rest.steps place e o is so

      goes : (i j : ℕ) → i ≤ j → Goes (one_later begin rest.at i) (one_later begin rest.at j)
      goes zero zero before = goes_itself begin
      goes zero (suc j) before = into j
      goes (suc i) zero before = absurd (omega (arith, before))
      goes (suc i) (suc j) before = rest.goes i j (omega (arith, before))

      ends : (i : ℕ) → Goes (one_later begin rest.at i) end
      ends zero = goes_then begin (rest.at 0) end (into 0) (rest.ends 0)
      ends (suc i) = rest.ends i

      all_good : (i : ℕ) → IsGood (one_later begin rest.at i)
      all_good zero = good
      all_good (suc i) = rest.good i

pub moments : (begin : History) (es : List Event) (os : List Outcome) (end : History) → IsGood begin → Runs begin es os end → Moments begin es os end
moments begin [] [] end good runs = still begin end (subst IsGood (sym runs) good) runs
moments begin [] (o ∷ os) end good runs = absurd runs
moments begin (e ∷ es) [] end good runs = absurd runs
moments begin (e ∷ es) (o ∷ os) end good runs =
    (step_on begin good e o runs.0 runs.1 es os end (moments runs.0 es os end (steps_goes begin e o runs.0 good runs.1).1 runs.2)).0

-- the run is at this history before the event at the place
abbrev pub Passing : History → List Event → List Outcome → ℕ → History → History → Type 0
Passing begin es os place mid end = (m : Moments begin es os end) × (m.at place ≡ mid)

pub passing : (place : ℕ) (begin : History) (es : List Event) (os : List Outcome) (mid end : History) → IsGood begin
    → Runs begin (take place es) (take place os) mid → Runs mid (drop place es) (drop place os) end → Passing begin es os place mid end
unfolding still
passing zero begin es os mid end good before rest =
    let m = moments begin es os end good (subst (λ (h : History). Runs h es os end) before rest) in
    (m, m.first ∙ sym before)
passing (suc place) begin [] [] mid end good before rest = (still begin end (subst IsGood (sym (rest ∙ before)) good) (rest ∙ before), rest)
passing (suc place) begin [] (o ∷ os) mid end good before rest = absurd before
passing (suc place) begin (e ∷ es) [] mid end good before rest = absurd before
passing (suc place) begin (e ∷ es) (o ∷ os) mid end good before rest =
    let m = passing place before.0 es os mid end (steps_goes begin e o before.0 good before.1).1 before.2 rest in
    let on = step_on begin good e o before.0 before.1 es os end m.0 in
    (on.0, on.1 place ∙ m.1)
