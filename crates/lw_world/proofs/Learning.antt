-- What a node is after a call is what it then knows.
use Rattle.std.proofs.Common.{◌≡◌, ℕ, ◌+◌, ◌<◌, true, List, [], ◌∷◌, ◌++◌, length, take, Option, Some, None, Result, Ok, Err, sym, refl, ap, ◌∙◌, subst, zero, suc, inl, inr, ◌⊎◌}
use Rattle.std.specs.Prelude.{Contains, cond, max}
use Rattle.std.specs.FinMap.{get}
use Rattle.std.proofs.lemmas.Map.Views.{list_any-from_Contains}
use Rattle.std.proofs.lemmas.Cmp.{eq_by_cmp_equiv}
use Rattle.lw_stamp.specs.declared.stamp.Stamp.{Stamp}
use Rattle.lw_reg.specs.declared.addr.Addr.{Addr}
use Rattle.lw_reg.specs.declared.op.Op.{Op}
use Rattle.lw_reg.specs.declared.slot.Slot.{Slot}
use Rattle.lw_reg.specs.Marks.{marks_of, left_by}
use Rattle.lw_reg.specs.OrderLaws.{text_order}
use Rattle.lw_reg.specs.State.{State, state_join, state_of}
use Rattle.lw_reg.proofs.Members.{none_there, first_there, more_there, there_or_first}
use Rattle.lw_reg.proofs.States.{state_laws}
use Rattle.lw_table.specs.Changes.{Recounts}
use Rattle.lw_delta.specs.Delta.{DeltaContent}
use Rattle.lw_delta.proofs.Answering.{one_delta, apart}
use Rattle.lw_call.specs.declared.clock_end.ClockEnd.{ClockEnd as NoStamp}
use Rattle.lw_call.specs.declared.merge_fault.MergeFault.{MergeFault}
use Rattle.lw_call.specs.declared.merge_fault.MergeFault.TheVariants.{Malformed, NoMemory}
use Rattle.lw_call.specs.declared.observe_fault.ObserveFault.{ObserveFault}
use Rattle.lw_call.specs.declared.observe_fault.ObserveFault.TheVariants as faults
use Rattle.lw_call.specs.Contents.{TakenContent, OutgoingContent}
use Rattle.lw_node.specs.Calls.{TakesSo, Takes, Sent, Swept}
use Rattle.lw_node.specs.Effects.{Request, Refused, DatagramMeans}
use Rattle.lw_node.specs.Exchange.{state_in, Merged, Merges}
use Rattle.lw_node.specs.Node.{NodeContent, Issued, Leaves}
use Rattle.lw_world.specs.Known.{Knowledge, Message, known_state, node_of, IssuesOr, Gains, is_among, about, names_of}
use Rattle.lw_world.specs.inner.Known.{issuer_of}
use Rattle.lw_world.specs.Run.{Left, idle, Issuing, Delivered}
use Rattle.lw_world.specs.inner.Sound.{IsSound}
use Rattle.lw_world.specs.World.{bytes_of}
use Rattle.lw_world.proofs.KnownStates.{known_more, known_append, known_about, slots_tell}

commutes : (s t : State) → state_join s t ≡ state_join t s
commutes s t =
    state_laws.antisymmetric _ _
    (state_laws.least s t (state_join t s) (state_laws.above_right t s) (state_laws.above_left t s))
    (state_laws.least t s (state_join s t) (state_laws.above_right s t) (state_laws.above_left s t))

-- ---- an operation
-- what is known after a node has changed so
pub record Learnt (k : Knowledge) (operation : Option Op) (node : NodeContent) : Type 0 where
  pub knows : Knowledge
  pub issues : IssuesOr k operation knows
  pub node_is : node ≡ node_of knows

learn : (k : Knowledge) (operation : Op) (node : NodeContent) → Issued (node_of k) operation node → Learnt k (Some operation) node
learn k operation node h = record {
  knows = record { number = k.number; clock = k.clock + 1; operations = operation ∷ k.operations; count = node.table.count };
  issues = record {
    number = refl;
    clock = refl;
    operations = refl;
    count = subst (λ s. Recounts (known_state k.operations) s k.count node.table.count) state h.count;
  };
  node_is = λ i. record { number = h.number i; clock = h.clock i; table = record { state = state i; count = node.table.count } };
}
  where
    state : node.table.state ≡ known_state (operation ∷ k.operations)
    state = h.state ∙ commutes (known_state k.operations) (state_of (marks_of operation)) ∙ sym (known_more operation k.operations)

pub learn_or : (k : Knowledge) (operation : Option Op) (node : NodeContent) → Leaves (node_of k) operation node → Learnt k operation node
learn_or k None node h = record { knows = k; issues = refl; node_is = h }
learn_or k (Some operation) node h = learn k operation node h

-- ---- a call
-- what is left of the knowledge and of the messages, and the node that is so
pub record LeftSo (messages : List Message) (node : NodeContent) (left : Left) : Type 0 where
  pub node_is : node ≡ node_of left.knows
  pub messages_are : left.messages ≡ messages

-- no operation leaves what there was
pub issues_none : (messages : List Message) (k : Knowledge) → Issuing messages k None (idle messages k)
issues_none messages k = record { issued = refl; known = refl; messages_are = refl }

-- what an operation leaves, or none
record Leaving (messages : List Message) (k : Knowledge) (operation : Option Op) (node : NodeContent) : Type 0 where
  left : Left
  issuing : Issuing messages k operation left
  so : LeftSo messages node left

leaving : (messages : List Message) (k : Knowledge) (operation : Option Op) (node : NodeContent) → Leaves (node_of k) operation node → Leaving messages k operation node
leaving messages k operation node h =
    let after : Learnt k operation node = learn_or k operation node h in record {
      left = record { operation = operation; knows = after.knows; messages = messages };
      issuing = record { issued = refl; known = after.issues; messages_are = refl };
      so = record { node_is = after.node_is; messages_are = refl };
    }

pub taken_so : (messages : List Message) (k : Knowledge) (now : ℕ) (source : Addr) (bytes : List ℕ) (taken : TakenContent) (node : NodeContent) → Takes (node_of k) (left_by k.operations) now source bytes taken node
    → (left : Left) × TakesSo (DatagramMeans (issuer_of k now) (left_by k.operations) source bytes) (λ operation. Issuing messages k operation left) taken × LeftSo messages node left
taken_so messages k now source bytes taken node t =
    let l = leaving messages k t.operation node t.left in
    (l.left, record { reply = t.reply; operation = t.operation; meant = t.meant; replied = t.replied; left = l.issuing }, l.so)

-- nothing is changed, and this holds
pub idle_so : {A : Type 0} (messages : List Message) (k : Knowledge) (node : NodeContent) → A → node ≡ node_of k → (left : Left) × (A × Issuing messages k None left) × LeftSo messages node left
idle_so messages k node a same = (idle messages k, (a, issues_none messages k), record { node_is = same; messages_are = refl })

pub commanded_so : (Meant : Result (Request × Op) Refused → Type 0) (messages : List Message) (k : Knowledge) (outcome : Result OutgoingContent ObserveFault) (node : NodeContent) → Sent Meant (λ operation. Leaves (node_of k) operation node) outcome
    → (left : Left) × Sent Meant (λ operation. Issuing messages k operation left) outcome × LeftSo messages node left
commanded_so Meant messages k (Ok outgoing) node t =
    let l = leaving messages k (Some t.operation) node t.left in
    (l.left, record { request = t.request; operation = t.operation; meant = t.meant; sent = t.sent; left = l.issuing }, l.so)
commanded_so Meant messages k (Err faults.NotFound) node t = idle_so messages k node t.0 t.1
commanded_so Meant messages k (Err faults.ClockEnd) node t = idle_so messages k node t.0 t.1
commanded_so Meant messages k (Err faults.NoMemory) node t = idle_so messages k node t.0 t.1

pub swept_so : (Meant : Result (Option Op) Refused → Type 0) (messages : List Message) (k : Knowledge) (outcome : Result (Option Stamp) NoStamp) (node : NodeContent) → Swept Meant (λ operation. Leaves (node_of k) operation node) outcome
    → (left : Left) × Swept Meant (λ operation. Issuing messages k operation left) outcome × LeftSo messages node left
swept_so Meant messages k (Ok (Some id)) node t =
    let l = leaving messages k (Some t.0) node t.3 in
    (l.left, (t.0, t.1, t.2, l.issuing), l.so)
swept_so Meant messages k (Ok None) node t = idle_so messages k node t.0 t.1
swept_so Meant messages k (Err ended) node t = idle_so messages k node t.0 t.1

-- ---- a message
gain : (k : Knowledge) (clock : ℕ) (slots : List (List ℕ × Slot)) (operations : List Op) (node : NodeContent) → state_in slots ≡ known_state operations → Merged (node_of k) clock slots node
    → (new : Knowledge) × Gains k clock operations new × (node ≡ node_of new)
gain k clock slots operations node tells h = (
  record { number = k.number; clock = max k.clock clock; operations = operations ++ k.operations; count = node.table.count },
  record {
    number = refl;
    clock_is = refl;
    operations_are = refl;
    count = subst (λ s. Recounts (known_state k.operations) s k.count node.table.count) state h.count;
  },
  λ i. record { number = h.number i; clock = h.clock_is i; table = record { state = state i; count = node.table.count } },
)
  where
    state : node.table.state ≡ known_state (operations ++ k.operations)
    state = h.state ∙ commutes (known_state k.operations) (state_in slots) ∙ ap (λ s. state_join s (known_state k.operations)) tells ∙ sym (known_append operations k.operations)

-- a name of the slots is found among them
among_names : (slots : List (List ℕ × Slot)) (e : List ℕ) (slot : Slot) → Contains slots (e, slot) → Contains (names_of slots) e
among_names [] e slot there = none_there (e, slot) there
among_names (x ∷ xs) e slot there = go (there_or_first x xs (e, slot) there) (among_names xs e slot)
  where
    go : (◌≡◌ {A = List ℕ × Slot} (e, slot) x) ⊎ Contains xs (e, slot) → (Contains xs (e, slot) → Contains (names_of xs) e) → Contains (names_of (x ∷ xs)) e
    go (inl same) more = first_there x.0 (names_of xs) e (ap (λ (y : List ℕ × Slot). y.0) same)
    go (inr later) more = more_there x.0 (names_of xs) e (more later)

in_front : (j : ℕ) (slots : List (List ℕ × Slot)) (x : List ℕ × Slot) → Contains (take j slots) x → Contains slots x
in_front zero slots x there = none_there x there
in_front (suc j) [] x there = none_there x there
in_front (suc j) (y ∷ ys) x there = go (there_or_first y (take j ys) x there) (in_front j ys x)
  where
    go : (x ≡ y) ⊎ Contains (take j ys) x → (Contains (take j ys) x → Contains ys x) → Contains (y ∷ ys) x
    go (inl same) more = first_there y ys x same
    go (inr later) more = more_there y ys x (more later)

-- the message tells what its operations do, and so do its first slots
whole_tells : (m : Message) → IsSound m → state_in m.delta.slots ≡ known_state m.operations
whole_tells m sound = slots_tell m.delta.slots sound.known sound.slots ∙ ap known_state (sym sound.operations_are)

-- its operations tell each of its slots
pub slot_told : (m : Message) → IsSound m → (e : List ℕ) (slot : Slot) → Contains m.delta.slots (e, slot) → get (known_state m.operations) e ≡ Some slot
slot_told m sound e slot there =
    let among : is_among (names_of m.delta.slots) e ≡ true = list_any-from_Contains (eq_by_cmp_equiv text_order.total) e (names_of m.delta.slots) (among_names m.delta.slots e slot there) in
    ap (λ (os : List Op). get (known_state os) e) sound.operations_are
    ∙ known_about (names_of m.delta.slots) sound.known e
    ∙ ap (λ b. cond b (get (known_state sound.known) e) None) among
    ∙ sound.slots e slot there

front_tells : (m : Message) → IsSound m → (j : ℕ) → state_in (take j m.delta.slots) ≡ known_state (about (names_of (take j m.delta.slots)) m.operations)
front_tells m sound j = slots_tell (take j m.delta.slots) m.operations (λ e slot there. slot_told m sound e slot (in_front j m.delta.slots (e, slot) there))

-- a message of a run is no malformed one
pub delivered_so : (messages : List Message) (k : Knowledge) (m : Message) → IsSound m → (outcome : Result ℕ MergeFault) (node : NodeContent) → Merges (node_of k) (bytes_of m) outcome node
    → (left : Left) × Delivered messages k m outcome left × LeftSo messages node left
delivered_so messages k m sound (Ok count) node h = go (one_delta (bytes_of m) h.delta m.delta h.spelled sound.spelled)
  where
    go : h.delta ≡ m.delta → (left : Left) × Delivered messages k m (Ok count) left × LeftSo messages node left
    go same =
        let merged : Merged (node_of k) m.delta.clock m.delta.slots node = subst (λ (d : DeltaContent). Merged (node_of k) d.clock d.slots node) same h.merged in
        let g = gain k m.delta.clock m.delta.slots m.operations node (whole_tells m sound) merged in (
          record { operation = None; knows = g.0; messages = messages },
          (h.counted ∙ ap (λ (d : DeltaContent). length d.slots) same, record { gains = g.1; none = refl; messages_are = refl }),
          record { node_is = g.2; messages_are = refl },
        )
delivered_so messages k m sound (Err (Malformed fault)) node h = absurd (apart (bytes_of m) m.delta fault sound.spelled h.0)
delivered_so messages k m sound (Err (NoMemory joined)) node h = go (one_delta (bytes_of m) h.delta m.delta h.spelled sound.spelled)
  where
    go : h.delta ≡ m.delta → (left : Left) × Delivered messages k m (Err (NoMemory joined)) left × LeftSo messages node left
    go same =
        let merged : Merged (node_of k) m.delta.clock (take joined m.delta.slots) node = subst (λ (d : DeltaContent). Merged (node_of k) d.clock (take joined d.slots) node) same h.merged in
        let g = gain k m.delta.clock (take joined m.delta.slots) (about (names_of (take joined m.delta.slots)) m.operations) node (front_tells m sound joined) merged in (
          record { operation = None; knows = g.0; messages = messages },
          (subst (λ (d : DeltaContent). joined < length d.slots) same h.fewer, record { gains = g.1; none = refl; messages_are = refl }),
          record { node_is = g.2; messages_are = refl },
        )
