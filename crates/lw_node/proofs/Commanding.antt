-- What a command is to do is what it means over each set of marks that the state is known from.
use Rattle.std.proofs.Common.{◌≡◌, ◌∙◌, ℕ, ◌+◌, ◌-◌, ◌^◌, List, Option, Some, None, Ok, Err, inl, inr, refl, ap, subst}
use Rattle.std.specs.Prelude.{Result}
use Rattle.std.specs.Result.{IsErrAnd}
use Rattle.lw_stamp.specs.declared.stamp.Stamp.{Stamp}
use Rattle.lw_reg.specs.declared.op.Op.{Op}
use Rattle.lw_reg.specs.declared.op.What.{What}
use Rattle.lw_reg.specs.declared.op.What.TheVariants.{Observe, Cancel}
use Rattle.lw_reg.specs.declared.path.Path.{Path}
use Rattle.lw_reg.specs.declared.watch.Watch.{Watch}
use Rattle.lw_reg.specs.Marks.{Mark, Marks, NamesAll, among}
use Rattle.lw_reg.specs.Reading.{shown_in}
use Rattle.lw_reg.specs.Registration.{Registration}
use Rattle.lw_reg.specs.State.{State, IsStateOf}
use Rattle.lw_table.specs.LookUps.{ById, ByToken}
use Rattle.lw_call.specs.declared.observe_fault.ObserveFault.{ObserveFault}
use Rattle.lw_call.specs.declared.observe_fault.ObserveFault.TheVariants as faults
use Rattle.lw_node.specs.Calls.{IsSent, issuer_at}
use Rattle.lw_node.specs.inner.Calls.{CommandContent, Commanded}
use Rattle.lw_node.specs.Effects.{IsNext, IsAbout, observes, ends, ObserveMeans, CancelMeans}
use Rattle.lw_node.specs.Node.{NodeContent, Known, IsKnown, marks_in}
use Rattle.lw_node.specs.Node.Known.{Shown, Told}

-- what holds of what is shown, and of each set whose state it is, holds of what the state is known from
pub known_from : (P : Marks → Type 0) (state : State) → P (shown_in state) → ((ms : List Mark) → NamesAll (among ms) → IsStateOf ms state → P (among ms)) → (known : Known) → IsKnown state known → P (marks_in state known)
known_from P state read marks Shown is = read
known_from P state read marks (Told ms) is = marks ms is.0 is.1

pub found_at : (P : Marks → Type 0) (state : State) (node : NodeContent) → state ≡ node.table.state → P (shown_in state) → ((ms : List Mark) → NamesAll (among ms) → IsStateOf ms state → P (among ms)) → (known : Known) → IsKnown node.table.state known → P (marks_in node.table.state known)
found_at P state node e read marks = subst (λ (s : State). (known : Known) → IsKnown s known → P (marks_in s known)) e (known_from P state read marks)

-- the error that comes of want of memory
pub memory_is : (r : Result CommandContent ObserveFault) → IsErrAnd r (λ fault. fault ≡ faults.NoMemory) → r ≡ Err faults.NoMemory
memory_is (Ok x) h = absurd h
memory_is (Err fault) h = ap Err h

-- an operation of the registration
abbrev pub op_on : Stamp → Registration → What → Op
op_on stamp r what = record { stamp = stamp; endpoint = r.endpoint; reg = r.id; what = what }

is_about : (stamp : Stamp) (r : Registration) (what : What) (op : Op) → op ≡ op_on stamp r what → IsAbout r op
is_about stamp r what op e = record { endpoint = ap (λ (o : Op). o.endpoint) e; registration = ap (λ (o : Op). o.reg) e }

is_next : (node : NodeContent) (now : ℕ) (stamp : Stamp) (r : Registration) (what : What) (op : Op) → op ≡ op_on stamp r what → stamp.counter ≡ node.clock + 1 → stamp.node ≡ node.number → IsNext (issuer_at node now) op.stamp
is_next node now stamp r what op e counter number = record { counter = ap (λ (o : Op). o.stamp.counter) e ∙ counter; node = ap (λ (o : Op). o.stamp.node) e ∙ number }

-- ---- to observe a path
module _ (now : ℕ) (id : Stamp) (path : Path) (accept : Option ℕ) (mid : ℕ) where
  abbrev pub FoundById : Option Registration → NodeContent → Type 0
  FoundById found node = (known : Known) → IsKnown node.table.state known → ById (marks_in node.table.state known) now id found

  abbrev pub Observed : NodeContent → Result CommandContent ObserveFault → Type 0
  Observed node result = Commanded node.table.state (λ M. ObserveMeans (issuer_at node now) M id path accept mid) result

  pub observe_none : (node : NodeContent) → FoundById None node → Observed node (Err faults.NotFound)
  observe_none node found known is = (None, found known is, refl)

  pub observe_end : (node : NodeContent) (r : Registration) → FoundById (Some r) node → node.clock ≡ 2 ^ 48 - 1 → Observed node (Err faults.ClockEnd)
  observe_end node r found end known is = (Some r, found known is, inl (end, refl))

  pub observe_some : (node : NodeContent) (r : Registration) → FoundById (Some r) node → (stamp : Stamp) → stamp.counter ≡ node.clock + 1 → stamp.node ≡ node.number → (c : CommandContent) → c.operation ≡ op_on stamp r (Observe path accept) → IsSent c.outgoing (observes mid path accept r c.operation) → Observed node (Ok c)
  observe_some node r found stamp counter number c e sent known is = record {
    request = observes mid path accept r c.operation;
    meant = (Some r, found known is, inr (c.operation, is_next node now stamp r (Observe path accept) c.operation e counter number, is_about stamp r (Observe path accept) c.operation e, ap (λ (o : Op). o.what) e, refl));
    sent = sent;
  }

  pub observe_memory : (node : NodeContent) (r : Registration) → FoundById (Some r) node → (stamp : Stamp) → stamp.counter ≡ node.clock + 1 → stamp.node ≡ node.number → Observed node (Err faults.NoMemory)
  observe_memory node r found stamp counter number known is =
      let op = op_on stamp r (Observe path accept) in (
        observes mid path accept r op,
        op,
        (Some r, found known is, inr (op, record { counter = counter; node = number }, record { endpoint = refl; registration = refl }, refl, refl)),
      )

-- ---- to end an observation
module _ (now : ℕ) (token : Stamp) (mid : ℕ) where
  abbrev pub FoundByToken : Option (Registration × Watch) → NodeContent → Type 0
  FoundByToken found node = (known : Known) → IsKnown node.table.state known → ByToken (marks_in node.table.state known) now token found

  abbrev pub Cancelled : NodeContent → Result CommandContent ObserveFault → Type 0
  Cancelled node result = Commanded node.table.state (λ M. CancelMeans (issuer_at node now) M token mid) result

  pub cancel_none : (node : NodeContent) → FoundByToken None node → Cancelled node (Err faults.NotFound)
  cancel_none node found known is = (None, found known is, refl)

  pub cancel_end : (node : NodeContent) (x : Registration × Watch) → FoundByToken (Some x) node → node.clock ≡ 2 ^ 48 - 1 → Cancelled node (Err faults.ClockEnd)
  cancel_end node x found end known is = (Some x, found known is, inl (end, refl))

  pub cancel_some : (node : NodeContent) (x : Registration × Watch) → FoundByToken (Some x) node → (stamp : Stamp) → stamp.counter ≡ node.clock + 1 → stamp.node ≡ node.number → (c : CommandContent) → c.operation ≡ op_on stamp x.0 (Cancel x.1.path x.1.token) → IsSent c.outgoing (ends mid x c.operation) → Cancelled node (Ok c)
  cancel_some node x found stamp counter number c e sent known is = record {
    request = ends mid x c.operation;
    meant = (Some x, found known is, inr (c.operation, is_next node now stamp x.0 (Cancel x.1.path x.1.token) c.operation e counter number, is_about stamp x.0 (Cancel x.1.path x.1.token) c.operation e, ap (λ (o : Op). o.what) e, refl));
    sent = sent;
  }

  pub cancel_memory : (node : NodeContent) (x : Registration × Watch) → FoundByToken (Some x) node → (stamp : Stamp) → stamp.counter ≡ node.clock + 1 → stamp.node ≡ node.number → Cancelled node (Err faults.NoMemory)
  cancel_memory node x found stamp counter number known is =
      let op = op_on stamp x.0 (Cancel x.1.path x.1.token) in (
        ends mid x op,
        op,
        (Some x, found known is, inr (op, record { counter = counter; node = number }, record { endpoint = refl; registration = refl }, refl, refl)),
      )
