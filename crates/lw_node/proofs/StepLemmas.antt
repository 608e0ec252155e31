-- What is decided and done is a step.
use Rattle.std.proofs.Common.{◌≡◌, ℕ, List, Option, Ok, Err, sym, subst}
use Rattle.std.specs.Prelude.{Result, IfSome, IfOk, IsOk, OnErr}
use Rattle.lw_stamp.specs.declared.moment.Moment.{Moment}
use Rattle.lw_stamp.specs.declared.no_memory.NoMemory.{NoMemory}
use Rattle.lw_stamp.specs.declared.stamp.Stamp.{Stamp}
use Rattle.lw_stamp.specs.Moment.{ms_of}
use Rattle.lw_reg.specs.declared.addr.Addr.{Addr}
use Rattle.lw_reg.specs.declared.op.Op.{Op}
use Rattle.lw_reg.specs.declared.path.Path.{Path}
use Rattle.lw_reg.specs.Marks.{Mark, Marks, among}
use Rattle.lw_reg.specs.Reading.{shown_in}
use Rattle.lw_call.specs.declared.answer.Answer.{Answer}
use Rattle.lw_call.specs.declared.call.Call.{Call}
use Rattle.lw_call.specs.declared.call.Call.TheVariants as calls
use Rattle.lw_call.specs.declared.observe_fault.ObserveFault.{ObserveFault}
use Rattle.lw_call.specs.declared.observe_fault.ObserveFault.TheVariants as faults
use Rattle.lw_call.specs.declared.question.Question.{Question}
use Rattle.lw_call.specs.declared.reply.Reply.{Reply}
use Rattle.lw_call.specs.declared.reply.Reply.TheVariants as replies
use Rattle.lw_call.specs.Contents.{TakenContent, OutgoingContent}
use Rattle.lw_call.specs.Found.{IsFound}
use Rattle.lw_node.specs.Calls.{issuer_at, TakesSo, Takes, IsSilent, IsSent, Sent}
use Rattle.lw_node.specs.inner.Calls.{DecisionContent, CommandContent, Decides, Decided, CommandsOr, Commanded}
use Rattle.lw_node.specs.inner.Done.{IsDone}
use Rattle.lw_node.specs.Effects.{Effect, Request, Refused, DatagramMeans, ObserveMeans, CancelMeans}
use Rattle.lw_node.specs.Node.{NodeContent, Known, IsKnown, Knows, marks_in, Leaves}
use Rattle.lw_node.specs.Node.Known.{Shown, Told}
use Rattle.lw_node.specs.Steps.{Answers, Asks, Steps}
use Rattle.lw_node.specs.inner.Twice.{first_of}
use Rattle.lw_node.specs.Within.{FitsClock}
use Rattle.lw_node.specs.inner.Within.{IsNextOf}
use Rattle.lw_node.proofs.NextOperation.{datagram_next, observe_next, cancel_next}

-- what holds of what is shown, and of each set that is known, holds of what the node is known from
pub by_known : (P : Marks → Type 0) (node : NodeContent) → P (shown_in node.table.state) → ((ms : List Mark) → Knows node ms → P (among ms)) → (known : Known) → IsKnown node.table.state known → P (marks_in node.table.state known)
by_known P node read marks Shown is = read
by_known P node read marks (Told ms) is = marks ms is

-- a step of one call is one of a call of equal content
pub steps_as : (old new : NodeContent) (M : Marks) (call given : Call) (reply : Reply) → given ≡ call → Steps old M call reply new → Steps old M given reply new
steps_as old new M call given reply is = subst (λ (x : Call). Steps old M x reply new) (sym is)

-- ---- datagrams
pub decided_next : (node : NodeContent) (now : ℕ) (source : Addr) (bytes : List ℕ) (d e : DecisionContent) → d ≡ e → FitsClock node.clock node.table.state → Decided node.table.state (λ M. DatagramMeans (issuer_at node now) M source bytes) e → IfSome d.operation (IsNextOf node.clock)
decided_next node now source bytes d e same fits decided =
    let x = decided Shown tt in
    subst (λ (d : DecisionContent). IfSome d.operation (IsNextOf node.clock)) (sym same)
    (datagram_next (issuer_at node now) node.table.state fits source bytes (record { reply = x.reply; notice = e.notice; operation = e.operation }) x.meant)

pub taken_so : (Meant : Effect → Type 0) (d e : DecisionContent) → d ≡ e → Decides Meant e → (old new : NodeContent) → Leaves old d.operation new → TakesSo Meant (λ operation. Leaves old operation new) (record { reply = d.reply; notice = d.notice })
taken_so Meant d e same decides old new left =
    let x = subst (Decides Meant) (sym same) decides in
    record { reply = x.reply; operation = d.operation; meant = x.meant; replied = x.replied; left = left }

pub take_steps : (old new : NodeContent) (M : Marks) (now : Moment) (source : Addr) (slice bytes : List ℕ) → slice ≡ bytes → (call : Call) → call ≡ calls.Take now source bytes → (r : Result TakenContent NoMemory) → IfOk r (λ t. Takes old M (ms_of now) source slice t new) → OnErr r (new ≡ old) → (IsSilent slice → IsOk r) → Steps old M call (replies.Take r) new
take_steps old new M now source slice bytes same call is r taken unchanged silent =
    subst (λ (x : Call). Steps old M x (replies.Take r) new) (sym is)
    (subst (λ (b : List ℕ). Steps old M (calls.Take now source b) (replies.Take r) new) same (go r taken unchanged silent))
  where
    go : (r : Result TakenContent NoMemory) → IfOk r (λ t. Takes old M (ms_of now) source slice t new) → OnErr r (new ≡ old) → (IsSilent slice → IsOk r) → Steps old M (calls.Take now source slice) (replies.Take r) new
    go (Ok t) taken unchanged silent = taken
    go (Err refused) taken unchanged silent = ((λ s. absurd (let f = silent s in cc)), unchanged)

module _ (old new : NodeContent) (M : Marks) (now : Moment) (source : Addr) (slice bytes : List ℕ) (same : slice ≡ bytes) (call : Call) (is : call ≡ calls.Take now source bytes) where
  pub take_twice_steps : (pair : Result (TakenContent × TakenContent) NoMemory) (r : Result TakenContent NoMemory) → r ≡ first_of pair → IfOk (first_of pair) (λ t. Takes old M (ms_of now) source slice t new) → OnErr pair (new ≡ old) → (IsSilent slice → IsOk pair) → Steps old M call (replies.Take r) new
  take_twice_steps (Ok p) r first taken unchanged silent = subst (λ (r : Result TakenContent NoMemory). Steps old M call (replies.Take r) new) (sym first) (take_steps old new M now source slice bytes same call is (Ok p.0) taken unchanged silent)
  take_twice_steps (Err e) r first taken unchanged silent = subst (λ (r : Result TakenContent NoMemory). Steps old M call (replies.Take r) new) (sym first) (take_steps old new M now source slice bytes same call is (Err e) taken unchanged silent)

-- ---- commands
pub observed_next : (node : NodeContent) (now : ℕ) (id : Stamp) (path : Path) (accept : Option ℕ) (mid : ℕ) (r : Result CommandContent ObserveFault) (clock : ℕ) → clock ≡ node.clock → FitsClock clock node.table.state → Commanded node.table.state (λ M. ObserveMeans (issuer_at node now) M id path accept mid) r → IfOk r (λ c. IsNextOf node.clock c.operation)
observed_next node now id path accept mid (Ok c) clock is fits h =
    let x = h Shown tt in
    observe_next (issuer_at node now) node.table.state (subst (λ n. FitsClock n node.table.state) is fits) id path accept mid x.request c.operation x.meant
observed_next node now id path accept mid (Err fault) clock is fits h = tt

pub cancelled_next : (node : NodeContent) (now : ℕ) (token : Stamp) (mid : ℕ) (r : Result CommandContent ObserveFault) (clock : ℕ) → clock ≡ node.clock → FitsClock clock node.table.state → Commanded node.table.state (λ M. CancelMeans (issuer_at node now) M token mid) r → IfOk r (λ c. IsNextOf node.clock c.operation)
cancelled_next node now token mid (Ok c) clock is fits h =
    let x = h Shown tt in
    cancel_next (issuer_at node now) node.table.state (subst (λ n. FitsClock n node.table.state) is fits) token mid x.request c.operation x.meant
cancelled_next node now token mid (Err fault) clock is fits h = tt

module _ (Meant : Result (Request × Op) Refused → Type 0) (old new : NodeContent) where
  refused_sent : (fault : ObserveFault) → CommandsOr Meant (Err fault) → new ≡ old → Sent Meant (λ operation. Leaves old operation new) (Err fault)
  refused_sent faults.NotFound h e = (h, e)
  refused_sent faults.ClockEnd h e = (h, e)
  refused_sent faults.NoMemory h e = (h, e)

  pub done_sent : (r : Result CommandContent ObserveFault) (o : Result OutgoingContent ObserveFault) → CommandsOr Meant r → IsDone old r o new → Sent Meant (λ operation. Leaves old operation new) o
  done_sent (Ok c) (Ok o) h done = record {
    request = h.request;
    operation = c.operation;
    meant = h.meant;
    sent = subst (λ (x : OutgoingContent). IsSent x h.request) (sym done.0) h.sent;
    left = done.1;
  }
  done_sent (Ok c) (Err fault) h done = subst (λ (f : ObserveFault). Sent Meant (λ operation. Leaves old operation new) (Err f)) (sym done.0) ((h.request, c.operation, h.meant), done.1)
  done_sent (Err fault) (Ok o) h done = absurd done
  done_sent (Err fault) (Err given) h done = subst (λ (f : ObserveFault). Sent Meant (λ operation. Leaves old operation new) (Err f)) (sym done.0) (refused_sent fault h done.1)

-- ---- questions
pub asks_so : (node : NodeContent) (M : Marks) (now : ℕ) (question : Question) (answer : Answer) (r : Result Answer NoMemory) → IfOk r (λ a. a ≡ answer) → OnErr r (IsFound answer) → Answers node M now question answer → Asks node M now question r
asks_so node M now question answer (Ok a) same found is = subst (Answers node M now question) (sym same) is
asks_so node M now question answer (Err refused) same found is = (answer, found, is)

pub asked : (node : NodeContent) (now : ℕ) (given question : Question) → given ≡ question → (answer : Answer) (r : Result Answer NoMemory) → IfOk r (λ a. a ≡ answer) → OnErr r (IsFound answer) → Answers node (shown_in node.table.state) now question answer → ((ms : List Mark) → Knows node ms → Answers node (among ms) now question answer) → (known : Known) → IsKnown node.table.state known → Asks node (marks_in node.table.state known) now given r
asked node now given question same answer r is found read marks known of =
    asks_so node (marks_in node.table.state known) now given answer r is found
    (subst (λ (q : Question). Answers node (marks_in node.table.state known) now q answer) (sym same) (by_known (λ M. Answers node M now question answer) node read marks known of))
