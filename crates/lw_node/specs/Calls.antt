-- What the calls of a node give, and what they leave.
use Rattle.std.specs.Prelude.{◌≡◌, ℕ, List, Option, Some, None, Result, Ok, Err}
use Rattle.lw_stamp.specs.declared.stamp.Stamp.{Stamp}
use Rattle.lw_coap.specs.declared.fault.Fault.{Fault}
use Rattle.lw_coap.specs.Faults.{IsFault}
use Rattle.lw_coap.specs.Grammar.{IsSpelling}
use Rattle.lw_coap.specs.Message.{MessageContent}
use Rattle.lw_reg.specs.declared.addr.Addr.{Addr}
use Rattle.lw_reg.specs.declared.op.Op.{Op}
use Rattle.lw_reg.specs.declared.path.Path.{Path}
use Rattle.lw_reg.specs.Marks.{Marks}
use Rattle.lw_call.specs.declared.clock_end.ClockEnd.{ClockEnd as NoStamp}
use Rattle.lw_call.specs.declared.observe_fault.ObserveFault.{ObserveFault}
use Rattle.lw_call.specs.declared.observe_fault.ObserveFault.TheVariants as faults
use Rattle.lw_call.specs.Contents.{TakenContent, OutgoingContent}
use Rattle.lw_node.specs.Effects.{Issuer, Effect, Request, Refused, HasNoConfirmable, DatagramMeans, ObserveMeans, CancelMeans, SweepMeans}
use Rattle.lw_node.specs.Effects.Refused.{NotFound, ClockEnd}
use Rattle.lw_node.specs.Node.{NodeContent, Leaves}

abbrev pub issuer_at : NodeContent → ℕ → Issuer
issuer_at node now = record { number = node.number; clock = node.clock; now = now }

-- the reply's bytes spell its message
abbrev pub IsReply : Option (List ℕ) → Option MessageContent → Type 0
IsReply None None = Unit {0}
IsReply (Some bytes) (Some message) = IsSpelling bytes message
IsReply (Some bytes) None = ⊥
IsReply None (Some message) = ⊥

-- What is given, and what is left after the operation, or after none, are those of an effect that is meant.
pub record TakesSo (Meant : Effect → Type 0) (After : Option Op → Type 0) (taken : TakenContent) : Type 0 where
  pub reply : Option MessageContent
  pub operation : Option Op
  pub meant : Meant (record { reply = reply; notice = taken.notice; operation = operation })
  pub replied : IsReply taken.reply reply
  pub left : After operation

-- the node, of which these marks tell, takes a datagram
abbrev pub Takes : NodeContent → Marks → ℕ → Addr → List ℕ → TakenContent → NodeContent → Type 0
Takes old M now source bytes taken new = TakesSo (DatagramMeans (issuer_at old now) M source bytes) (λ operation. Leaves old operation new) taken

-- the bytes spell no message, and no reply is owed
abbrev pub IsSilent : List ℕ → Type 0
IsSilent bytes = ((fault : Fault) × IsFault bytes fault) × HasNoConfirmable bytes

-- ---- a command
-- what is sent is the request, spelled
pub record IsSent (outgoing : OutgoingContent) (request : Request) : Type 0 where
  pub to : outgoing.to ≡ request.to
  pub token : outgoing.token ≡ request.token
  pub bytes : IsSpelling outgoing.bytes request.message

-- What is sent, and what is left after the operation, are those of an outcome that is meant.
pub record Sends (Meant : Result (Request × Op) Refused → Type 0) (After : Option Op → Type 0) (outgoing : OutgoingContent) : Type 0 where
  pub request : Request
  pub operation : Op
  pub meant : Meant (Ok (request, operation))
  pub sent : IsSent outgoing request
  pub left : After (Some operation)

-- A refusal and want of memory, which comes only in place of what is sent, issue no operation.
abbrev pub Sent : (Result (Request × Op) Refused → Type 0) → (Option Op → Type 0) → Result OutgoingContent ObserveFault → Type 0
Sent Meant After (Ok outgoing) = Sends Meant After outgoing
Sent Meant After (Err faults.NotFound) = Meant (Err NotFound) × After None
Sent Meant After (Err faults.ClockEnd) = Meant (Err ClockEnd) × After None
Sent Meant After (Err faults.NoMemory) = ((request : Request) × (operation : Op) × Meant (Ok (request, operation))) × After None

-- a node, of which these marks tell, observes a path, or ends an observation
abbrev pub Observes : NodeContent → Marks → ℕ → Stamp → Path → Option ℕ → ℕ → Result OutgoingContent ObserveFault → NodeContent → Type 0
Observes old M now id path accept mid result new =
    Sent (ObserveMeans (issuer_at old now) M id path accept mid) (λ operation. Leaves old operation new) result

abbrev pub Cancels : NodeContent → Marks → ℕ → Stamp → ℕ → Result OutgoingContent ObserveFault → NodeContent → Type 0
Cancels old M now token mid result new = Sent (CancelMeans (issuer_at old now) M token mid) (λ operation. Leaves old operation new) result

-- ---- a sweep
-- The identifier of the registration that has ended, and what is left after its operation; or there is none, or no
-- stamp for it.
abbrev pub Swept : (Result (Option Op) Refused → Type 0) → (Option Op → Type 0) → Result (Option Stamp) NoStamp → Type 0
Swept Meant After (Ok (Some id)) = (operation : Op) × Meant (Ok (Some operation)) × (id ≡ operation.reg) × After (Some operation)
Swept Meant After (Ok None) = Meant (Ok None) × After None
Swept Meant After (Err ended) = Meant (Err ClockEnd) × After None

-- a node, of which these marks tell, ends the first registration that has expired
abbrev pub Sweeps : NodeContent → Marks → ℕ → Result (Option Stamp) NoStamp → NodeContent → Type 0
Sweeps old M now result new = Swept (SweepMeans (issuer_at old now) M) (λ operation. Leaves old operation new) result
