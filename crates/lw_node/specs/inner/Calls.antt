-- What a call is to do, and what it gives once that is done.
use Rattle.std.specs.Prelude.{ℕ, List, Option, None, Result, Ok, Err}
use Rattle.lw_coap.specs.Message.{MessageContent}
use Rattle.lw_reg.specs.declared.op.Op.{Op}
use Rattle.lw_reg.specs.Marks.{Marks}
use Rattle.lw_reg.specs.State.{State}
use Rattle.lw_call.specs.declared.observe_fault.ObserveFault.{ObserveFault}
use Rattle.lw_call.specs.declared.observe_fault.ObserveFault.TheVariants as faults
use Rattle.lw_call.specs.Contents.{NoticeContent, OutgoingContent}
use Rattle.lw_node.specs.Effects.{Effect, Request, Refused, MalformedMeans}
use Rattle.lw_node.specs.Effects.Refused.{NotFound, ClockEnd}
use Rattle.lw_node.specs.Node.{Known, IsKnown, marks_in}
use Rattle.lw_node.specs.Calls.{IsReply, IsSent}

-- what a datagram is to do
pub record DecisionContent : Type 0 where
  pub reply : Option (List ℕ)
  pub notice : Option NoticeContent
  pub operation : Option Op

-- what a command is to do
pub record CommandContent : Type 0 where
  pub outgoing : OutgoingContent
  pub operation : Op

-- ---- a datagram
-- A reply that is spelled so, the notice and the operation are together what is meant.
pub record Decides (Meant : Effect → Type 0) (d : DecisionContent) : Type 0 where
  pub reply : Option MessageContent
  pub meant : Meant (record { reply = reply; notice = d.notice; operation = d.operation })
  pub replied : IsReply d.reply reply

-- it is decided so over each set of marks that the state is known from
abbrev pub Decided : State → (Marks → Effect → Type 0) → DecisionContent → Type 0
Decided state Meant d = (known : Known) → IsKnown state known → Decides (Meant (marks_in state known)) d

-- the reply to bytes that spell no message
pub record RepliesMalformed (bytes : List ℕ) (reply : Option (List ℕ)) : Type 0 where
  pub message : Option MessageContent
  pub meant : MalformedMeans bytes (record { reply = message; notice = None; operation = None })
  pub replied : IsReply reply message

-- nothing is decided, and nothing given
abbrev pub silence : DecisionContent
silence = record { reply = None; notice = None; operation = None }

pub record Commands (Meant : Result (Request × Op) Refused → Type 0) (c : CommandContent) : Type 0 where
  pub request : Request
  pub meant : Meant (Ok (request, c.operation))
  pub sent : IsSent c.outgoing request

-- a request and an operation that are meant; or a refusal that is; or want of memory, in place of the former
abbrev pub CommandsOr : (Result (Request × Op) Refused → Type 0) → Result CommandContent ObserveFault → Type 0
CommandsOr Meant (Ok c) = Commands Meant c
CommandsOr Meant (Err faults.NotFound) = Meant (Err NotFound)
CommandsOr Meant (Err faults.ClockEnd) = Meant (Err ClockEnd)
CommandsOr Meant (Err faults.NoMemory) = (request : Request) × (operation : Op) × Meant (Ok (request, operation))

abbrev pub Commanded : State → (Marks → Result (Request × Op) Refused → Type 0) → Result CommandContent ObserveFault → Type 0
Commanded state Meant r = (known : Known) → IsKnown state known → CommandsOr (Meant (marks_in state known)) r
