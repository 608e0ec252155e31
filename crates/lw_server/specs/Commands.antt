-- What comes of what operators have done: observations are made and ended (RFC 7641, sections 3.1 and 3.6), and what is
-- told of that over HTTP (RFC 9110, section 15).
use Rattle.std.specs.Prelude.{◌≡◌, ℕ, ◌⊎◌, nat_le, Bool, true, false, List, [], ◌∷◌, ◌++◌, length, codes}
use Rattle.std.specs.Prelude.{Option, None, Some, IfSome, Result, Ok, Err}
use Rattle.lw_stamp.specs.declared.moment.Moment.{Moment}
use Rattle.lw_stamp.specs.declared.stamp.Stamp.{Stamp}
use Rattle.lw_stamp.specs.Moment.{ms_of}
use Rattle.lw_reg.specs.declared.path.Path.{Path}
use Rattle.lw_reg.specs.Reading.{shown_in}
use Rattle.lw_reg.specs.Registration.{Registration}
use Rattle.lw_reg.specs.Showing.{ShownOf}
use Rattle.lw_table.specs.LookUps.{ByToken}
use Rattle.lw_call.specs.declared.call.Call.{Call}
use Rattle.lw_call.specs.declared.call.Call.TheVariants as calls
use Rattle.lw_call.specs.declared.observe_fault.ObserveFault.{ObserveFault}
use Rattle.lw_call.specs.declared.observe_fault.ObserveFault.TheVariants as faults
use Rattle.lw_call.specs.declared.reply.Reply.{Reply}
use Rattle.lw_call.specs.declared.reply.Reply.TheVariants as replies
use Rattle.lw_replica.specs.Replica.{ReplicaContent}
use Rattle.lw_replica.specs.Own.{WritesOwn}
use Rattle.lw_replica.specs.Rounds.{IsRound}
use Rattle.lw_metrics.specs.declared.tally.Tally.{Tally}
use Rattle.lw_metrics.specs.Counting.{counted}
use Rattle.lw_messaging.specs.declared.pending_request.Purpose.TheVariants.{Observation, Cancellation}
use Rattle.lw_messaging.specs.PendingRequest.{with_request, without_purpose, PendingContent}
use Rattle.lw_route.specs.declared.command.Command.{Command}
use Rattle.lw_route.specs.declared.command.Command.TheVariants as commands
use Rattle.lw_route.specs.declared.api.ApiResponse.{ApiResponse}
use Rattle.lw_route.specs.declared.api.Status.TheVariants as status
use Rattle.lw_api.specs.Answers.{IsCreated, IsJson, IsNoContent, IsNotFound, TellsWatch}
use Rattle.lw_server.specs.declared.commands.Done.{Done}
use Rattle.lw_server.specs.declared.commands.Done.TheVariants as outcomes
use Rattle.lw_server.specs.declared.fault.TurnFault.{TurnFault}
use Rattle.lw_server.specs.declared.fault.TurnFault.TheVariants as turns
use Rattle.lw_server.specs.Api.{serves}
use Rattle.lw_server.specs.declared.clocks.Times.{Times}
use Rattle.lw_server.specs.Devices.{DevicesContent, Undo, with_task}
use Rattle.lw_server.specs.Server.{ReadsClock, ServerContent}
use Rattle.lw_server.specs.Stepping.{IsTokenOn}

-- ---- what the node gave
abbrev pub done_by : ObserveFault → Done
done_by faults.NotFound = outcomes.NotFound
done_by faults.ClockEnd = outcomes.ClockEnd
done_by faults.NoMemory = outcomes.NoMemory

abbrev pub done_of : Reply → Done
done_of (replies.Observe (Ok outgoing)) = outcomes.Observed outgoing.token
done_of (replies.Cancel (Ok outgoing)) = outcomes.Ended
done_of (replies.Observe (Err fault)) = done_by fault
done_of (replies.Cancel (Err fault)) = done_by fault
done_of _ = outcomes.NotFound

-- The request that it gave waits behind the others. Where an observation ends, the request that asks for it does not wait
-- any more.
abbrev pub waiting_after : List PendingContent → Moment → Reply → List PendingContent
waiting_after waiting now (replies.Observe (Ok outgoing)) =
    with_request waiting now outgoing.to (Observation outgoing.token) outgoing.bytes
waiting_after waiting now (replies.Cancel (Ok outgoing)) =
    without_purpose (with_request waiting now outgoing.to (Cancellation outgoing.token) outgoing.bytes)
    (Observation outgoing.token)
waiting_after waiting now _ = waiting

-- ---- a round with one call, which is counted; so its request leaves only after what it has changed was written
-- The request waits from a moment of the clock that never goes back.
pub record Requests (call : Call) (steady : Moment) (old : ReplicaContent) (tally : Tally) (devices : DevicesContent)
    (done : Done) (new : ReplicaContent) (counts : Tally) (left : DevicesContent) : Type 0 where
  pub reply : Reply
  pub round : IsRound old (call ∷ []) (reply ∷ []) new
  pub counts_are : counts ≡ counted tally (call ∷ []) (reply ∷ [])
  pub done_is : done ≡ done_of reply
  pub waiting : left ≡ record devices { requests = waiting_after devices.requests steady reply }

-- nothing else of a server has changed
pub record IsRequested (call : Call) (old : ServerContent) (done : Done) (new : ServerContent) : Type 0 where
  pub requests : Requests call old.steady old.replica old.tally old.devices done new.replica new.tally new.devices
  pub rest : new ≡ record old { replica = new.replica; tally = new.tally; devices = new.devices }

-- ---- a path of an endpoint is to be observed: of what is shown of it, while the server serves
abbrev pub IsObservedOf : Option Registration → Path → Option ℕ → ServerContent → Done → ServerContent → Type 0
IsObservedOf None path accept old done new = (done ≡ outcomes.NotFound) × (new ≡ old)
IsObservedOf (Some shown) path accept old done new =
    IsRequested (calls.Observe old.latest shown.id path accept 0) old done new

pub record IsObservedWhere (endpoint : List ℕ) (path : Path) (accept : Option ℕ) (old : ServerContent) (done : Done)
    (new : ServerContent) : Type 0 where
  pub shown : Option Registration
  pub found : ShownOf (shown_in old.replica.node.table.state) (ms_of old.latest) endpoint shown
  pub observed : IsObservedOf shown path accept old done new

abbrev pub IsObserved : Bool → List ℕ → Path → Option ℕ → ServerContent → Done → ServerContent → Type 0
IsObserved true endpoint path accept old done new = IsObservedWhere endpoint path accept old done new
IsObserved false endpoint path accept old done new = (done ≡ outcomes.Unavailable) × (new ≡ old)

-- ---- a command, at the moment that the clocks told last
abbrev pub IsOrdered : Command → ServerContent → Done → ServerContent → Type 0
IsOrdered (commands.Observe endpoint path accept) old done new = IsObserved (serves old) endpoint path accept old done new
IsOrdered (commands.Cancel token) old done new = IsRequested (calls.Cancel old.latest token 0) old done new

-- where 1,024 requests wait no command is carried out
abbrev pub IsOrderedWhere : Bool → Command → ServerContent → Done → ServerContent → Type 0
IsOrderedWhere true command old done new = (done ≡ outcomes.TooMany) × (new ≡ old)
IsOrderedWhere false command old done new = IsOrdered command old done new

abbrev pub is_full : ServerContent → Bool
is_full server = nat_le 1024 (length server.devices.requests)

-- The clocks are read first, so the moment of a command is the one that they tell.
abbrev pub IsExecuted : Command → ServerContent → Done → ServerContent → Type 0
IsExecuted command old done new =
    (times : Times) × ((mid : ServerContent) × (ReadsClock (Some times) old mid
    × IsOrderedWhere (is_full mid) command mid done new))

-- ---- a command that failed
-- Its round may have been made. What is observed then on the path of the registration is to end, if it is not the
-- observation that was there before.
abbrev pub LeavesUndo : Stamp → Path → Option Stamp → ServerContent → ServerContent → Type 0
LeavesUndo id path before old new =
    new ≡ record old { replica = new.replica; devices = with_task (Undo id path before) old.devices }

pub record MayHaveObserved (endpoint : List ℕ) (path : Path) (old new : ServerContent) : Type 0 where
  pub shown : Registration
  pub found : ShownOf (shown_in old.replica.node.table.state) (ms_of old.latest) endpoint (Some shown)
  pub before : Option Stamp
  pub on : IsTokenOn (shown_in old.replica.node.table.state) (ms_of old.latest) shown.id path before
  pub left : LeavesUndo shown.id path before old new

-- No request waits more. Nothing has changed; or the replica alone has, and what an Observe may have left is undone later.
abbrev pub FailsTo : Command → ServerContent → ServerContent → Type 0
FailsTo (commands.Observe endpoint path accept) old new = (new ≡ old) ⊎ MayHaveObserved endpoint path old new
FailsTo (commands.Cancel token) old new = new ≡ record old { replica = new.replica }

pub record IsFailed (command : Command) (old new : ServerContent) : Type 0 where
  pub told : Option Times
  pub mid : ServerContent
  pub read : ReadsClock told old mid
  pub own : WritesOwn mid.replica new.replica
  pub fails : FailsTo command mid new

-- ---- what is told of it
abbrev pub away_text : List ℕ
away_text = codes "{\"error\":\"away\"}"

abbrev pub no_memory_text : List ℕ
no_memory_text = codes "{\"error\":\"no memory\"}"

-- the observation that was made, where the log covers all that the node knows
abbrev pub TellsObserved : Bool → ServerContent → Stamp → ApiResponse → Type 0
TellsObserved false server token answer = IsJson status.ServiceUnavailable away_text answer
TellsObserved true server token answer =
    (text : Option (List ℕ))
    × TellsWatch server.replica.node.table.state (λ M. ByToken M (ms_of server.latest) token) text
    × IsCreated text answer

abbrev pub TellsDone : ServerContent → Done → ApiResponse → Type 0
TellsDone server (outcomes.Observed token) answer = TellsObserved server.replica.durable server token answer
TellsDone server outcomes.Ended answer = IsNoContent answer
TellsDone server outcomes.NotFound answer = IsNotFound answer
TellsDone server outcomes.TooMany answer =
    IsJson status.ServiceUnavailable (codes "{\"error\":\"too many requests wait\"}") answer
TellsDone server outcomes.ClockEnd answer = IsJson status.ServiceUnavailable (codes "{\"error\":\"end of the clock\"}") answer
TellsDone server outcomes.NoMemory answer = IsJson status.ServiceUnavailable no_memory_text answer
TellsDone server outcomes.Unavailable answer = IsJson status.ServiceUnavailable away_text answer

abbrev pub reason_of : TurnFault → List ℕ
reason_of turns.NoMemory = no_memory_text
reason_of turns.ClockRefused = codes "{\"error\":\"clock refused\"}"
reason_of _ = away_text

abbrev pub TellsOutcome : ServerContent → Result Done TurnFault → ApiResponse → Type 0
TellsOutcome server (Ok done) answer = TellsDone server done answer
TellsOutcome server (Err fault) answer = IsJson status.ServiceUnavailable (reason_of fault) answer

-- ---- a command over HTTP: what it failed by is noted, for the run to end or to go on by
abbrev pub Executes : Command → ServerContent → Result Done TurnFault → ServerContent → Type 0
Executes command old (Ok done) new = IsExecuted command old done new
Executes command old (Err fault) new = IsFailed command old new

abbrev pub noting : Result Done TurnFault → ServerContent → ServerContent
noting (Ok done) server = server
noting (Err fault) server = record server { fault = Some fault }

pub record IsCarriedOut (old : ServerContent) (command : Command) (answer : Option ApiResponse) (new : ServerContent)
    : Type 0 where
  pub outcome : Result Done TurnFault
  pub executed : ServerContent
  pub executes : Executes command old outcome executed
  pub noted : new ≡ noting outcome executed
  pub told : IfSome answer (TellsOutcome new outcome)
