-- What a step with devices does (RFC 7252, section 4.2; RFC 7641, sections 3.4 and 3.6; RFC 7959, section 2.6).
use Rattle.std.specs.Prelude.{◌≡◌, ◌≢◌, ◌↔◌, ℕ, Bool, true, false, List, [], ◌∷◌, ◌++◌, ◌⊎◌, length, filter_map, map}
use Rattle.std.specs.Prelude.{Option, Some, None, Ok, Err, option_map}
use Rattle.std.specs.List.{list_any}
use Rattle.std.specs.declared.alloc.Global.{Global}
use Rattle.std.specs.declared.vec.Vec.{Vec}
use Rattle.lw_stamp.specs.declared.moment.Moment.{Moment}
use Rattle.lw_stamp.specs.declared.stamp.Stamp.{Stamp}
use Rattle.lw_stamp.specs.Moment.{ms_of}
use Rattle.lw_stamp.specs.Stamp.{stamp_bytes}
use Rattle.lw_reg.specs.declared.addr.Addr.{Addr}
use Rattle.lw_reg.specs.declared.addr.Addr.TheVariants.{V4}
use Rattle.lw_reg.specs.declared.path.Path.{Path}
use Rattle.lw_reg.specs.declared.watch.Watch.{Watch}
use Rattle.lw_reg.specs.Marks.{Marks}
use Rattle.lw_reg.specs.Reading.{shown_in}
use Rattle.lw_reg.specs.Registration.{Registration}
use Rattle.lw_reg.specs.Showing.{LivesOf}
use Rattle.lw_table.specs.LookUps.{ById, ByToken, WatchOfIdAfter}
use Rattle.lw_messaging.specs.declared.message_ids.IdCounter.{IdCounter}
use Rattle.lw_messaging.specs.Fetches.{IsCut}
use Rattle.lw_messaging.specs.PendingRequest.{IsStepped, StepContent, Sends, TimedOut, Postponed, token_in}
use Rattle.lw_call.specs.declared.call.Call.{Call}
use Rattle.lw_call.specs.declared.call.Call.TheVariants as calls
use Rattle.lw_call.specs.declared.observe_fault.ObserveFault.TheVariants as observe_faults
use Rattle.lw_call.specs.declared.reply.Reply.{Reply}
use Rattle.lw_call.specs.declared.reply.Reply.TheVariants as replies
use Rattle.lw_call.specs.Contents.{NoticeContent, TakenContent}
use Rattle.lw_metrics.specs.Counting.{counted, one_more}
use Rattle.lw_replica.specs.Rounds.{IsRound}
use Rattle.lw_server.specs.declared.devices.Progress.{Progress}
use Rattle.lw_server.specs.declared.devices.Progress.TheVariants as progress
use Rattle.lw_server.specs.declared.devices.RequestCounts.{RequestCounts}
use Rattle.lw_server.specs.Devices.{TaskContent, End, Close, Check, Cut, Tell, Undo, DevicesContent, left_of}
use Rattle.lw_server.specs.Server.{ServerContent}
use Rattle.lw_server.specs.Notifications.{with_capacity, IsPublished, IsPublishedIf}

-- ---- a step with the requests that wait (RFC 7252, section 4.2)
-- what it comes to: nothing, where none is due; bytes that are to be sent; or else something was done
abbrev pub SendsTo : Addr → List ℕ → Progress → Type 0
SendsTo to bytes (progress.Sends address message) = (address ≡ to) × (message.items ≡ bytes)
SendsTo to bytes progress.Idle = ⊥
SendsTo to bytes progress.Moved = ⊥

abbrev pub IsProgress : Option StepContent → Progress → Type 0
IsProgress None it = it ≡ progress.Idle
IsProgress (Some (Sends to bytes again)) it = SendsTo to bytes it
IsProgress (Some (TimedOut purpose)) it = it ≡ progress.Moved
IsProgress (Some Postponed) it = it ≡ progress.Moved

-- a request that is sent, for the first time or again, and one that was not answered, are counted
abbrev pub with_sent : RequestCounts → Bool → RequestCounts
with_sent counts false = record counts { sent = one_more counts.sent }
with_sent counts true = record counts { sent_again = one_more counts.sent_again }

abbrev pub counts_behind : RequestCounts → Option StepContent → RequestCounts
counts_behind counts None = counts
counts_behind counts (Some (Sends to bytes again)) = with_sent counts again
counts_behind counts (Some (TimedOut purpose)) = record counts { unanswered = one_more counts.unanswered }
counts_behind counts (Some Postponed) = counts

-- the code of 5.04 Gateway Timeout: nobody has answered (RFC 7252, section 5.9.3.5)
abbrev pub gateway_timeout : ℕ
gateway_timeout = 0xa4

-- what is left to do then
abbrev pub left_by : Option StepContent → List TaskContent
left_by None = []
left_by (Some (Sends to bytes again)) = []
left_by (Some (TimedOut purpose)) = left_of purpose gateway_timeout
left_by (Some Postponed) = []

pub record StepsRequests (now : Moment) (old : DevicesContent) (counters : List IdCounter) (progress : Progress)
    (new : DevicesContent) (after : List IdCounter) : Type 0 where
  pub step : Option StepContent
  pub stepped : IsStepped now old.requests counters step new.requests after
  pub progress_is : IsProgress step progress
  pub counts : new.counts ≡ counts_behind old.counts step
  pub tasks : new.tasks ≡ old.tasks ++ left_by step
  pub fetches : new.fetches ≡ old.fetches

-- ---- the first thing that is left to do
abbrev pub first_of : List TaskContent → Option TaskContent
first_of [] = None
first_of (task ∷ tasks) = Some task

-- what is left once it is done
abbrev pub without_first : List TaskContent → List TaskContent
without_first [] = []
without_first (task ∷ tasks) = tasks

-- in its place a message is to be told that has not come whole, if there is one
abbrev pub with_message : Option (Vec ℕ Global) → List TaskContent → List TaskContent
with_message message [] = []
with_message None (task ∷ tasks) = tasks
with_message (Some message) (task ∷ tasks) = Tell message.items false ∷ tasks

-- what came of a fetch is to be told, in place of the first thing that is left to do (RFC 7959, section 2.6)
pub record IsFirstCut (fetch : ℕ) (old new : DevicesContent) : Type 0 where
  pub message : Option (Vec ℕ Global)
  pub cut : IsCut old.fetches fetch message new.fetches
  pub tasks : new.tasks ≡ with_message message old.tasks
  pub same : new ≡ record old { fetches = new.fetches; tasks = new.tasks }

-- the first thing that was left to do is done
abbrev pub done_first : ServerContent → ServerContent
done_first server = record server { devices = record (server.devices) { tasks = without_first server.devices.tasks } }

-- ---- a round of its own
-- a round of the replica with the call, which is counted
pub record MakesCall (call : Call) (reply : Reply) (old new : ServerContent) : Type 0 where
  pub round : IsRound old.replica (call ∷ []) (reply ∷ []) new.replica
  pub counts : new.tally ≡ counted old.tally (call ∷ []) (reply ∷ [])

-- Where it fails, or what came of it is not told, only the replica, its count and the memory for notices are not as
-- they were. What was left to do is left to do.
abbrev pub IsLeft : ServerContent → ServerContent → Type 0
IsLeft old new =
    new ≡ record old {
      replica = new.replica;
      tally = new.tally;
      notifications = with_capacity old.notifications new.notifications.buffer.capacity;
    }

-- ---- what a device reports (RFC 7641, section 3.2)
-- what the node has given for it
abbrev pub IsGiven : Reply → TakenContent → Type 0
IsGiven (replies.Take (Ok taken)) given = given ≡ taken
IsGiven (replies.Take (Err refused)) given = ⊥
IsGiven reply given = given ≡ record { reply = None; notice = None }

-- It is taken in a round of its own, and its notice is told. What answers it is what the node has given, if it owes it.
pub record IsReport (from : Addr) (bytes : List ℕ) (is_complete : Bool) (old : ServerContent)
    (answer : Option (Vec ℕ Global)) (new : ServerContent) : Type 0 where
  pub reply : Reply
  pub given : TakenContent
  pub call : MakesCall (calls.Take old.latest from bytes) reply old new
  pub is_given : IsGiven reply given
  pub told : IsPublishedIf old.steady given.notice is_complete
      (with_capacity old.notifications new.notifications.buffer.capacity) new.notifications
  pub answer_is : option_map (λ bytes. bytes.items) answer ≡ given.reply
  pub same : new ≡ record old { replica = new.replica; tally = new.tally; notifications = new.notifications }

-- the store looks at the token of a notification, and not where it comes from
abbrev pub anywhere : Addr
anywhere = V4 (0 ∷ 0 ∷ 0 ∷ 0 ∷ []) 0

-- ---- an observation whose request came to nothing ends (RFC 7641, sections 3.4 and 3.6)
-- what is told of it: it has ended, as the code says
abbrev pub ended_notice : Stamp → ℕ → Registration × Watch → NoticeContent
ended_notice token code found = record {
  token = token;
  id = found.0.id;
  endpoint = found.0.endpoint;
  path = found.1.path;
  code = code;
  observe = None;
  format = None;
  ended = true;
  payload = [];
}

-- what is to be told, if the observation lives
pub record IsEnding (server : ServerContent) (token : Stamp) (code : ℕ) (notice : Option NoticeContent) : Type 0 where
  pub found : Option (Registration × Watch)
  pub by_token : ByToken (shown_in server.replica.node.table.state) (ms_of server.latest) token found
  pub notice_is : notice ≡ option_map (ended_notice token code) found

-- nothing is known of it while the log does not cover all that the node knows
abbrev pub IsEndingIf : Bool → ServerContent → Option Stamp → ℕ → Option NoticeContent → Type 0
IsEndingIf false server token code notice = notice ≡ None
IsEndingIf true server None code notice = notice ≡ None
IsEndingIf true server (Some token) code notice = IsEnding server token code notice

-- If it lives, it is to end with the others that are to end, and that is to be told; else there is nothing to do.
abbrev pub closing : Option NoticeContent → List TaskContent
closing None = []
closing (Some notice) = Close notice false ∷ []

pub record Ends (token : Stamp) (code : ℕ) (old new : ServerContent) : Type 0 where
  pub notice : Option NoticeContent
  pub is : IsEnding old token code notice
  pub same : new ≡ record old {
    devices =
        record (old.devices) { tasks = without_first (old.devices.tasks ++ closing notice) };
  }

-- All that are to end do so in one round.
abbrev pub cancel_of : Moment → TaskContent → Option Call
cancel_of now (Close notice false) = Some (calls.Cancel now notice.token 0)
cancel_of now task = None

abbrev pub cancels_of : Moment → List TaskContent → List Call
cancels_of now tasks = filter_map (cancel_of now) tasks

-- they have ended, and that is told next
abbrev pub over : TaskContent → TaskContent
over (Close notice is_over) = Close notice true
over task = task

-- the node had no memory for the call; where the observation had ended already, there was nothing to do
abbrev pub is_refused : Reply → Bool
is_refused (replies.Cancel (Err observe_faults.NoMemory)) = true
is_refused reply = false

pub record Closes (old new : ServerContent) : Type 0 where
  pub replies : List Reply
  pub round : IsRound old.replica (cancels_of old.latest old.devices.tasks) replies new.replica
  pub counts : new.tally ≡ counted old.tally (cancels_of old.latest old.devices.tasks) replies
  pub had_memory : list_any is_refused replies ≡ false
  pub same : new ≡ record old {
    replica = new.replica;
    tally = new.tally;
    devices =
        record (old.devices) { tasks = map over old.devices.tasks };
  }

-- one that has ended is told
pub record TellsEnd (notice : NoticeContent) (old new : ServerContent) : Type 0 where
  pub told : IsPublished old.steady notice true
      (with_capacity old.notifications new.notifications.buffer.capacity) new.notifications
  pub same : new ≡ record (done_first old) { notifications = new.notifications }

abbrev pub IsClosed : NoticeContent → Bool → ServerContent → ServerContent → Type 0
IsClosed notice false old new = Closes old new
IsClosed notice true old new = TellsEnd notice old new

-- ---- a report whose round failed may have ended its observation (RFC 7641, section 3.2)
-- of its token, if that is of a live observation, this is to be told then: it has ended, as the code of the report says
abbrev pub code_in : List ℕ → ℕ
code_in (first ∷ code ∷ rest) = code
code_in bytes = 0

pub record IsAtStake (server : ServerContent) (bytes : List ℕ) (notice : Option NoticeContent) : Type 0 where
  pub token : Option Stamp
  pub is_token : (s : Stamp) → (token ≡ Some s) ↔ (stamp_bytes s ≡ token_in bytes)
  pub is : IsEndingIf server.replica.durable server token (code_in bytes) notice

-- where the observation lives no more, it is told that it has ended; else there is nothing to do
abbrev pub overdue : NoticeContent → Option (Registration × Watch) → List TaskContent
overdue notice None = Close notice true ∷ []
overdue notice (Some found) = []

pub record Checks (notice : NoticeContent) (old new : ServerContent) : Type 0 where
  pub found : Option (Registration × Watch)
  pub by_token : ByToken (shown_in old.replica.node.table.state) (ms_of old.latest) notice.token found
  pub same : new ≡ record old {
    devices =
        record (old.devices) { tasks = without_first (old.devices.tasks ++ overdue notice found) };
  }

-- What a report leaves where it failed: nothing has changed; or its round may have been made, and it is to be looked at
-- whether its observation lives.
abbrev pub checking : Option NoticeContent → List TaskContent
checking None = []
checking (Some notice) = Check notice ∷ []

pub record IsReportLeft (bytes : List ℕ) (old new : ServerContent) : Type 0 where
  pub notice : Option NoticeContent
  pub at_stake : IsAtStake old bytes notice
  pub left : new ≡ record old {
    replica = new.replica;
    tally = new.tally;
    notifications = with_capacity old.notifications new.notifications.buffer.capacity;
    devices = record (old.devices) { tasks = old.devices.tasks ++ checking notice };
  }

abbrev pub LeavesReport : List ℕ → ServerContent → ServerContent → Type 0
LeavesReport bytes old new = (new ≡ old) ⊎ IsReportLeft bytes old new

-- ---- what a failed round has left (RFC 7641, section 3.6)
-- a live watch of the registration with the identifier, on the path
pub record IsWatchOn (M : Marks) (now : ℕ) (id : Stamp) (path : Path) (watch : Watch) : Type 0 where
  pub registration : Registration
  pub named : ById M now id (Some registration)
  pub lives : LivesOf M now registration.endpoint watch
  pub on : watch.path ≡ path

-- the watches of the registration one after another, from the first on; the last of them stands in front
abbrev pub path_of_last : List (Registration × Watch) → Option Path
path_of_last [] = None
path_of_last (x ∷ before) = Some x.1.path

abbrev pub AreWatches : Marks → ℕ → Stamp → List (Registration × Watch) → Type 0
AreWatches M now id [] = Unit {0}
AreWatches M now id (x ∷ before) = WatchOfIdAfter M now id (path_of_last before) (Some x) × AreWatches M now id before

abbrev pub AreElsewhere : Path → List (Registration × Watch) → Type 0
AreElsewhere path [] = Unit {0}
AreElsewhere path (x ∷ before) = (x.1.path ≢ path) × AreElsewhere path before

-- so many were looked at, from the first on, and none of them is on the path
pub record LookedAt (M : Marks) (now : ℕ) (id : Stamp) (path : Path) (after : Option Path) (count : ℕ) : Type 0 where
  pub watches : List (Registration × Watch)
  pub are : AreWatches M now id watches
  pub elsewhere : AreElsewhere path watches
  pub last : after ≡ path_of_last watches
  pub count_is : length watches ≡ count

-- None is on the path: there is none behind those that were looked at, or they are 65,536.
pub record IsNoneOn (M : Marks) (now : ℕ) (id : Stamp) (path : Path) : Type 0 where
  pub after : Option Path
  pub count : ℕ
  pub looked : LookedAt M now id path after count
  pub over : WatchOfIdAfter M now id after None ⊎ (count ≡ 65536)

-- the token of what is observed on the path, if something is
abbrev pub IsTokenOn : Marks → ℕ → Stamp → Path → Option Stamp → Type 0
IsTokenOn M now id path None = IsNoneOn M now id path
IsTokenOn M now id path (Some token) = (watch : Watch) × IsWatchOn M now id path watch × (watch.token ≡ token)

pub record Cancels (token : Stamp) (old new : ServerContent) : Type 0 where
  pub reply : Reply
  pub call : MakesCall (calls.Cancel old.latest token 0) reply old new
  pub same : new ≡ record old { replica = new.replica; tally = new.tally }

abbrev pub CancelsIf : Option Stamp → ServerContent → ServerContent → Type 0
CancelsIf None old new = new ≡ old
CancelsIf (Some token) old new = Cancels token old new

-- what is there ends, if it is not what was there before
pub record Undoes (id : Stamp) (path : Path) (before : Option Stamp) (old new : ServerContent) : Type 0 where
  pub there : Option Stamp
  pub is : IsTokenOn (shown_in old.replica.node.table.state) (ms_of old.latest) id path there
  pub stays : there ≡ before → new ≡ old
  pub ends : there ≢ before → CancelsIf there old new

-- ---- a step
-- The first thing that is left to do is done, and is left no more.
abbrev pub IsDone : TaskContent → ServerContent → ServerContent → Type 0
IsDone (End token code) old new = Ends token code old new
IsDone (Close notice is_over) old new = IsClosed notice is_over old new
IsDone (Check notice) old new = Checks notice old new
IsDone (Cut fetch) old new = IsFirstCut fetch old.devices new.devices × (new ≡ record old { devices = new.devices })
IsDone (Tell message is_complete) old new =
    (mid : ServerContent) × ((answer : Option (Vec ℕ Global)) × IsReport anywhere message is_complete old answer mid)
    × (new ≡ done_first mid)
IsDone (Undo id path before) old new = (mid : ServerContent) × Undoes id path before old mid × (new ≡ done_first mid)

-- where nothing is left to do, a step with the requests is made
pub record IsRequestStep (old : ServerContent) (it : Progress) (new : ServerContent) : Type 0 where
  pub steps : StepsRequests old.steady old.devices old.ids it new.devices new.ids
  pub same : new ≡ record old { devices = new.devices; ids = new.ids }

abbrev pub IsStepOf : Option TaskContent → ServerContent → Progress → ServerContent → Type 0
IsStepOf None old it new = IsRequestStep old it new
IsStepOf (Some task) old it new = (it ≡ progress.Moved) × IsDone task old new

-- A step of a server, at the moment that its clocks told last.
abbrev pub IsNextStep : ServerContent → Progress → ServerContent → Type 0
IsNextStep old it new = IsStepOf (first_of old.devices.tasks) old it new
