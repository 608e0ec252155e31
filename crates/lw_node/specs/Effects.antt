-- What a datagram, an observation, its end and a sweep mean to a node that knows a set of marks (LwM2M 1.1 Core, section
-- 6.2; RFC 7252, sections 4.2, 4.3 and 5.2; RFC 7641, section 3): a reply or none, a notice or none, and at most
-- one operation.
use Rattle.std.specs.Prelude.{◌≡◌, ℕ, ◌+◌, ◌-◌, ◌^◌, ◌/◌, ◌⊎◌, List, [], ◌∷◌, ◌++◌, map, IsSome, Option, Some, None, Result, Ok, Err, false, true, Bool}
use Rattle.std.specs.Fmt.{decimal}
use Rattle.std.specs.Int.Digits.{digits_of}
use Rattle.lw_stamp.specs.declared.stamp.Stamp.{Stamp}
use Rattle.lw_stamp.specs.Moment.{ms_of}
use Rattle.lw_stamp.specs.Stamp.{stamp_bytes}
use Rattle.lw_coap.specs.declared.message.Kind.{Kind}
use Rattle.lw_coap.specs.declared.message.Kind.TheVariants.{Con, Non, Ack, Rst}
use Rattle.lw_coap.specs.declared.fault.Fault.{Fault}
use Rattle.lw_coap.specs.Message.{OptionContent, MessageContent}
use Rattle.lw_coap.specs.Grammar.{IsSpelling}
use Rattle.lw_coap.specs.Faults.{IsFault}
use Rattle.lw_coap.specs.Header.{HasHeader}
use Rattle.lw_reg.specs.declared.addr.Addr.{Addr}
use Rattle.lw_reg.specs.declared.op.Op.{Op}
use Rattle.lw_reg.specs.declared.op.What.{What}
use Rattle.lw_reg.specs.declared.op.What.TheVariants as whats
use Rattle.lw_reg.specs.declared.path.Path.{Path}
use Rattle.lw_reg.specs.declared.settings.GivenSettings.{GivenSettings}
use Rattle.lw_reg.specs.declared.settings.Settings.{Settings}
use Rattle.lw_reg.specs.declared.version.Version.{Version}
use Rattle.lw_reg.specs.declared.watch.Watch.{Watch}
use Rattle.lw_reg.specs.Marks.{Marks}
use Rattle.lw_reg.specs.Marks.Trace.{SeenAt}
use Rattle.lw_reg.specs.Orders.{moment_cmp}
use Rattle.lw_reg.specs.Path.{path_numbers}
use Rattle.lw_reg.specs.Registration.{Registration}
use Rattle.lw_reg.specs.Showing.{IsWrite}
use Rattle.lw_request.specs.declared.asked.Asked.{Asked}
use Rattle.lw_request.specs.declared.asked.Asked.TheVariants.{Register, Update, Deregister, Report, Ping, Refuse, Reject, Ignore}
use Rattle.lw_request.specs.Meaning.{Means}
use Rattle.lw_request.specs.Report.{ReportContent}
use Rattle.lw_request.specs.Reply.{answer_of, reset_of, ack_of, code_of}
use Rattle.lw_table.specs.Answers.{IsFirstAnswer}
use Rattle.lw_table.specs.LookUps.{ById, ByToken, IsExpiredAfter}
use Rattle.lw_call.specs.Contents.{NoticeContent}

-- where and when a call comes: the node's number and clock, and the moment
pub record Issuer : Type 0 where
  pub number : ℕ
  pub clock : ℕ
  pub now : ℕ

-- what a call is to give and to leave: a reply or none, a notice or none, and an operation or none
pub record Effect : Type 0 where
  pub reply : Option MessageContent
  pub notice : Option NoticeContent
  pub operation : Option Op

abbrev pub nothing : Effect
nothing = record { reply = None; notice = None; operation = None }

abbrev pub replies : MessageContent → Effect
replies message = record { reply = Some message; notice = None; operation = None }

-- a confirmable message is reset, and any other has no reply (RFC 7252, sections 4.2 and 4.3)
abbrev pub rejected : Kind → ℕ → Option MessageContent
rejected Con mid = Some (reset_of mid)
rejected Non mid = None
rejected Ack mid = None
rejected Rst mid = None

-- a confirmable notification is acknowledged (RFC 7641, section 4.5)
abbrev pub acknowledged : Kind → ℕ → Option MessageContent
acknowledged Con mid = Some (ack_of mid)
acknowledged Non mid = None
acknowledged Ack mid = None
acknowledged Rst mid = None

-- a notification that nobody waits for is reset, save in an acknowledgement (RFC 7641, section 3.6)
abbrev pub unwanted : Kind → ℕ → Option MessageContent
unwanted Con mid = Some (reset_of mid)
unwanted Non mid = Some (reset_of mid)
unwanted Ack mid = None
unwanted Rst mid = None

-- the answer to a request
abbrev pub answers : MessageContent → ℕ → Option Stamp → MessageContent
answers request code location = answer_of request.kind request.mid request.token code location

-- ---- operations
-- no stamp is left
abbrev pub IsAtEnd : Issuer → Type 0
IsAtEnd issuer = issuer.clock ≡ 2 ^ 48 - 1

-- the stamp is the next of the node's clock
pub record IsNext (issuer : Issuer) (stamp : Stamp) : Type 0 where
  pub counter : stamp.counter ≡ issuer.clock + 1
  pub node : stamp.node ≡ issuer.number

-- With the clock at its end the request is refused, with 5.03; otherwise an operation is issued that does what is
-- asked for, and the reply tells so.
abbrev pub Issues : Issuer → MessageContent → (Op → Type 0) → (Op → MessageContent) → Effect → Type 0
Issues issuer request Does reply effect =
    (IsAtEnd issuer × (effect ≡ replies (answers request 163 None)))
    ⊎ ((op : Op) × IsNext issuer op.stamp × Does op × (effect ≡ record { reply = Some (reply op); notice = None; operation = Some op }))

-- ---- a Register
-- it writes what is asked for, the source address and the moment
abbrev pub WritesAll : ℕ → Addr → Version → Bool → Settings → What → Type 0
WritesAll now source version queue settings (whats.Register v q address seen s) =
    (v ≡ version) × (q ≡ queue) × (address ≡ source) × (ms_of seen ≡ now) × (s ≡ settings)
WritesAll now source version queue settings _ = ⊥

-- it is about the registration that it makes
pub record Registers (now : ℕ) (source : Addr) (endpoint : List ℕ) (version : Version) (queue : Bool) (settings : Settings) (op : Op) : Type 0 where
  pub endpoint_is : op.endpoint ≡ endpoint
  pub registration : op.reg ≡ op.stamp
  pub writes : WritesAll now source version queue settings op.what

-- 2.01 Created, with the location
abbrev pub created : MessageContent → Op → MessageContent
created request op = answers request 65 (Some op.stamp)

-- ---- an Update, a Deregister
-- it writes the source address and the moment, and what else is given
abbrev pub WritesGiven : ℕ → Addr → GivenSettings → What → Type 0
WritesGiven now source settings (whats.Update address seen s) =
    (address ≡ source) × (ms_of seen ≡ now) × (s ≡ settings)
WritesGiven now source settings _ = ⊥

-- it is about the registration
pub record IsAbout (r : Registration) (op : Op) : Type 0 where
  pub endpoint : op.endpoint ≡ r.endpoint
  pub registration : op.reg ≡ r.id

abbrev pub answered : MessageContent → ℕ → Op → MessageContent
answered request code op = answers request code None

-- what the request names, if it names a shown registration
abbrev pub IsNamed : Marks → ℕ → Option Stamp → Option Registration → Type 0
IsNamed M now None found = found ≡ None
IsNamed M now (Some id) found = ById M now id found

-- A request for no shown registration is refused, with 4.04; another is an operation on it.
abbrev pub Changes : Issuer → MessageContent → (What → Type 0) → ℕ → Option Registration → Effect → Type 0
Changes issuer request Does code None effect = effect ≡ replies (answers request 132 None)
Changes issuer request Does code (Some r) effect =
    Issues issuer request (λ op. IsAbout r op × Does op.what) (answered request code) effect

abbrev pub NamedChanges : Issuer → Marks → MessageContent → Option Stamp → (What → Type 0) → ℕ → Effect → Type 0
NamedChanges issuer M request id Does code effect =
    (found : Option Registration) × IsNamed M issuer.now id found × Changes issuer request Does code found effect

-- ---- a report
-- the token is that of a stamp, and a watch lives with it
abbrev pub IsWatched : Marks → ℕ → List ℕ → Registration × Watch → Type 0
IsWatched M now token x = (stamp : Stamp) × (token ≡ stamp_bytes stamp) × ByToken M now stamp (Some x)

abbrev pub notice_of : ReportContent → Registration × Watch → Bool → NoticeContent
notice_of report x ended = record {
  token = x.1.token;
  id = x.0.id;
  endpoint = x.0.endpoint;
  path = x.1.path;
  code = report.code;
  observe = report.observe;
  format = report.format;
  ended = ended;
  payload = report.payload;
}

-- a success of an observation that goes on
pub record GoesOn (report : ReportContent) : Type 0 where
  pub success : report.code / 32 ≡ 2
  pub observed : IsSome report.observe

-- The operation ends the watch.
pub record Cancels (x : Registration × Watch) (op : Op) : Type 0 where
  pub about : IsAbout x.0 op
  pub what : op.what ≡ whats.Cancel x.1.path x.1.token

-- A report of a watch that ends it is a Cancel; with the clock at its end it is rejected.
abbrev pub EndsWatch : Issuer → ReportContent → Registration × Watch → Effect → Type 0
EndsWatch issuer report x effect =
    (IsAtEnd issuer × (effect ≡ record { reply = rejected report.kind report.mid; notice = None; operation = None }))
    ⊎ ((op : Op) × IsNext issuer op.stamp × Cancels x op × (effect ≡ record { reply = acknowledged report.kind report.mid; notice = Some (notice_of report x true); operation = Some op }))

-- A report with a token that no live watch has is unwanted; one of a watch that goes on is told, and one that
-- ends it as well.
abbrev pub ReportMeans : Issuer → Marks → ReportContent → Effect → Type 0
ReportMeans issuer M report effect =
    (((x : Registration × Watch) → ¬ IsWatched M issuer.now report.token x) × (effect ≡ record { reply = unwanted report.kind report.mid; notice = None; operation = None }))
    ⊎ ((x : Registration × Watch) × IsWatched M issuer.now report.token x
    × ((GoesOn report × (effect ≡ record { reply = acknowledged report.kind report.mid; notice = Some (notice_of report x false); operation = None }))
    ⊎ ((GoesOn report → ⊥) × EndsWatch issuer report x effect)))

-- ---- a datagram
-- what the message asks for, done
abbrev pub Does : Issuer → Marks → Addr → MessageContent → Asked → Effect → Type 0
Does issuer M source m (Register endpoint version queue settings) effect =
    Issues issuer m (Registers issuer.now source endpoint version queue settings) (created m) effect
Does issuer M source m (Update id settings) effect =
    NamedChanges issuer M m id (WritesGiven issuer.now source settings) 68 effect
Does issuer M source m (Deregister id) effect =
    NamedChanges issuer M m id (λ what. what ≡ whats.Remove) 66 effect
Does issuer M source m (Report report) effect = ReportMeans issuer M report effect
Does issuer M source m Ping effect = effect ≡ replies (reset_of m.mid)
Does issuer M source m (Refuse refusal) effect = effect ≡ replies (answers m (code_of refusal) None)
Does issuer M source m Reject effect = effect ≡ record { reply = rejected m.kind m.mid; notice = None; operation = None }
Does issuer M source m Ignore effect = effect ≡ nothing

-- a message does what it asks for
abbrev pub MessageMeans : Issuer → Marks → Addr → MessageContent → Effect → Type 0
MessageMeans issuer M source m effect = (asked : Asked) × Means m asked × Does issuer M source m asked effect

-- the bytes have no header of a confirmable message
abbrev pub HasNoConfirmable : List ℕ → Type 0
HasNoConfirmable bytes = (code mid : ℕ) → ¬ HasHeader bytes Con code mid

-- A malformed confirmable message is reset where its header can be read; anything else is ignored
-- (RFC 7252, section 4.2).
abbrev pub MalformedMeans : List ℕ → Effect → Type 0
MalformedMeans bytes effect =
    ((code : ℕ) × (mid : ℕ) × HasHeader bytes Con code mid × (effect ≡ replies (reset_of mid)))
    ⊎ (HasNoConfirmable bytes × (effect ≡ nothing))

-- a datagram that spells a message does what that asks for
abbrev pub DatagramMeans : Issuer → Marks → Addr → List ℕ → Effect → Type 0
DatagramMeans issuer M source bytes effect =
    ((m : MessageContent) × IsSpelling bytes m × MessageMeans issuer M source m effect)
    ⊎ ((fault : Fault) × IsFault bytes fault × MalformedMeans bytes effect)

-- ---- commands
-- what is sent to a device: to where, with which token, and the message
pub record Request : Type 0 where
  pub to : Addr
  pub token : Stamp
  pub message : MessageContent

-- why a command is refused
pub data Refused : Type 0 where
  NotFound : Refused
  ClockEnd : Refused

-- a number as an option's value: the fewest bytes, none for 0 (RFC 7252, section 3.2)
abbrev pub number_option : ℕ → ℕ → OptionContent
number_option number value = record { number = number; value = digits_of 256 value }

-- each number of a path is a segment, in decimal (LwM2M 1.1 Transport, section 6.4)
abbrev pub segment : ℕ → OptionContent
segment number = record { number = 11; value = decimal number }

abbrev pub accepts : Option ℕ → List OptionContent
accepts None = []
accepts (Some format) = number_option 17 format ∷ []

-- A confirmable GET with the token, which observes the path (Observe 0) or ends that (Observe 1), in the format
-- that is accepted, if one is (RFC 7641, sections 2 and 3.6).
abbrev pub get_of : ℕ → ℕ → Stamp → Path → Option ℕ → MessageContent
get_of mid observe token path accept = record {
  kind = Con;
  code = 1;
  mid = mid;
  token = stamp_bytes token;
  options = number_option 6 observe ∷ (map segment (path_numbers path) ++ accepts accept);
  payload = [];
}

-- A command about nothing that is shown is refused; next comes the end of the clock; another is an operation on
-- the registration, and a request to its address.
abbrev pub CommandMeans : {X : Type 0} → Issuer → Option X → (X → Registration) → (X → Op → Type 0) → (X → Op → Request) → Result (Request × Op) Refused → Type 0
CommandMeans issuer None of_found Does sends outcome = outcome ≡ Err NotFound
CommandMeans issuer (Some x) of_found Does sends outcome =
    (IsAtEnd issuer × (outcome ≡ Err ClockEnd))
    ⊎ ((op : Op) × IsNext issuer op.stamp × IsAbout (of_found x) op × Does x op × (outcome ≡ Ok (sends x op, op)))

-- the observation's token is the stamp of its operation
abbrev pub observes : ℕ → Path → Option ℕ → Registration → Op → Request
observes mid path accept r op = record { to = r.address; token = op.stamp; message = get_of mid 0 op.stamp path accept }

-- an observation of a path of the registration with the identifier
abbrev pub ObserveMeans : Issuer → Marks → Stamp → Path → Option ℕ → ℕ → Result (Request × Op) Refused → Type 0
ObserveMeans issuer M id path accept mid outcome =
    (found : Option Registration) × ById M issuer.now id found
    × CommandMeans issuer found (λ r. r) (λ r op. op.what ≡ whats.Observe path accept) (observes mid path accept) outcome

abbrev pub ends : ℕ → Registration × Watch → Op → Request
ends mid x op = record { to = x.0.address; token = x.1.token; message = get_of mid 1 x.1.token x.1.path x.1.accept }

-- the end of the observation with the token
abbrev pub CancelMeans : Issuer → Marks → Stamp → ℕ → Result (Request × Op) Refused → Type 0
CancelMeans issuer M token mid outcome =
    (found : Option (Registration × Watch)) × ByToken M issuer.now token found
    × CommandMeans issuer found (λ x. x.0) (λ x op. op.what ≡ whats.Cancel x.1.path x.1.token) (ends mid) outcome

-- ---- a sweep
-- the operation tells that the registration is over, as it was last seen
pub record Expires (M : Marks) (r : Registration) (op : Op) : Type 0 where
  pub about : IsAbout r op
  pub upto : Stamp
  pub seen : IsWrite moment_cmp SeenAt M r.endpoint r.id (upto, r.seen)
  pub what : op.what ≡ whats.Expire upto

-- Where nothing has expired there is no operation; next comes the end of the clock; another ends the registration.
abbrev pub SweepsFirst : Issuer → Marks → Option Registration → Result (Option Op) Refused → Type 0
SweepsFirst issuer M None outcome = outcome ≡ Ok None
SweepsFirst issuer M (Some r) outcome =
    (IsAtEnd issuer × (outcome ≡ Err ClockEnd))
    ⊎ ((op : Op) × IsNext issuer op.stamp × Expires M r op × (outcome ≡ Ok (Some op)))

-- the registration of the least endpoint that has expired ends
abbrev pub SweepMeans : Issuer → Marks → Result (Option Op) Refused → Type 0
SweepMeans issuer M outcome =
    (found : Option Registration) × IsFirstAnswer (IsExpiredAfter M issuer.now None) found × SweepsFirst issuer M found outcome
