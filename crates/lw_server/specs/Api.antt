-- What a server tells over HTTP (RFC 9110, section 15; RFC 8259).
use Rattle.std.specs.Prelude.{◌≡◌, ◌≢◌, ◌↔◌, ◌≤◌, ◌*◌, ◌⊎◌, ℕ, IsTrue, Bool, true, false, not, ◌&&◌, List, length, Option, Some, None, IsSomeAnd, if◌then◌else◌, codes, string_bytes}
use Rattle.serde_json.specs.Written.{compact_text}
use Rattle.lw_stamp.specs.Moment.{ms_of}
use Rattle.lw_node.specs.Node.{NodeContent}
use Rattle.lw_replica.specs.Clocks.{year_2100}
use Rattle.lw_replica.specs.Replica.{ReplicaContent}
use Rattle.lw_json.specs.Json.{health_json}
use Rattle.lw_metrics.specs.declared.measures.Measures.{Measures}
use Rattle.lw_metrics.specs.declared.measures.NodeMeasures.{NodeMeasures}
use Rattle.lw_metrics.specs.declared.requests.RequestMeasures.{RequestMeasures}
use Rattle.lw_metrics.specs.IoCounters.{together}
use Rattle.lw_metrics.specs.Exposition.{exposition}
use Rattle.lw_metrics.specs.Families.{families_of}
use Rattle.lw_route.specs.declared.api_query.ApiQuery.{ApiQuery}
use Rattle.lw_route.specs.declared.api_query.ApiQuery.TheVariants.{Page, Health, Metrics, Notifications}
use Rattle.lw_route.specs.declared.api.ApiResponse.{ApiResponse}
use Rattle.lw_route.specs.declared.api.Media.TheVariants as media
use Rattle.lw_route.specs.declared.api.Status.{Status}
use Rattle.lw_route.specs.declared.api.Status.TheVariants as status
use Rattle.lw_api.specs.declared.answering.About.{About}
use Rattle.lw_api.specs.Answers.{CountsRegistrations, IsAnswer, IsJson, IsNotFound}
use Rattle.lw_api.specs.Notifications.{IsNotificationsAnswer}
use Rattle.lw_server.specs.Server.{ServerContent}

abbrev pub version : List ℕ
version = codes "0.1.0"

-- what the server knows of its start: the number, once its log has told that it is its own, and the tag
abbrev pub about_of : ReplicaContent → About
about_of replica = record { number = if replica.claimed then Some replica.node.number else None; tag = replica.tag }

-- ---- whether it serves: it is unavailable while its log cannot be asked, or does not cover all that the node knows
abbrev pub serves : ServerContent → Bool
serves server = not server.log_unavailable && server.replica.durable

abbrev pub health_status : Bool → Status
health_status true = status.Ok
health_status false = status.ServiceUnavailable

-- what a start in 2100 would raise the counter to, or more
abbrev pub NearsEnd : ℕ → Type 0
NearsEnd counter = 64 * year_2100 ≤ counter

abbrev pub IsHealth : ServerContent → Bool → Bool → ApiResponse → Type 0
IsHealth server is_serving nears_end =
    IsJson (health_status is_serving) (compact_text (health_json server.latest is_serving nears_end version))

-- that the counter nears its end is told while it serves
abbrev pub TellsHealth : ServerContent → ApiResponse → Type 0
TellsHealth server answer =
    ((serves server ≡ true) × (nears_end : Bool) × (IsTrue nears_end ↔ NearsEnd server.replica.node.clock)
    × IsHealth server true nears_end answer)
    ⊎ ((serves server ≡ false) × IsHealth server false false answer)

-- ---- the page, where there is one
abbrev pub TellsPage : Option (List ℕ) → ApiResponse → Type 0
TellsPage None answer = IsNotFound answer
TellsPage (Some page) answer =
    (answer.status ≡ status.Ok) × ((answer.media ≡ media.Html) × (string_bytes answer.body ≡ page))

-- ---- measures
pub record AreOfNode (node : NodeContent) (measures : NodeMeasures) : Type 0 where
  pub registrations : CountsRegistrations node.table.state measures.registrations
  pub counter : measures.counter ≡ node.clock
  pub change : measures.change ≡ node.table.count.change
  pub number : measures.number ≡ node.number

-- nothing is told of the node while the server is unavailable
abbrev pub IsMeasuredBy : Bool → NodeContent → Option NodeMeasures → Type 0
IsMeasuredBy true node measures = IsSomeAnd measures (AreOfNode node)
IsMeasuredBy false node measures = measures ≡ None

pub record AreRequestMeasures (server : ServerContent) (measures : RequestMeasures) : Type 0 where
  pub sent : measures.requests_sent ≡ server.devices.counts.sent
  pub sent_again : measures.requests_sent_again ≡ server.devices.counts.sent_again
  pub reset : measures.requests_reset ≡ server.devices.counts.reset
  pub unanswered : measures.requests_unanswered ≡ server.devices.counts.unanswered
  pub waiting : measures.requests_waiting ≡ length server.devices.requests
  pub stale : measures.notifications_stale ≡ server.notifications.stale
  pub blocks : measures.notification_blocks ≡ server.devices.counts.blocks
  pub fetches : measures.fetches ≡ length server.devices.fetches.fetches
  pub without_message_id : measures.without_message_id ≡ server.without_message_id

pub record AreMeasures (server : ServerContent) (measures : Measures) : Type 0 where
  pub version_is : measures.version.now ≡ version
  pub started : measures.started ≡ server.started
  pub node : IsMeasuredBy (serves server) server.replica.node measures.node
  pub tally : measures.tally ≡ server.tally
  pub passed_over : measures.passed_over ≡ server.passed_over
  pub log_unavailable : measures.log_unavailable ≡ not (serves server)
  pub log_bytes : measures.log_bytes ≡ together server.replica.snapshot server.replica.behind
  pub log_whole_bytes : measures.log_whole_bytes ≡ server.replica.snapshot
  pub io_counters : measures.io_counters ≡ server.io_counters
  pub duplicates : measures.duplicates ≡ server.duplicates
  pub blocks : measures.blocks ≡ server.blocks
  pub bodies : measures.bodies ≡ length server.bodies
  pub requests : AreRequestMeasures server measures.requests

pub record TellsMetrics (server : ServerContent) (answer : ApiResponse) : Type 0 where
  pub measures : Measures
  pub are : AreMeasures server measures
  pub status_is : answer.status ≡ status.Ok
  pub media_is : answer.media ≡ media.Metrics
  pub body_is : string_bytes answer.body ≡ exposition (families_of measures)

-- ---- what its node tells, at the moment of the last turn; nothing is told that the log does not cover
abbrev pub TellsOfNode : Bool → ServerContent → ApiQuery → ApiResponse → Type 0
TellsOfNode true server api_query answer =
    IsAnswer server.replica.node (about_of server.replica) (ms_of server.latest) api_query answer
TellsOfNode false server api_query answer = IsJson status.ServiceUnavailable (codes "{\"error\":\"away\"}") answer

-- what devices told
abbrev pub TellsNotifications : Bool → ServerContent → ℕ → Option ℕ → ℕ → ApiResponse → Type 0
TellsNotifications true server from start limit answer =
    IsNotificationsAnswer server.notifications.buffer (about_of server.replica) from start limit answer
TellsNotifications false server from start limit answer = IsJson status.ServiceUnavailable (codes "{\"error\":\"away\"}") answer

pub record TellsOf (server : ServerContent) (api_query : ApiQuery) (answer : ApiResponse) : Type 0 where
  pub page : api_query ≡ Page → TellsPage server.page answer
  pub health : api_query ≡ Health → TellsHealth server answer
  pub metrics : api_query ≡ Metrics → TellsMetrics server answer
  pub notifications : (from : ℕ) (start : Option ℕ) (limit : ℕ) → api_query ≡ Notifications from start limit
      → TellsNotifications (serves server) server from start limit answer
  pub node : api_query ≢ Page → api_query ≢ Health → api_query ≢ Metrics
      → ((from : ℕ) (start : Option ℕ) (limit : ℕ) → api_query ≢ Notifications from start limit)
      → TellsOfNode (serves server) server api_query answer
