-- What is shown of the measures of a server.
use Rattle.std.specs.Prelude.{ℕ, ◌/◌, ◌%◌, List, [], ◌∷◌, ◌++◌, codes, fold, map, if◌then◌else◌, Option, Some, None}
use Rattle.std.specs.List.{zip}
use Rattle.std.specs.Fmt.{decimal}
use Rattle.lw_stamp.specs.Moment.{ms_of}
use Rattle.lw_metrics.specs.declared.append_times.AppendTimes.{AppendTimes}
use Rattle.lw_metrics.specs.declared.io_counters.LogCounters.{LogCounters}
use Rattle.lw_metrics.specs.declared.io_counters.IoCounters.{IoCounters}
use Rattle.lw_metrics.specs.declared.measures.Measures.{Measures}
use Rattle.lw_metrics.specs.declared.measures.NodeMeasures.{NodeMeasures}
use Rattle.lw_metrics.specs.declared.metric.Metric.{Metric}
use Rattle.lw_metrics.specs.declared.metric.Metric.TheVariants.{BuildInfo, StartTime, Registrations, StampClock, Change, Number, Rounds, Datagrams, Replies, EmptyReplies, Unanswered, Notifications, Swept, NoMemory, RequestsSent, RequestsSentAgain, RequestsReset, RequestsUnanswered, RequestsWaiting, NotificationsStale, NotificationBlocks, Fetches, Unnumbered, PassedOver, LogAway, AppendSeconds, EntriesWritten, EntriesRead, LogBytes, WholeBytes, Compactions, AwaySeconds, Refusals, ClockOffset, ReceiveFaults, SendFaults, Dropped, SocketDrops, Duplicates, Blocks, Bodies, Responses}
use Rattle.lw_metrics.specs.declared.requests.RequestMeasures.{RequestMeasures}
use Rattle.lw_metrics.specs.declared.responses.Responses.{Responses as ResponseCounts}
use Rattle.lw_metrics.specs.declared.tally.Tally.{Tally}
use Rattle.lw_metrics.specs.IoCounters.{statuses, together}
use Rattle.lw_metrics.specs.Exposition.{Sample, Family}
use Rattle.lw_metrics.specs.ReplyCodes.{reply_codes, code_text}

-- ---- samples
abbrev pub plain : List ℕ → Sample
plain value = record { suffix = []; label = None; value = value }

abbrev pub suffixed : List ℕ → List ℕ → List ℕ → ℕ → Sample
suffixed suffix name value number =
    record { suffix = suffix; label = Some (record { name = name; value = value }); value = decimal number }

abbrev pub labelled : List ℕ → List ℕ → ℕ → Sample
labelled = suffixed []

-- one sample without a label
abbrev pub of_number : Metric → ℕ → Family
of_number metric number = record { metric = metric; samples = plain (decimal number) ∷ [] }

-- microseconds are told as seconds, with six digits behind the point
unfoldable pub seconds_text : ℕ → List ℕ
seconds_text microseconds =
    decimal (microseconds / 1000000)
    ++ (46 ∷ (decimal (microseconds / 100000 % 10)
    ++ (decimal (microseconds / 10000 % 10)
    ++ (decimal (microseconds / 1000 % 10)
    ++ (decimal (microseconds / 100 % 10)
    ++ (decimal (microseconds / 10 % 10)
    ++ decimal (microseconds % 10)))))))

abbrev pub of_seconds : Metric → ℕ → Family
of_seconds metric microseconds = record { metric = metric; samples = plain (seconds_text microseconds) ∷ [] }

abbrev pub version_family : List ℕ → Family
version_family version = record { metric = BuildInfo; samples = labelled (codes "version") version 1 ∷ [] }

-- how many replies have a code
abbrev pub reply_sample : ℕ × ℕ → Sample
reply_sample reply = labelled (codes "code") (code_text reply.0) reply.1

abbrev pub reply_family : List ℕ → Family
reply_family numbers = record { metric = Replies; samples = map reply_sample (zip reply_codes numbers) }

-- how many responses have a status
abbrev pub response_sample : ℕ × ℕ → Sample
response_sample response = labelled (codes "status") (decimal response.0) response.1

abbrev pub response_family : ResponseCounts → Family
response_family responses =
    record { metric = Responses; samples = map response_sample (zip statuses responses.counts) }

-- ---- a histogram (Prometheus text format 0.0.4, "Histograms and summaries"): how many took no longer than each bound,
-- so that the numbers rise; how many there are; and then what they are together, and how many
abbrev pub bound_texts : List (List ℕ)
bound_texts =
    codes "0.0005" ∷ codes "0.001" ∷ codes "0.002" ∷ codes "0.005" ∷ codes "0.01" ∷ codes "0.02" ∷ codes "0.05"
    ∷ codes "0.1" ∷ codes "0.2" ∷ codes "0.5" ∷ codes "1" ∷ codes "2" ∷ codes "5" ∷ codes "+Inf" ∷ []

-- each number with all before it
abbrev pub sums : ℕ → List ℕ → List ℕ
sums before [] = []
sums before (count ∷ counts) = together before count ∷ sums (together before count) counts

abbrev pub bucket_sample : List ℕ × ℕ → Sample
bucket_sample bucket = suffixed (codes "_bucket") (codes "le") bucket.0 bucket.1

abbrev pub sum_sample : ℕ → Sample
sum_sample microseconds = record { suffix = codes "_sum"; label = None; value = seconds_text microseconds }

abbrev pub count_sample : ℕ → Sample
count_sample count = record { suffix = codes "_count"; label = None; value = decimal count }

abbrev pub histogram_samples : AppendTimes → List Sample
histogram_samples times =
    map bucket_sample (zip bound_texts (sums 0 times.counts))
    ++ (sum_sample times.microseconds ∷ count_sample (fold together 0 times.counts) ∷ [])

abbrev pub histogram_family : AppendTimes → Family
histogram_family times = record { metric = AppendSeconds; samples = histogram_samples times }

-- ---- what is shown
-- the start is told in seconds
abbrev pub start_families : Measures → List Family
start_families measures =
    version_family measures.version.now
    ∷ of_number StartTime (ms_of measures.started / 1000)
    ∷ []

-- nothing is told of a node while the log is unavailable
abbrev pub node_families : Option NodeMeasures → List Family
node_families None = []
node_families (Some node) =
    of_number Registrations node.registrations
    ∷ of_number StampClock node.counter
    ∷ of_number Change node.change
    ∷ of_number Number node.number
    ∷ []

-- what is counted of datagrams and replies
abbrev pub datagram_families : Tally → List Family
datagram_families tally =
    of_number Rounds tally.rounds
    ∷ of_number Datagrams tally.datagrams
    ∷ reply_family tally.replies
    ∷ of_number EmptyReplies tally.empty_replies
    ∷ of_number Unanswered tally.unanswered
    ∷ []

-- what else is counted
abbrev pub further_families : Tally → List Family
further_families tally =
    of_number Notifications tally.notifications
    ∷ of_number Swept tally.swept
    ∷ of_number NoMemory tally.no_memory
    ∷ []

-- requests to devices (RFC 7252, section 4.2): how many were sent, and what came of them
abbrev pub sent_families : RequestMeasures → List Family
sent_families requests =
    of_number RequestsSent requests.requests_sent
    ∷ of_number RequestsSentAgain requests.requests_sent_again
    ∷ of_number RequestsReset requests.requests_reset
    ∷ of_number RequestsUnanswered requests.requests_unanswered
    ∷ of_number RequestsWaiting requests.requests_waiting
    ∷ []

-- notifications that are not told as they came (RFC 7641, section 3.4; RFC 7959, section 2.6), and replies for which
-- no message ID was free
abbrev pub held_families : RequestMeasures → List Family
held_families requests =
    of_number NotificationsStale requests.notifications_stale
    ∷ of_number NotificationBlocks requests.notification_blocks
    ∷ of_number Fetches requests.fetches
    ∷ of_number Unnumbered requests.without_message_id
    ∷ []

abbrev pub request_families : RequestMeasures → List Family
request_families requests = sent_families requests ++ held_families requests

-- what went wrong
abbrev pub failure_families : Measures → List Family
failure_families measures =
    of_number PassedOver measures.passed_over
    ∷ of_number LogAway (if measures.log_unavailable then 1 else 0)
    ∷ []

-- what the log was asked
abbrev pub log_counter_families : LogCounters → List Family
log_counter_families log =
    histogram_family log.appends
    ∷ of_number EntriesWritten log.entries_written
    ∷ of_number EntriesRead log.entries_read
    ∷ []

-- what stands in it, whether it was there, how often it refused, and how far the host's clock is from its
abbrev pub log_families : Measures → List Family
log_families measures =
    of_number LogBytes measures.log_bytes
    ∷ of_number WholeBytes measures.log_whole_bytes
    ∷ of_number Compactions measures.io_counters.compactions
    ∷ of_seconds AwaySeconds measures.io_counters.log_unavailable
    ∷ of_number Refusals measures.io_counters.refusals
    ∷ of_seconds ClockOffset measures.io_counters.clock_offset
    ∷ []

-- what failed in what datagrams come over
abbrev pub fault_families : IoCounters → List Family
fault_families io_counters =
    of_number ReceiveFaults io_counters.receive_faults
    ∷ of_number SendFaults io_counters.send_faults
    ∷ of_number Dropped io_counters.dropped
    ∷ of_number SocketDrops io_counters.drops
    ∷ []

-- what was answered beside the rounds: datagrams that came again, blocks of bodies, HTTP clients
abbrev pub answered_families : Measures → List Family
answered_families measures =
    of_number Duplicates measures.duplicates
    ∷ of_number Blocks measures.blocks
    ∷ of_number Bodies measures.bodies
    ∷ response_family measures.io_counters.responses
    ∷ []

-- of what datagrams come over, and of HTTP clients
abbrev pub transport_families : Measures → List Family
transport_families measures = fault_families measures.io_counters ++ answered_families measures

abbrev pub families_of : Measures → List Family
families_of measures =
    start_families measures
    ++ (node_families measures.node
    ++ (datagram_families measures.tally
    ++ (further_families measures.tally
    ++ (request_families measures.requests
    ++ (failure_families measures
    ++ (log_counter_families measures.io_counters.log
    ++ (log_families measures
    ++ transport_families measures)))))))
