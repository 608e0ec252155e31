-- What is counted of the input and output of a server. A number stays at 2^64 - 1.
use Rattle.std.specs.Prelude.{ℕ, ◌+◌, ◌-◌, ◌^◌, ◌==◌, nat_le, min, List, [], ◌∷◌, position, replicate, slice_index, slice_set, Option, Some, None}
use Rattle.lw_metrics.specs.declared.append_times.AppendTimes.{AppendTimes}
use Rattle.lw_metrics.specs.declared.io_counters.IoCounters.{IoCounters}
use Rattle.lw_metrics.specs.declared.io_counters.LogCounters.{LogCounters}
use Rattle.lw_metrics.specs.declared.requests.RequestMeasures.{RequestMeasures}
use Rattle.lw_metrics.specs.declared.responses.Responses.{Responses}
use Rattle.lw_metrics.specs.Counting.{one_more}

-- two numbers together
abbrev pub together : ℕ → ℕ → ℕ
together a b = min (a + b) (2 ^ 64 - 1)

-- ---- how long appends took
-- the bounds of the buckets, in microseconds: 1, 2 and 5 of each ten, from half a millisecond to 5 seconds
abbrev pub bounds : List ℕ
bounds =
    500 ∷ 1000 ∷ 2000 ∷ 5000 ∷ 10000 ∷ 20000 ∷ 50000 ∷ 100000 ∷ 200000 ∷ 500000 ∷ 1000000 ∷ 2000000 ∷ 5000000 ∷ []

-- the first bound that is not below a time; behind them is the place of longer ones
abbrev pub or_longer : Option ℕ → ℕ
or_longer None = 13
or_longer (Some place) = place

abbrev pub bucket_of : ℕ → ℕ
bucket_of microseconds = or_longer (position (λ bound. nat_le microseconds bound) bounds)

abbrev pub new_times : AppendTimes
new_times = record { counts = replicate 14 0; microseconds = 0 }

-- one more of that time
abbrev pub with_time : AppendTimes → ℕ → AppendTimes
with_time times microseconds = record {
  counts =
      slice_set times.counts (bucket_of microseconds)
      (one_more (slice_index times.counts (bucket_of microseconds)));
  microseconds = together times.microseconds microseconds;
}

-- ---- how HTTP clients were answered
-- the statuses that a server gives (RFC 9110, section 15; RFC 6585, section 5)
abbrev pub statuses : List ℕ
statuses = 200 ∷ 201 ∷ 204 ∷ 400 ∷ 401 ∷ 403 ∷ 404 ∷ 405 ∷ 410 ∷ 413 ∷ 414 ∷ 421 ∷ 431 ∷ 500 ∷ 501 ∷ 503 ∷ []

abbrev pub new_responses : Responses
new_responses = record { counts = replicate 16 0 }

abbrev pub with_response_at : Responses → Option ℕ → Responses
with_response_at responses None = responses
with_response_at responses (Some place) =
    record { counts = slice_set responses.counts place (one_more (slice_index responses.counts place)) }

-- one more with that status, if it is one of them
abbrev pub with_response : Responses → ℕ → Responses
with_response responses status = with_response_at responses (position (λ known. known == status) statuses)

-- ---- of all, nothing yet
abbrev pub new_log_counters : LogCounters
new_log_counters = record { appends = new_times; entries_written = 0; entries_read = 0 }

abbrev pub new_io_counters : IoCounters
new_io_counters = record {
  log = new_log_counters;
  compactions = 0;
  log_unavailable = 0;
  refusals = 0;
  clock_offset = 0;
  receive_faults = 0;
  send_faults = 0;
  dropped = 0;
  drops = 0;
  responses = new_responses;
}

abbrev pub new_requests : RequestMeasures
new_requests = record {
  requests_sent = 0;
  requests_sent_again = 0;
  requests_reset = 0;
  requests_unanswered = 0;
  requests_waiting = 0;
  notifications_stale = 0;
  notification_blocks = 0;
  fetches = 0;
  without_message_id = 0;
}
