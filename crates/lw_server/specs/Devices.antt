-- What is under way with devices: requests that wait for an answer (RFC 7252, section 4.2), notifications that come in
-- blocks (RFC 7959, section 2.6), and what is left to do of both (RFC 7641, section 3.6).
use Rattle.std.specs.Prelude.{ℕ, ◌%◌, ◌^◌, Bool, List, [], ◌∷◌, ◌++◌, Option}
use Rattle.lw_stamp.specs.declared.moment.Moment.{Moment}
use Rattle.lw_stamp.specs.declared.stamp.Stamp.{Stamp}
use Rattle.lw_stamp.specs.Moment.{ms_of}
use Rattle.lw_reg.specs.declared.path.Path.{Path}
use Rattle.lw_call.specs.Contents.{NoticeContent}
use Rattle.lw_messaging.specs.Fetches.{FetchesContent}
use Rattle.lw_messaging.specs.PendingRequest.{PendingContent}
use Rattle.lw_messaging.specs.declared.pending_request.Purpose.{Purpose}
use Rattle.lw_messaging.specs.declared.pending_request.Purpose.TheVariants.{Observation, Cancellation, Rest}
use Rattle.lw_server.specs.declared.devices.RequestCounts.{RequestCounts}

-- ---- what is left to do
pub data TaskContent : Type 0 where
  -- the observation with the token is to end: its request came to nothing, as the code says
  End : Stamp → ℕ → TaskContent
  -- it is to end, if it has not ended yet, and this is to be told of it: whether it has ended, and the log covers that
  Close : NoticeContent → Bool → TaskContent
  -- the round of a report failed: this is to be told, if its observation lives no more
  Check : NoticeContent → TaskContent
  -- what came of the fetch with the number is to be told: its request came to nothing
  Cut : ℕ → TaskContent
  -- a notification is to be told that came in blocks, and whether all came
  Tell : List ℕ → Bool → TaskContent
  -- what is observed on a path of a registration is to end, if it is not what was there before
  Undo : Stamp → Path → Option Stamp → TaskContent

pub record DevicesContent : Type 0 where
  pub requests : List PendingContent
  pub fetches : FetchesContent
  pub tasks : List TaskContent
  pub counts : RequestCounts

-- one more thing is left to do, behind the others
abbrev pub with_task : TaskContent → DevicesContent → DevicesContent
with_task task devices = record devices { tasks = devices.tasks ++ task ∷ [] }

abbrev pub new_counts : RequestCounts
new_counts = record { sent = 0; sent_again = 0; reset = 0; unanswered = 0; blocks = 0 }

abbrev pub new_devices : Moment → DevicesContent
new_devices start = record {
  requests = [];
  fetches = record { next = ms_of start % 2 ^ 32; fetches = [] };
  tasks = [];
  counts = new_counts;
}

-- ---- what is left to do where a request came to nothing, as the code says
abbrev pub left_of : Purpose → ℕ → List TaskContent
left_of (Observation token) code = End token code ∷ []
left_of (Rest fetch) code = Cut fetch ∷ []
left_of (Cancellation token) code = []
