-- What contracts see of a server.
use Rattle.std.specs.Prelude.{◌≡◌, ℕ, Bool, false, List, [], Option, None, Some}
use Rattle.lw_stamp.specs.declared.moment.Moment.{Moment}
use Rattle.lw_replica.specs.Replica.{ReplicaContent}
use Rattle.lw_metrics.specs.declared.io_counters.IoCounters.{IoCounters}
use Rattle.lw_messaging.specs.declared.exchange.Exchange.{Exchange}
use Rattle.lw_messaging.specs.declared.message_ids.IdCounter.{IdCounter}
use Rattle.lw_messaging.specs.Kept.{BodyContent}
use Rattle.lw_messaging.specs.MessageIds.{first_counters}
use Rattle.lw_metrics.specs.Counting.{new_tally}
use Rattle.lw_metrics.specs.IoCounters.{new_io_counters}
use Rattle.lw_metrics.specs.declared.tally.Tally.{Tally}
use Rattle.lw_server.specs.declared.clocks.Times.{Times}
use Rattle.lw_server.specs.declared.fault.TurnFault.{TurnFault}
use Rattle.lw_server.specs.Clocks.{later, Tells}
use Rattle.lw_server.specs.Devices.{DevicesContent, new_devices}
use Rattle.lw_server.specs.Notifications.{new_notifications, NotificationsContent}

pub record ServerContent : Type 0 where
  pub replica : ReplicaContent
  pub skew : ℕ  -- seconds by which the clocks of the fleet's servers may differ
  pub started : Moment
  pub clock : Option (List Times)  -- what its clocks have told, in order, where that is known
  pub latest : Moment  -- what the host's clock told last: lifetimes go by it
  pub steady : Moment  -- of a clock that never goes back: the times of the message layer go by it
  pub tally : Tally  -- of the rounds that gave replies
  pub passed_over : ℕ  -- how many turns failed for want of memory
  pub page : Option (List ℕ)  -- what is told at `/`, if there is a page
  pub io_counters : IoCounters  -- what is counted of input and output
  pub log_unavailable : Bool  -- whether the last turn found that the log cannot be asked
  pub kept : List Exchange  -- the last requests that were answered, with their replies
  pub duplicates : ℕ  -- how many datagrams were requests that came again
  pub unkept : ℕ  -- how many turns had no memory for all that they answered
  pub bodies : List BodyContent  -- the bodies whose blocks have not all come
  pub blocks : ℕ  -- how many datagrams were blocks that were answered without the store, or made a message whole
  pub ids : List IdCounter  -- the message IDs of its own messages
  pub without_message_id : ℕ  -- how many replies were not sent, since no message ID was free
  pub notifications : NotificationsContent  -- what devices told
  pub devices : DevicesContent  -- what is under way with devices
  pub fault : Option TurnFault  -- what the last command failed by, until that is noted

-- one of a replica that has done nothing yet
abbrev pub new_server : ReplicaContent → Option (List Times) → ℕ → Moment → Option (List ℕ) → ServerContent
new_server replica clock skew now page = record {
  replica = replica;
  skew = skew;
  started = now;
  clock = clock;
  latest = now;
  steady = now;
  tally = new_tally;
  passed_over = 0;
  page = page;
  io_counters = new_io_counters;
  log_unavailable = false;
  kept = [];
  duplicates = 0;
  unkept = 0;
  bodies = [];
  blocks = 0;
  ids = first_counters now;
  without_message_id = 0;
  notifications = new_notifications;
  devices = new_devices now;
  fault = None;
}

-- ---- the clocks
-- The server once its clocks have told this, if they told anything. Its own moment that never goes back is the later of
-- what it was and of what they tell.
abbrev pub at_times : Option Times → ServerContent → ServerContent
at_times None server = server
at_times (Some times) server = record server { latest = times.moment; steady = later server.steady times.steady }

-- It has asked its clocks, and they told this, if anything.
pub record ReadsClock (told : Option Times) (old new : ServerContent) : Type 0 where
  pub tells : Tells old.clock new.clock told
  pub same : new ≡ record (at_times told old) { clock = new.clock }

-- It has not asked its clocks: the moments are those that they told last.
pub record IsAtOnce (old new : ServerContent) : Type 0 where
  pub clock : new.clock ≡ old.clock
  pub latest : new.latest ≡ old.latest
  pub steady : new.steady ≡ old.steady

-- what no turn changes
pub record Stays (old new : ServerContent) : Type 0 where
  pub at_once : IsAtOnce old new
  pub skew : new.skew ≡ old.skew
  pub started : new.started ≡ old.started
  pub passed_over : new.passed_over ≡ old.passed_over
  pub page : new.page ≡ old.page
  pub io_counters : new.io_counters ≡ old.io_counters
  pub log_unavailable : new.log_unavailable ≡ old.log_unavailable
  pub notifications : new.notifications ≡ old.notifications
  pub devices : new.devices ≡ old.devices
  pub fault : new.fault ≡ old.fault

-- no request that was answered is kept more, and none less, and no message ID is taken
pub record KeepsStill (old new : ServerContent) : Type 0 where
  pub kept : new.kept ≡ old.kept
  pub duplicates : new.duplicates ≡ old.duplicates
  pub unkept : new.unkept ≡ old.unkept
  pub blocks : new.blocks ≡ old.blocks
  pub ids : new.ids ≡ old.ids
  pub without_message_id : new.without_message_id ≡ old.without_message_id
