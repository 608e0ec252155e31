-- What a report leaves where its round failed.
use Rattle.std.specs.Prelude.{◌≡◌, ◌++◌, ◌∷◌, []}
use Rattle.lw_call.specs.Contents.{NoticeContent}
use Rattle.lw_server.specs.Devices.{Check}
use Rattle.lw_server.specs.Server.{ServerContent}
use Rattle.lw_server.specs.Notifications.{with_capacity}

-- it is to be looked at whether the observation lives, and else this is to be told
abbrev pub LeavesCheck : NoticeContent → ServerContent → ServerContent → Type 0
LeavesCheck notice old new =
    new ≡ record old {
      replica = new.replica;
      tally = new.tally;
      notifications = with_capacity old.notifications new.notifications.buffer.capacity;
      devices = record (old.devices) { tasks = old.devices.tasks ++ Check notice ∷ [] };
    }
