-- What is left of a delta after the slots that were read.
use Rattle.std.specs.Prelude.{None}
use Rattle.lw_delta.specs.declared.checking.Walked.{Walked}
use Rattle.lw_delta.specs.Unread.{Unread}

-- of a delta that was walked, all its slots
abbrev pub unread_of : Walked → Unread
unread_of walked = record { form = walked.form; clock = walked.clock; after = None; bytes = walked.slots.now }
