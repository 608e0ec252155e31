use Rattle.std.proofs.Common.{ℕ, List, ◌++◌, take}
use Rattle.lw_log.specs.Calls.{placed}
use Rattle.lw_replica.specs.Reading.{bytes_of}
use Rattle.lw_replica.specs.inner.Looking.{HasSeen}
use Rattle.lw_replica.proofs.looking.FirstLook.note_page.Given as goal

abbrev pub invariant-loop-bytes : goal.invariant-loop-bytes
invariant-loop-bytes l = (es : List (List ℕ)) → HasSeen es l.initial.self → HasSeen (es ++ bytes_of (placed (take l.bytes-index l.page))) l.self
