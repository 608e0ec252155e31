use Rattle.std.proofs.Common.{◌≡◌, List, Option, take}
use Rattle.lw_log.specs.Calls.{LogCall, placed, place_of}
use Rattle.lw_replica.specs.Parts.{IsCovering}
use Rattle.lw_replica.specs.Reading.{bytes_of, place_read}
use Rattle.lw_replica.specs.inner.Seeing.{AreSeenBy}
use Rattle.lw_replica.specs.inner.ReplicaState.{HasSameStart}
use Rattle.lw_replica.specs.inner.Taking.{IsBehind, Takes}
use Rattle.lw_replica.proofs.state.ReplicaState.take_page.Given as goal

abbrev pub invariant-loop-position : goal.invariant-loop-position
invariant-loop-position l = record {
  taken : Takes l.initial.self (bytes_of (placed (take l.position-index l.page))) l.self;
  read_to : place_of l.self.read_to ≡ place_read (place_of l.initial.self.read_to) (placed (take l.position-index l.page));
  behind : IsBehind l.initial.self (placed l.page) l.self;
  sequence : l.self.sequence ≡ l.initial.self.sequence;
  same : HasSameStart l.initial.self l.self;
  covering : (asked : Option (List LogCall)) → AreSeenBy asked (bytes_of (placed l.page)) → IsCovering asked l.initial.self → IsCovering asked l.self;
}
