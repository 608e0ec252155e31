-- What a replica's parts are to contracts, and what is true of them.
use Rattle.std.specs.Prelude.{◌≡◌, ◌<◌, ◌*◌, ℕ, List, Option, option_map, true}
use Rattle.lw_log.specs.Calls.{LogCall, place_of}
use Rattle.lw_replica.specs.declared.state.ReplicaState.{ReplicaState}
use Rattle.lw_replica.specs.Clocks.{year_2100}
use Rattle.lw_replica.specs.Replica.{ReplicaContent, IsWritten}

abbrev pub fleet_of : ReplicaState → Option (List ℕ)
fleet_of s = option_map (λ f. f.bytes) s.fleet

abbrev pub used_numbers_of : ReplicaState → List ℕ
used_numbers_of s = s.used_numbers.bytes.value

abbrev pub content_of : Option (List LogCall) → ReplicaState → ReplicaContent
content_of asked s = record {
  node = s.node;
  calls = asked;
  fleet = fleet_of s;
  settled = s.settled;
  tag = s.start.tag;
  alone = s.alone;
  claimed = s.claimed;
  floor = s.floor;
  sequence = s.sequence;
  durable = s.durable;
  written = s.written;
  read_to = place_of s.read_to;
  used_numbers = used_numbers_of s;
  snapshot = s.size.snapshot;
  behind = s.size.behind;
}

-- the log covers what it is said to
pub record IsCovering (asked : Option (List LogCall)) (s : ReplicaState) : Type 0 where
  pub written : IsWritten asked s.node s.durable s.written
  pub up_to : s.durable ≡ true → s.written ≡ s.node.table.count.change

-- and the number is that of the node, and the floor is a clock of before 2100
pub record IsReplica (asked : Option (List LogCall)) (s : ReplicaState) : Type 0 where
  pub covering : IsCovering asked s
  pub number : s.start.number ≡ s.node.number
  pub floor : s.floor < 64 * year_2100
