-- How a replica's parts go on.
use Rattle.std.specs.Prelude.{◌≡◌, ◌<◌, ℕ, List, Option, Some, None, Bool, true, false}
use Rattle.lw_table.specs.Changes.{LAST}
use Rattle.lw_node.specs.Exchange.{IsBelow, known_by}
use Rattle.lw_node.specs.Node.{NodeContent, fresh}
use Rattle.lw_log.specs.Calls.{place_of}
use Rattle.lw_log.specs.declared.start.Start.{Start}
use Rattle.lw_log.specs.declared.log_fault.LogFault.TheVariants.{Lost}
use Rattle.lw_replica.specs.declared.fault.ReplicaFault.{ReplicaFault}
use Rattle.lw_replica.specs.declared.fault.ReplicaFault.TheVariants.{Log}
use Rattle.lw_replica.specs.declared.size.LogSize.{LogSize}
use Rattle.lw_replica.specs.declared.state.ReplicaState.{ReplicaState}
use Rattle.lw_replica.specs.Reading.{HasBit}
use Rattle.lw_replica.specs.Parts.{fleet_of, used_numbers_of}

-- the bytes that were counted
abbrev pub counted_of : LogSize → ℕ × ℕ
counted_of size = (size.snapshot, size.behind)

abbrev pub counted_in : ReplicaState → ℕ × ℕ
counted_in s = counted_of s.size

-- whether a delta has told the fleet, and the fleet
abbrev pub fleet_told_in : ReplicaState → Bool × Option (List ℕ)
fleet_told_in s = (s.settled, fleet_of s)

-- the start is the same, with what it has claimed, and nothing that was known is forgotten
pub record HasSameStart (old new : ReplicaState) : Type 0 where
  pub number : new.node.number ≡ old.node.number
  pub start : new.start ≡ old.start
  pub proposed_fleet : new.proposed_fleet ≡ old.proposed_fleet
  pub alone : new.alone ≡ old.alone
  pub claimed : new.claimed ≡ old.claimed
  pub floor : new.floor ≡ old.floor
  pub settled : old.settled ≡ true → new.settled ≡ true
  pub fleet : (f : List ℕ) → old.settled ≡ true → fleet_of old ≡ Some f → fleet_of new ≡ Some f
  pub knows : IsBelow (known_by old.node) (known_by new.node)

-- the log covers all of it still: neither its change number nor its clock has moved
abbrev pub IsStill : ReplicaState → NodeContent → Type 0
IsStill old node = (old.durable ≡ true) × (node.table.count.change ≡ old.node.table.count.change) × (node.table.count.change < LAST) × (node.clock ≡ old.node.clock)

-- a new node with the number, which has read and written nothing
pub record IsNew (s : ReplicaState) (start : Start) (alone : Bool) (floor sequence : ℕ) : Type 0 where
  pub node : s.node ≡ fresh start.number
  pub start_is : s.start ≡ start
  pub unclaimed : s.claimed ≡ false
  pub alone_is : s.alone ≡ alone
  pub floor_is : s.floor ≡ floor
  pub sequence_is : s.sequence ≡ sequence
  pub unread : place_of s.read_to ≡ None
  pub told : fleet_told_in s ≡ (false, None)
  pub durable : s.durable ≡ true
  pub used_numbers : (n : ℕ) → ¬ HasBit (used_numbers_of s) n
  pub counted : counted_in s ≡ (0, 0)

-- where the log has lost something, all is read and written again
abbrev pub BeginsAnewBy : ReplicaFault → ReplicaState → Type 0
BeginsAnewBy fault s = fault ≡ Log Lost → (place_of s.read_to ≡ None) × (s.durable ≡ false) × (s.written ≡ 0)
