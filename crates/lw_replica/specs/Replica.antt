-- What contracts see of a replica: a node, what was asked of its log, and how far the log covers what the node knows.
use Rattle.std.specs.Prelude.{◌≡◌, ℕ, ◌≤◌, List, Option, Some, None, IsSomeAnd, Bool, true, false}
use Rattle.std.specs.FinMap.{get}
use Rattle.lw_reg.specs.declared.slot.Slot.{Slot}
use Rattle.lw_reg.specs.Slot.{slot_below}
use Rattle.lw_reg.specs.State.{State}
use Rattle.lw_table.specs.Changes.{IsSince}
use Rattle.lw_node.specs.Exchange.{IsBelow, known_by}
use Rattle.lw_node.specs.Node.{NodeContent}
use Rattle.lw_log.specs.Calls.{LogCall}
use Rattle.lw_log.specs.Known.{HasSeen, IsCovered}

pub record ReplicaContent : Type 0 where
  pub node : NodeContent
  pub calls : Option (List LogCall)  -- what was asked of its log, where that is known
  pub fleet : Option (List ℕ)  -- none while the log is empty
  pub settled : Bool  -- a delta has told the fleet
  pub tag : ℕ  -- of this start
  pub alone : Bool  -- nobody else appends to its log
  pub claimed : Bool  -- the log has told that the number is its own
  pub floor : ℕ  -- to which the clock is raised with the claim
  pub sequence : ℕ  -- of the last entry that it appended, or 1 before its first where the log had entries
  pub durable : Bool  -- the log covers all that the node knows
  pub written : ℕ  -- the change number up to which it covers what the node knows
  pub read_to : Option (ℕ × ℕ)  -- the position of the last entry that was read
  pub used_numbers : List ℕ  -- the numbers that starts have had, a bit each
  pub snapshot : ℕ  -- how many bytes the last snapshot of its log has
  pub behind : ℕ  -- and the entries behind it

-- where it is known what was asked, the log covers this
abbrev pub IsCoveredBy : Option (List LogCall) → ℕ × State → Type 0
IsCoveredBy asked known = (calls : List LogCall) → asked ≡ Some calls → IsCovered calls known

-- each slot of the node that did not move since then is in the state, or below what is there
abbrev pub HasUnmoved : NodeContent → ℕ → State → Type 0
HasUnmoved node since state = (e : List ℕ) (slot : Slot) → get node.table.state e ≡ Some slot → ¬ IsSince node.table.count since e → IsSomeAnd (get state e) (slot_below slot)

-- Whoever has the entries that were seen has each slot that did not move since the change number, and all that the node
-- knows where the log covers it.
pub record IsWritten (asked : Option (List LogCall)) (node : NodeContent) (durable : Bool) (written : ℕ) : Type 0 where
  pub within : written ≤ node.table.count.change
  pub unmoved : (calls : List LogCall) → asked ≡ Some calls → (reader : ℕ × State) → HasSeen reader calls → HasUnmoved node written reader.1
  pub whole : durable ≡ true → IsCoveredBy asked (known_by node)

-- ---- from one call to the next
-- the start is the same
pub record IsSameStart (old new : ReplicaContent) : Type 0 where
  pub number : new.node.number ≡ old.node.number
  pub tag : new.tag ≡ old.tag
  pub floor : new.floor ≡ old.floor
  pub alone : new.alone ≡ old.alone

-- Nothing is forgotten: the number, once it is claimed; the fleet, once a delta has told it; and what the node knows.
pub record Stays (old new : ReplicaContent) : Type 0 where
  pub start : IsSameStart old new
  pub claimed : old.claimed ≡ true → new.claimed ≡ true
  pub settled : old.settled ≡ true → new.settled ≡ true
  pub fleet : (f : List ℕ) → old.settled ≡ true → old.fleet ≡ Some f → new.fleet ≡ Some f
  pub knows : IsBelow (known_by old.node) (known_by new.node)

-- all is read from the first entry on, and written again
pub record BeginsAnew (replica : ReplicaContent) : Type 0 where
  pub read_to : replica.read_to ≡ None
  pub durable : replica.durable ≡ false
  pub written : replica.written ≡ 0
