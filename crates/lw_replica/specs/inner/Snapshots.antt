-- A snapshot is appended.
use Rattle.std.specs.Prelude.{◌≡◌, ℕ, List, [], ◌∷◌, Option, true}
use Rattle.lw_node.specs.Exchange.{IsDeltaSince}
use Rattle.lw_log.specs.Calls.{LogCall, Placed, Calls, place_of}
use Rattle.lw_log.specs.Calls.LogCall.{Wrote, Tried}
use Rattle.lw_log.specs.Entries.BodyContent.{Snapshot}
use Rattle.lw_replica.specs.declared.state.ReplicaState.{ReplicaState}
use Rattle.lw_replica.specs.Counting.{CountsEntries, own_entries}
use Rattle.lw_replica.specs.Own.{NumbersOn}
use Rattle.lw_replica.specs.Parts.{used_numbers_of}
use Rattle.lw_replica.specs.Rounds.{place_after}
use Rattle.lw_replica.specs.inner.Taking.{IsEntryOf, IsReadBy}
use Rattle.lw_replica.specs.inner.ReplicaState.{counted_in}

-- an entry of the replica's, in the fleet, with all that the node knows
pub record IsSnapshotOf (s : ReplicaState) (fleet : List ℕ) (bytes : List ℕ) : Type 0 where
  pub delta : List ℕ
  pub is : IsDeltaSince s.node 0 delta
  pub entry : IsEntryOf s fleet (Snapshot (used_numbers_of s) delta) bytes

-- it was appended at a position, and the log covers all
pub record IsWrittenSnapshot (before : Option (List LogCall)) (old : ReplicaState) (fleet : List ℕ) (at : ℕ × ℕ) (after : Option (List LogCall)) (new : ReplicaState) : Type 0 where
  pub place : Placed
  pub place_is : place.0 ≡ at
  pub asked : Calls before after (Wrote place ∷ [])
  pub whole : IsSnapshotOf old fleet place.1
  pub numbered : NumbersOn old.sequence (Wrote place ∷ []) new.sequence
  pub durable : new.durable ≡ true
  pub read_to : place_of new.read_to ≡ place_after old.alone (place_of old.read_to) (Wrote place ∷ [])
  pub counted : CountsEntries (counted_in old) (own_entries old.alone (Wrote place ∷ [])) (counted_in new)

-- it was appended, or tried, or nothing was asked
abbrev pub IsTryingSnapshot : ReplicaState → List ℕ → List LogCall → Type 0
IsTryingSnapshot s fleet [] = Unit {0}
IsTryingSnapshot s fleet (Wrote p ∷ []) = IsSnapshotOf s fleet p.1
IsTryingSnapshot s fleet (Tried e ∷ []) = IsSnapshotOf s fleet e
IsTryingSnapshot s fleet _ = ⊥

abbrev pub TriesSnapshot : Option (List LogCall) → ReplicaState → List ℕ → Option (List LogCall) → ReplicaState → Type 0
TriesSnapshot before old fleet after new = (more : List LogCall) × Calls before after more × IsTryingSnapshot old fleet more × IsReadBy old more new
