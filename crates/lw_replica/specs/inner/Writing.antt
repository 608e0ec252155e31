-- What is appended to a log, and what a replica is then.
use Rattle.std.specs.Prelude.{◌≡◌, ◌↔◌, ℕ, ◌⊎◌, List, [], ◌∷◌, ◌++◌, Option, IsTrue, true, false}
use Rattle.lw_log.specs.Calls.{LogCall, Placed, Calls, place_of}
use Rattle.lw_log.specs.Calls.LogCall.{Read, Wrote, Tried, Trimmed}
use Rattle.lw_log.specs.Entries.{EntryContent, IsEntry}
use Rattle.lw_log.specs.Entries.BodyContent.{Start}
use Rattle.lw_call.specs.declared.call.Call.{Call}
use Rattle.lw_call.specs.declared.reply.Reply.{Reply}
use Rattle.lw_node.specs.Exchange.{Merged}
use Rattle.lw_replica.specs.declared.state.ReplicaState.{ReplicaState}
use Rattle.lw_replica.specs.Own.{AreOwnCalls, IsOwnIn, IsOwnSince, NumbersOn, next_sequence}
use Rattle.lw_replica.specs.Reading.{AreReadToTheEnd, entries_in, last_read, AreGood, AreNoted, HoldsNumber, IsTakenFirst, MergesEntries}
use Rattle.lw_replica.specs.Rounds.{Makes, place_after}
use Rattle.lw_replica.specs.Counting.{CountsEntries, own_entries}
use Rattle.lw_replica.specs.Fleets.{TellFleets}
use Rattle.lw_replica.specs.Parts.{content_of, fleet_of, used_numbers_of, IsReplica}
use Rattle.lw_replica.specs.inner.Going.{Goes}
use Rattle.lw_replica.specs.inner.ReplicaState.{HasSameStart, IsStill, counted_in, fleet_told_in}
use Rattle.lw_replica.specs.inner.Taking.{IsEntryOf, IsReadBy}

-- all that was appended, or tried, is the replica's own
abbrev pub WritesOwnCalls : Option (List LogCall) → ReplicaState → Option (List LogCall) → ReplicaState → Type 0
WritesOwnCalls before old after new = (more : List LogCall) × Calls before after more × AreOwnCalls (content_of after new) more × IsReadBy old more new

-- a start entry of this number and tag
pub record IsStartOf (number tag : ℕ) (bytes : List ℕ) : Type 0 where
  pub entry : EntryContent
  pub is : IsEntry bytes entry
  pub number_is : entry.number ≡ number
  pub tag_is : entry.tag ≡ tag
  pub body_is : entry.body ≡ Start

-- readings, and start entries that were appended or tried
abbrev pub AreClaims : ℕ → ℕ → List LogCall → Type 0
AreClaims number tag [] = Unit {0}
AreClaims number tag (Read after es ∷ calls) = AreClaims number tag calls
AreClaims number tag (Wrote p ∷ calls) = IsStartOf number tag p.1 × AreClaims number tag calls
AreClaims number tag (Tried e ∷ calls) = IsStartOf number tag e × AreClaims number tag calls
AreClaims number tag (Trimmed upto ∷ calls) = ⊥

abbrev pub Claims : Option (List LogCall) → ReplicaState → Option (List LogCall) → ReplicaState → Type 0
Claims before old after new = (more : List LogCall) × Calls before after more × AreClaims old.start.number old.start.tag more × IsReadBy old more new

-- a start entry was appended
pub record IsStarted (before : Option (List LogCall)) (old : ReplicaState) (fleet : List ℕ) (after : Option (List LogCall)) (new : ReplicaState) : Type 0 where
  pub place : Placed
  pub asked : Calls before after (Wrote place ∷ [])
  pub entry : IsEntryOf old fleet Start place.1
  pub sequence : new.sequence ≡ next_sequence old.sequence
  pub only : new ≡ record old { sequence = new.sequence; read_to = new.read_to; size = new.size; fleet = new.fleet }
  pub shared : old.alone ≡ false → new.fleet ≡ old.fleet
  pub read_to : place_of new.read_to ≡ place_after old.alone (place_of old.read_to) (Wrote place ∷ [])
  pub counted : CountsEntries (counted_in old) (own_entries old.alone (Wrote place ∷ [])) (counted_in new)

-- nothing was to be written, or one entry was
pub record IsWritingNow (before : Option (List LogCall)) (old : ReplicaState) (after : Option (List LogCall)) (new : ReplicaState) : Type 0 where
  pub wrote : List LogCall
  pub asked : Calls before after wrote
  pub one : ((old.durable ≡ true) × (wrote ≡ [])) ⊎ ((old.durable ≡ false) × (p : Placed) × (wrote ≡ Wrote p ∷ []) × IsOwnSince (content_of after new) old.written p.1)
  pub numbered : NumbersOn old.sequence wrote new.sequence
  pub durable : new.durable ≡ true
  pub read_to : place_of new.read_to ≡ place_after old.alone (place_of old.read_to) wrote
  pub counted : CountsEntries (counted_in old) (own_entries old.alone wrote) (counted_in new)

-- the number is claimed, the log is read to its end, and the clock is raised
pub record IsClaimed (before : Option (List LogCall)) (old : ReplicaState) (after : Option (List LogCall)) (new : ReplicaState) : Type 0 where
  pub place : Placed
  pub pages : List LogCall
  pub merged : ReplicaState
  pub asked : Calls before after (Wrote place ∷ pages)
  pub own : IsOwnIn (content_of after new) Start place.1
  pub numbered : own.0.entry.sequence ≡ next_sequence old.sequence
  pub sequence : new.sequence ≡ next_sequence old.sequence
  pub read : AreReadToTheEnd (place_after old.alone (place_of old.read_to) (Wrote place ∷ [])) pages
  pub read_to : place_of new.read_to ≡ last_read (place_after old.alone (place_of old.read_to) (Wrote place ∷ [])) pages
  pub good : AreGood (fleet_of new) (entries_in pages)
  pub told : old.alone ≡ false → TellFleets (fleet_told_in old) (entries_in pages) (fleet_told_in new)
  pub holds : HoldsNumber new.node.number new.start.tag (entries_in pages)
  pub first : old.alone ≡ false → IsTakenFirst new.node.number new.start.tag (entries_in pages)
  pub merges : MergesEntries old.node (entries_in pages) merged.node
  pub used_numbers : AreNoted (used_numbers_of old) (entries_in pages) (used_numbers_of new)
  pub counted : CountsEntries (counted_in old) (own_entries old.alone (Wrote place ∷ []) ++ entries_in pages) (counted_in new)
  pub durable : merged.durable ≡ old.durable
  pub written : old.durable ≡ false → merged.written ≡ old.written
  pub up_to : old.durable ≡ true → merged.written ≡ merged.node.table.count.change
  pub raised : Merged merged.node old.floor [] new.node
  pub goes : Goes merged.node new.node
  pub still : IsTrue new.durable ↔ IsStill merged new.node
  pub written_is : new.written ≡ merged.written

-- what the calls have left
pub record Made (old : ReplicaState) (calls : List Call) (replies : List Reply) (new : ReplicaState) : Type 0 where
  pub made : Makes old.node calls replies new.node
  pub goes : Goes old.node new.node
  pub still : IsTrue new.durable ↔ IsStill old new.node
  pub only : new ≡ record old { node = new.node; durable = new.durable }

-- what the writing has left
pub record Written (before : Option (List LogCall)) (old : ReplicaState) (after : Option (List LogCall)) (new : ReplicaState) : Type 0 where
  pub now : IsWritingNow before old after new
  pub same : HasSameStart old new
  pub node : new.node ≡ old.node
  pub fleet : new.fleet ≡ old.fleet
  pub settled : new.settled ≡ old.settled
  pub used_numbers : new.used_numbers ≡ old.used_numbers
  pub replica : IsReplica after new

-- the calls are made, and what has changed is written
pub record Finished (before : Option (List LogCall)) (old : ReplicaState) (calls : List Call) (replies : List Reply) (after : Option (List LogCall)) (new : ReplicaState) : Type 0 where
  pub mid : ReplicaState
  pub made : Made old calls replies mid
  pub written : Written before mid after new
