-- A round of a replica: the log is read to its end, calls are made, and what has changed is written before a reply is given.
use Rattle.std.specs.Prelude.{◌≡◌, ◌≢◌, ℕ, ◌<◌, ◌⊎◌, List, [], ◌∷◌, ◌++◌, Option, Some, Bool, true, false, cond}
use Rattle.lw_call.specs.declared.call.Call.{Call}
use Rattle.lw_call.specs.declared.reply.Reply.{Reply}
use Rattle.lw_table.specs.Changes.{LAST}
use Rattle.lw_node.specs.Exchange.{Merged, known_by}
use Rattle.lw_node.specs.Node.{NodeContent}
use Rattle.lw_node.specs.Steps.{IsStep}
use Rattle.lw_log.specs.Calls.{LogCall, Placed, Calls}
use Rattle.lw_log.specs.Calls.LogCall.{Read, Wrote, Tried, Trimmed}
use Rattle.lw_log.specs.Entries.BodyContent.{Start}
use Rattle.lw_replica.specs.Replica.{ReplicaContent, IsCoveredBy, IsSameStart}
use Rattle.lw_replica.specs.Counting.{CountsEntries, counted_by, own_entries}
use Rattle.lw_replica.specs.Fleets.{TellFleets, told_in}
use Rattle.lw_replica.specs.Own.{IsOwnIn, IsOwnSince, NumbersOn, next_sequence}
use Rattle.lw_replica.specs.Reading.{AreReadToTheEnd, entries_in, last_read, AreGood, HoldsNumber, IsTakenFirst, AreNoted, MergesEntries}

-- the calls, made one after another, each with the reply that the node gives
abbrev pub Makes : NodeContent → List Call → List Reply → NodeContent → Type 0
Makes old [] [] new = new ≡ old
Makes old (call ∷ calls) (reply ∷ replies) new = (mid : NodeContent) × IsStep old call reply mid × Makes mid calls replies new
Makes old [] (reply ∷ replies) new = ⊥
Makes old (call ∷ calls) [] new = ⊥

-- ---- the claim of its number
-- there is something to write, or may be
abbrev pub IsActive : ReplicaContent → List Call → Type 0
IsActive old calls = (calls ≢ []) ⊎ (old.durable ≡ false)

-- it claims its number where it has not yet, with the first round that has something to write
abbrev pub IsClaiming : ReplicaContent → List Call → Type 0
IsClaiming old calls = (old.claimed ≡ false) × IsActive old calls

-- the claim is a start entry in its fleet, which is appended before the log is read
abbrev pub IsClaim : ReplicaContent → List Call → List LogCall → ReplicaContent → Type 0
IsClaim old calls claim new =
    ((¬ IsClaiming old calls) × (claim ≡ []) × (new.claimed ≡ old.claimed))
    ⊎ (IsClaiming old calls × (new.claimed ≡ true) × (p : Placed) × (claim ≡ Wrote p ∷ []) × (own : IsOwnIn new Start p.1) × (own.0.entry.sequence ≡ next_sequence old.sequence))

-- with a claim, the clock is raised to the floor: the empty delta with that clock is merged
abbrev pub IsRaised : List LogCall → ℕ → NodeContent → NodeContent → Type 0
IsRaised [] floor old new = new ≡ old
IsRaised (call ∷ calls) floor old new = Merged old floor [] new

-- where nobody else appends to the log, it goes on reading behind what it has written
abbrev pub place_after : Bool → Option (ℕ × ℕ) → List LogCall → Option (ℕ × ℕ)
place_after alone after (Wrote p ∷ calls) = cond alone (Some p.0) after
place_after alone after [] = after
place_after alone after (Read from es ∷ calls) = after
place_after alone after (Tried e ∷ calls) = after
place_after alone after (Trimmed upto ∷ calls) = after

-- ---- what is written
-- what moved since the merges, where the log covered all before them; else since what was written
abbrev pub since_of : ReplicaContent → NodeContent → ℕ
since_of old merged = cond old.durable merged.table.count.change old.written

-- the log covered all, and neither change number nor clock has moved since the merges; at the last change number it is
-- not known what has moved
abbrev pub IsCalm : ReplicaContent → NodeContent → NodeContent → Type 0
IsCalm old merged new = (old.durable ≡ true) × (new.table.count.change ≡ merged.table.count.change) × (new.table.count.change < LAST) × (new.clock ≡ merged.clock)

-- nothing where all is calm, else one entry
abbrev pub IsWriting : ReplicaContent → NodeContent → List LogCall → ReplicaContent → Type 0
IsWriting old merged wrote new =
    (IsCalm old merged new.node × (wrote ≡ []))
    ⊎ ((¬ IsCalm old merged new.node) × (p : Placed) × (wrote ≡ Wrote p ∷ []) × IsOwnSince new (since_of old merged) p.1)

-- ---- the round
-- Its claim is appended, if it claims; the log is read to its end and merged; the calls are made; and what has changed is
-- appended. Then the log covers all that the node knows. Where others append to the log, its claim is the first entry there that
-- tells of its number.
pub record IsRound (old : ReplicaContent) (calls : List Call) (replies : List Reply) (new : ReplicaContent) : Type
    0 where
  pub claim : List LogCall
  pub pages : List LogCall
  pub merged_node : NodeContent
  pub mid : NodeContent
  pub wrote : List LogCall
  pub asked : Calls old.calls new.calls (claim ++ (pages ++ wrote))
  pub start : IsSameStart old new
  pub sequence : NumbersOn old.sequence (claim ++ (pages ++ wrote)) new.sequence
  pub claims : IsClaim old calls claim new
  pub read : AreReadToTheEnd (place_after old.alone old.read_to claim) pages
  pub read_to : new.read_to ≡ place_after old.alone (last_read (place_after old.alone old.read_to claim) pages) wrote
  pub good : AreGood new.fleet (entries_in pages)
  pub told : (old.alone ≡ false) ⊎ (claim ≡ []) → TellFleets (told_in old) (entries_in pages) (told_in new)
  pub holds : old.claimed ≡ false → HoldsNumber new.node.number new.tag (entries_in pages)
  pub first : IsClaiming old calls → old.alone ≡ false → IsTakenFirst new.node.number new.tag (entries_in pages)
  pub used_numbers : AreNoted old.used_numbers (entries_in pages) new.used_numbers
  pub counted : CountsEntries (counted_by old) (own_entries old.alone claim ++ (entries_in pages ++ own_entries old.alone wrote)) (counted_by new)
  pub merged : MergesEntries old.node (entries_in pages) merged_node
  pub raised : IsRaised claim old.floor merged_node mid
  pub made : Makes mid calls replies new.node
  pub written : IsWriting old merged_node wrote new
  pub all : new.durable ≡ true
  pub durable : IsCoveredBy new.calls (known_by new.node)
