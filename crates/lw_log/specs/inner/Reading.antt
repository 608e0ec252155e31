-- Parts of an entry, where they stand in its bytes.
use Rattle.std.specs.Prelude.{◌≡◌, ℕ, ◌+◌, ◌≤◌, ◌<◌, ◌^◌, List, length, take, drop}
use Rattle.std.specs.Int.{w64, from_be_bytes}
use Rattle.lw_delta.specs.Delta.{DeltaContent, IsSpelling, IsFault as IsDeltaFault}
use Rattle.lw_log.specs.declared.entry_fault.EntryFault.{EntryFault}
use Rattle.lw_log.specs.declared.entry_fault.EntryFault.TheVariants.{Magic, Newer, Truncated, Range, Trailing, Delta}
use Rattle.lw_log.specs.declared.reading.Head.{Head}
use Rattle.lw_log.specs.Entries.{BodyContent, FitsBody, HasDelta, kind_of, body_bytes}
use Rattle.lw_log.specs.EntryFaults.{HasHead, number_in, kind_in, body_in, IsNewerDelta}

-- so many bytes at a place
abbrev pub IsChunk : List ℕ → ℕ → ℕ → List ℕ → Type 0
IsChunk bytes at count chunk = (at + count ≤ length bytes) × (chunk ≡ take count (drop at bytes))

-- what stands before the body, and the body
pub record IsHead (bytes : List ℕ) (head : Head) : Type 0 where
  pub whole : HasHead bytes
  pub fleet : head.fleet.bytes ≡ take 16 (drop 4 bytes)
  pub number : head.start.number ≡ number_in bytes
  pub tag : head.start.tag ≡ from_be_bytes w64 (take 8 (drop 22 bytes))
  pub sequence : head.sequence ≡ from_be_bytes w64 (take 8 (drop 30 bytes))
  pub kind : head.kind ≡ kind_in bytes
  pub body : head.body.now ≡ body_in bytes
  pub fits : (head.start.number < 2 ^ 16) × (head.start.tag < 2 ^ 64) × (head.sequence < 2 ^ 64)

-- a delta
abbrev pub IsDelta : List ℕ → Type 0
IsDelta delta = (d : DeltaContent) × IsSpelling delta d

-- the first fault of bytes that are no delta
abbrev pub IsDeltaFaultOf : List ℕ → EntryFault → Type 0
IsDeltaFaultOf delta Newer = IsNewerDelta delta
IsDeltaFaultOf delta (Delta fault) = (IsNewerDelta delta → ⊥) × IsDeltaFault delta fault
IsDeltaFaultOf delta Magic = ⊥
IsDeltaFaultOf delta Truncated = ⊥
IsDeltaFaultOf delta Range = ⊥
IsDeltaFaultOf delta Trailing = ⊥

-- the body of a kind
pub record IsBodyOf (kind : ℕ) (body : List ℕ) (content : BodyContent) : Type 0 where
  pub kind_is : kind_of content ≡ kind
  pub written : body ≡ body_bytes content
  pub fits : FitsBody content
  pub spelled : (delta : List ℕ) → HasDelta content delta → IsDelta delta
