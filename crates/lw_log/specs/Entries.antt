-- Entries of a log as bytes, and the deltas that they bring. Numbers are big-endian.
use Rattle.std.specs.Prelude.{◌≡◌, ℕ, ◌<◌, ◌≤◌, ◌^◌, List, [], ◌∷◌, ◌++◌, length, codes}
use Rattle.std.specs.Int.{w16, w64, to_be_bytes}
use Rattle.lw_delta.specs.Delta.{DeltaContent, IsSpelling}
use Rattle.lw_log.specs.declared.entry.Body.{Body}
use Rattle.lw_log.specs.declared.entry.Body.TheVariants.{Start as StartBody, Delta as DeltaBody}
use Rattle.lw_log.specs.declared.entry.Body.TheVariants.{Snapshot as SnapshotBody}
use Rattle.lw_log.specs.declared.entry.Entry.{Entry}

-- a start says nothing more; a snapshot has the numbers that starts have had, a bit each, before its delta
pub data BodyContent : Type 0 where
  Start : BodyContent
  Delta : List ℕ → BodyContent
  Snapshot : List ℕ → List ℕ → BodyContent

pub record EntryContent : Type 0 where
  pub fleet : List ℕ
  pub number : ℕ
  pub tag : ℕ
  pub sequence : ℕ
  pub body : BodyContent

-- ---- what the library's entries are
abbrev pub body_content : Body → BodyContent
body_content StartBody = Start
body_content (DeltaBody delta) = Delta delta.now
body_content (SnapshotBody used_numbers delta) = Snapshot used_numbers.now delta.now

abbrev pub content_of : Entry → EntryContent
content_of e = record { fleet = e.fleet.bytes; number = e.start.number; tag = e.start.tag; sequence = e.sequence; body = body_content e.body }

-- ---- the bytes of an entry
abbrev pub kind_of : BodyContent → ℕ
kind_of Start = 0
kind_of (Delta delta) = 1
kind_of (Snapshot used_numbers delta) = 2

abbrev pub body_bytes : BodyContent → List ℕ
body_bytes Start = []
body_bytes (Delta delta) = delta
body_bytes (Snapshot used_numbers delta) = used_numbers ++ delta

-- the magic, the fleet, the number and the tag of the start, the sequence, and what stands behind
abbrev pub headed : List ℕ → ℕ → ℕ → ℕ → List ℕ → List ℕ
headed fleet number tag sequence rest = codes "LWE1" ++ (fleet ++ (to_be_bytes w16 number ++ (to_be_bytes w64 tag ++ (to_be_bytes w64 sequence ++ rest))))

abbrev pub entry_bytes : EntryContent → List ℕ
entry_bytes e = headed e.fleet e.number e.tag e.sequence (kind_of e.body ∷ body_bytes e.body)

-- ---- which bytes are an entry
-- a snapshot has a bit for each number up to 65535
abbrev pub FitsBody : BodyContent → Type 0
FitsBody Start = Unit {0}
FitsBody (Delta delta) = Unit {0}
FitsBody (Snapshot used_numbers delta) = length used_numbers ≡ 8192

pub record FitsEntry (e : EntryContent) : Type 0 where
  pub fleet : length e.fleet ≡ 16
  pub number : (1 ≤ e.number) × (e.number < 2 ^ 16)
  pub tag : e.tag < 2 ^ 64
  pub sequence : e.sequence < 2 ^ 64
  pub body : FitsBody e.body

-- the body has this delta
abbrev pub HasDelta : BodyContent → List ℕ → Type 0
HasDelta Start delta = ⊥
HasDelta (Delta own) delta = own ≡ delta
HasDelta (Snapshot used_numbers own) delta = own ≡ delta

-- the bytes are those of the entry, its parts fit, and its delta is spelled
pub record IsEntry (bytes : List ℕ) (e : EntryContent) : Type 0 where
  pub written : bytes ≡ entry_bytes e
  pub fits : FitsEntry e
  pub spelled : (delta : List ℕ) → HasDelta e.body delta → (d : DeltaContent) × IsSpelling delta d

-- the bytes are an entry that has this delta
pub record BringsDelta (bytes : List ℕ) (d : DeltaContent) : Type 0 where
  pub entry : EntryContent
  pub delta : List ℕ
  pub is : IsEntry bytes entry
  pub has : HasDelta entry.body delta
  pub spelled : IsSpelling delta d
