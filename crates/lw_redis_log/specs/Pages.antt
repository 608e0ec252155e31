-- The entries of a stream as those of a log (Redis streams: entry IDs, fields and values).
use Rattle.std.specs.Prelude.{◌≡◌, ◌≢◌, ℕ, List, [], Option, Some, None, Any}
use Rattle.std.specs.Borrow.{Bor}
use Rattle.std.specs.List.{AllZip}
use Rattle.lw_resp.specs.StreamIds.{id_text, FitsId}
use Rattle.lw_resp.specs.declared.entries.Entry.{Entry}
use Rattle.lw_resp.specs.declared.stream_id.StreamId.{StreamId}
use Rattle.lw_log.specs.declared.position.Position.{Position}

-- a position is an identifier
abbrev pub id_at : Position → StreamId
id_at p = record { major = p.major; minor = p.minor }

-- the value of the field `e`; a foreign entry has no bytes
abbrev pub bytes_of : Option (Bor (List ℕ)) → List ℕ
bytes_of None = []
bytes_of (Some value) = value.now

-- an entry of a log: where it stands, and its bytes
pub record IsPlaced (entry : Entry) (placed : Position × List ℕ) : Type 0 where
  pub position : entry.id.now ≡ id_text (id_at placed.0)
  pub bytes : placed.1 ≡ bytes_of entry.value

-- each entry in its place
abbrev pub IsPage : List Entry → List (Position × List ℕ) → Type 0
IsPage entries page = AllZip IsPlaced entries page

-- an entry whose identifier is none
abbrev pub HasNoId : Entry → Type 0
HasNoId entry = (id : StreamId) → FitsId id → entry.id.now ≢ id_text id
