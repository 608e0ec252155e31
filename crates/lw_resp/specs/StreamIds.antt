-- Identifiers of the entries of a stream (Redis streams: entry IDs).
use Rattle.std.specs.Prelude.{◌≡◌, ◌<◌, ◌≤◌, ◌^◌, ◌⊎◌, ℕ, List, ◌∷◌, ◌++◌}
use Rattle.std.specs.Fmt.{decimal}
use Rattle.lw_resp.specs.declared.stream_id.StreamId.{StreamId}

-- the text: both numbers in decimal, with `-` between them
abbrev pub id_text : StreamId → List ℕ
id_text id = decimal id.major ++ (45 ∷ decimal id.minor)

-- both numbers have 64 bits
pub record FitsId (id : StreamId) : Type 0 where
  pub major : id.major < 2 ^ 64
  pub minor : id.minor < 2 ^ 64

-- identifiers rise by the first number, and then by the second
abbrev pub IsAbove : StreamId → StreamId → Type 0
IsAbove id other = (id.major < other.major) ⊎ ((id.major ≡ other.major) × (id.minor < other.minor))

-- the least identifier above another
pub record IsNextId (id next : StreamId) : Type 0 where
  pub above : IsAbove id next
  pub least : (other : StreamId) → FitsId other → IsAbove id other → (next ≡ other) ⊎ IsAbove next other
