-- Entries that are known again, and what a page tells of them (FIPS 180-4: SHA-256).
use Rattle.std.specs.Prelude.{◌≡◌, ◌<◌, ◌⊎◌, ℕ, List, ◌∷◌, length, Option, Some, None, Any}
use Rattle.sha2.specs.Sha256.{sha256}
use Rattle.lw_resp.specs.StreamIds.{IsAbove}
use Rattle.lw_resp.specs.declared.stream_id.StreamId.{StreamId}
use Rattle.lw_log.specs.declared.position.Position.{Position}
use Rattle.lw_redis_log.specs.Pages.{id_at}
use Rattle.lw_redis_log.specs.declared.marks.Mark.{Mark}
use Rattle.lw_redis_log.specs.declared.marks.Arrival.{Arrival}
use Rattle.lw_redis_log.specs.declared.marks.Arrival.TheVariants.{Came, Due, Gone}

-- the identifier, how many bytes there are, and their digest
abbrev pub mark_of : StreamId → List ℕ → Mark
mark_of id bytes = record { id = id; length = length bytes; digest = sha256 bytes }

-- the entry of a log has the mark
abbrev pub HasMark : Mark → Position × List ℕ → Type 0
HasMark mark placed = mark ≡ mark_of (id_at placed.0) placed.1

-- the page begins with the entry of the mark, and the rest stands behind it
pub record IsBehind (mark : Mark) (page rest : List (Position × List ℕ)) : Type 0 where
  pub first : Position × List ℕ
  pub marked : HasMark mark first
  pub begun : page ≡ first ∷ rest

-- the position is at the identifier or above it
abbrev pub IsAt : StreamId → Option StreamId → Type 0
IsAt id None = ⊥
IsAt id (Some after) = ¬ IsAbove after id

-- the page, of entries above a position, ends the stream or goes as far as the identifier
abbrev pub IsPast : StreamId → Option StreamId → List (Position × List ℕ) → Type 0
IsPast id after page = (length page < 256) ⊎ (Any (λ e. ¬ IsAbove (id_at e.0) id) page ⊎ IsAt id after)

-- the entry of the mark is there; else it is gone where the page is past it, and due where it is not
abbrev pub IsArrival : Mark → Option StreamId → List (Position × List ℕ) → Arrival → Type 0
IsArrival mark after page Came = Any (HasMark mark) page
IsArrival mark after page Due = ¬ Any (HasMark mark) page × ¬ IsPast mark.id after page
IsArrival mark after page Gone = ¬ Any (HasMark mark) page × IsPast mark.id after page
