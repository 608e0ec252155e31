-- Parts of a reply to TIME.
use Rattle.std.specs.Prelude.{◌≡◌, ◌<◌, ◌+◌, ◌*◌, ◌/◌, ◌^◌, ℕ, List, [], ◌∷◌, ◌++◌}
use Rattle.std.specs.Fmt.{decimal}
use Rattle.lw_resp.specs.Bytes.{bulk_bytes, command_bytes}
use Rattle.lw_resp.specs.Words.{IsBulk}

-- the bytes are one bulk string
pub record IsLastBulk (bytes content : List ℕ) : Type 0 where
  pub valid : IsBulk content
  pub written : bytes ≡ bulk_bytes content

-- two bulk strings
pub record ArePair (bytes first last : List ℕ) : Type 0 where
  pub is_first : IsBulk first
  pub is_last : IsBulk last
  pub written : bytes ≡ bulk_bytes first ++ bulk_bytes last

-- an array of two bulk strings
pub record AreTexts (bytes first last : List ℕ) : Type 0 where
  pub is_first : IsBulk first
  pub is_last : IsBulk last
  pub written : bytes ≡ command_bytes (first ∷ last ∷ [])

-- the milliseconds of seconds and microseconds in decimal
pub record IsMoment (whole part : List ℕ) (told : ℕ) : Type 0 where
  pub seconds : ℕ
  pub microseconds : ℕ
  pub are_seconds : whole ≡ decimal seconds
  pub are_microseconds : part ≡ decimal microseconds
  pub below : microseconds < 1000000
  pub is : told ≡ seconds * 1000 + microseconds / 1000
  pub fits : told < 2 ^ 64
