-- What a reply to TIME tells (Redis commands: TIME).
use Rattle.std.specs.Prelude.{◌≡◌, ◌<◌, ◌+◌, ◌*◌, ◌/◌, ◌^◌, ℕ, List, [], ◌∷◌, Result, MatchResult}
use Rattle.std.specs.Fmt.{decimal}
use Rattle.lw_resp.specs.Bytes.{command_bytes}
use Rattle.lw_resp.specs.Words.{IsText, word_bytes}
use Rattle.lw_resp.specs.Words.WordContent.{Error}
use Rattle.lw_redis_log.specs.declared.outcomes.RedisFault.{RedisFault}
use Rattle.lw_redis_log.specs.declared.outcomes.RedisFault.TheVariants.{Unavailable, Refused, Lost}
use Rattle.lw_redis_log.specs.Errors.{Passes}

-- the bytes are an array of two bulk strings: the seconds since 1970 and the microseconds of the next one, in decimal.
-- What is told is the same in milliseconds, of 64 bits
pub record IsTime (bytes : List ℕ) (told : ℕ) : Type 0 where
  pub seconds : ℕ
  pub microseconds : ℕ
  pub written : bytes ≡ command_bytes (decimal seconds ∷ decimal microseconds ∷ [])
  pub below : microseconds < 1000000
  pub is : told ≡ seconds * 1000 + microseconds / 1000
  pub fits : told < 2 ^ 64

-- the bytes are an error with the text
pub record IsError (bytes text : List ℕ) : Type 0 where
  pub valid : IsText text
  pub written : bytes ≡ word_bytes (Error text)

-- a refusal with the text of the error; else it is an error that passes, or neither a time nor an error
abbrev pub IsTimeFault : List ℕ → RedisFault → Type 0
IsTimeFault bytes Unavailable = ((told : ℕ) → ¬ IsTime bytes told)
    × ((text : List ℕ) → IsError bytes text → Passes text)
IsTimeFault bytes (Refused text) = IsError bytes text.now × ¬ Passes text.now
IsTimeFault bytes Lost = ⊥

-- the time that is told
abbrev pub IsTimeTold : List ℕ → Result ℕ RedisFault → Type 0
IsTimeTold bytes result = MatchResult result (IsTime bytes) (IsTimeFault bytes)
