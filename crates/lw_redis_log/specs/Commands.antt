-- The commands of a log over a stream, as words (Redis commands: XRANGE, XADD, XTRIM, AUTH, PING, INFO, TIME).
use Rattle.std.specs.Prelude.{◌≡◌, ◌⊎◌, ℕ, List, [], ◌∷◌, Bool, true, false, codes}
use Rattle.lw_resp.specs.Bytes.{command_bytes}
use Rattle.lw_resp.specs.StreamIds.{id_text, FitsId, IsAbove, IsNextId}
use Rattle.lw_resp.specs.declared.stream_id.StreamId.{StreamId}
use Rattle.lw_redis_log.specs.declared.commands.ReadFrom.{ReadFrom}
use Rattle.lw_redis_log.specs.declared.commands.ReadFrom.TheVariants.{First, Above, At}

-- where a range starts: `-` is the first entry, an identifier is its entry, and `(` with one what stands above it
abbrev pub start_word : ReadFrom → List ℕ
start_word First = codes "-"
start_word (Above id) = 40 ∷ id_text id
start_word (At id) = id_text id

-- 256 entries, and one more where the first of them is known
abbrev pub count_word : ReadFrom → List ℕ
count_word First = codes "256"
count_word (Above id) = codes "256"
count_word (At id) = codes "257"

-- the first entries of a range to the end
abbrev pub read_words : List ℕ → ReadFrom → List (List ℕ)
read_words key from =
    codes "XRANGE" ∷ key ∷ start_word from ∷ codes "+" ∷ codes "COUNT" ∷ count_word from ∷ []

-- an entry with the field `e`, whose identifier the server makes; with NOMKSTREAM only where the stream is there
abbrev pub append_words : List ℕ → List ℕ → Bool → List (List ℕ)
append_words key entry true = codes "XADD" ∷ key ∷ codes "*" ∷ codes "e" ∷ entry ∷ []
append_words key entry false =
    codes "XADD" ∷ key ∷ codes "NOMKSTREAM" ∷ codes "*" ∷ codes "e" ∷ entry ∷ []

-- entries below an identifier go, exactly; or all
abbrev pub below_words : List ℕ → StreamId → List (List ℕ)
below_words key id = codes "XTRIM" ∷ key ∷ codes "MINID" ∷ codes "=" ∷ id_text id ∷ []

abbrev pub all_words : List ℕ → List (List ℕ)
all_words key = codes "XTRIM" ∷ key ∷ codes "MAXLEN" ∷ codes "=" ∷ codes "0" ∷ []

-- entries at or below an identifier go: those below the next one, and all where there is none
abbrev pub IsTrim : List ℕ → StreamId → List ℕ → Type 0
IsTrim key upto bytes = ((next : StreamId) × IsNextId upto next × (bytes ≡ command_bytes (below_words key next)))
    ⊎ (((id : StreamId) → FitsId id → ¬ IsAbove upto id) × (bytes ≡ command_bytes (all_words key)))

abbrev pub login_words : List ℕ → List ℕ → List (List ℕ)
login_words user password = codes "AUTH" ∷ user ∷ password ∷ []

abbrev pub ping_words : List (List ℕ)
ping_words = codes "PING" ∷ []

abbrev pub info_words : List (List ℕ)
info_words = codes "INFO" ∷ []

abbrev pub time_words : List (List ℕ)
time_words = codes "TIME" ∷ []
