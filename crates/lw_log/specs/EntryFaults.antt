-- What is first wrong, from left to right, in bytes that are no entry.
use Rattle.std.specs.Prelude.{◌≡◌, ◌≢◌, ℕ, ◌<◌, ◌≤◌, ◌⊎◌, List, length, slice_index, take, drop, codes}
use Rattle.std.specs.Int.{w16, from_be_bytes}
use Rattle.lw_delta.specs.Delta.{IsFault as IsDeltaFault}
use Rattle.lw_log.specs.declared.entry_fault.EntryFault.{EntryFault}
use Rattle.lw_log.specs.declared.entry_fault.EntryFault.TheVariants.{Magic, Newer, Truncated, Range, Trailing, Delta}

-- ---- where the parts stand: magic at 0, fleet at 4, number at 20, tag at 22, sequence at 30, kind at 38, body at 39
abbrev pub number_in : List ℕ → ℕ
number_in bytes = from_be_bytes w16 (take 2 (drop 20 bytes))

abbrev pub kind_in : List ℕ → ℕ
kind_in bytes = slice_index bytes 38

abbrev pub body_in : List ℕ → List ℕ
body_in bytes = drop 39 bytes

-- ---- up to the kind
-- the magic is whole, and is that of the format
abbrev pub HasMagic : List ℕ → Type 0
HasMagic bytes = take 4 bytes ≡ codes "LWE1"

-- all parts up to the kind are whole, and the number is one
pub record HasHead (bytes : List ℕ) : Type 0 where
  pub magic : HasMagic bytes
  pub long : 39 ≤ length bytes
  pub number : 1 ≤ number_in bytes

abbrev pub IsHeadFault : List ℕ → EntryFault → Type 0
IsHeadFault bytes Magic = (4 ≤ length bytes) × (take 3 bytes ≢ codes "LWE")
IsHeadFault bytes Newer = (4 ≤ length bytes) × (take 3 bytes ≡ codes "LWE") × (take 4 bytes ≢ codes "LWE1")
IsHeadFault bytes Truncated =
    (length bytes < 4) ⊎ ((HasMagic bytes × (length bytes < 22)) ⊎ (HasMagic bytes × (1 ≤ number_in bytes) × (22 ≤ length bytes) × (length bytes < 39)))
IsHeadFault bytes Range = HasMagic bytes × (22 ≤ length bytes) × (number_in bytes ≡ 0)
IsHeadFault bytes Trailing = ⊥
IsHeadFault bytes (Delta fault) = ⊥

-- ---- the body
-- where the body of this kind has a delta, it is this
abbrev pub HoldsDelta : ℕ → List ℕ → List ℕ → Type 0
HoldsDelta kind body delta = ((kind ≡ 1) × (delta ≡ body)) ⊎ ((kind ≡ 2) × (8192 ≤ length body) × (delta ≡ drop 8192 body))

-- it begins with `LWD`, and is of none of the formats that are read
abbrev pub IsNewerDelta : List ℕ → Type 0
IsNewerDelta delta =
    (4 ≤ length delta) × (take 3 delta ≡ codes "LWD") × (take 4 delta ≢ codes "LWD1") × (take 4 delta ≢ codes "LWD2") × (take 4 delta ≢ codes "LWD3")

abbrev pub IsBodyFault : ℕ → List ℕ → EntryFault → Type 0
IsBodyFault kind body Magic = ⊥
IsBodyFault kind body Newer = (delta : List ℕ) × HoldsDelta kind body delta × IsNewerDelta delta
IsBodyFault kind body Truncated = (kind ≡ 2) × (length body < 8192)
IsBodyFault kind body Range = 2 < kind
IsBodyFault kind body Trailing = (kind ≡ 0) × (0 < length body)
IsBodyFault kind body (Delta fault) = (delta : List ℕ) × HoldsDelta kind body delta × (IsNewerDelta delta → ⊥) × IsDeltaFault delta fault

-- ---- the whole
-- this is the first fault
abbrev pub IsFault : List ℕ → EntryFault → Type 0
IsFault bytes fault = IsHeadFault bytes fault ⊎ (HasHead bytes × IsBodyFault (kind_in bytes) (body_in bytes) fault)

-- the entry is of a newer format, or all before its delta is good and the delta is of one
abbrev pub IsNewer : List ℕ → Type 0
IsNewer bytes = IsFault bytes Newer
