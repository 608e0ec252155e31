-- Parts of a format: what bytes that begin with a part spell, and what is first wrong in bytes that do not.
use Rattle.std.specs.Prelude.{◌≡◌, ℕ, ◌<◌, ◌≤◌, ◌⊎◌, ◌==◌, Bool, true, false, List, [], ◌∷◌, ◌++◌, length, slice_index, Option, Some, None}
use Rattle.lw_delta.specs.declared.fault.DeltaFault.{DeltaFault}
use Rattle.lw_delta.specs.declared.fault.DeltaFault.TheVariants.{Truncated, Range}

-- the bytes begin with the part, which spells the value, and the rest stands behind it; or the fault is the
-- first in them
pub record Part (A : Type 0) : Type 1 where
  pub spells : List ℕ → A → List ℕ → Type 0
  pub wrong : List ℕ → DeltaFault → Type 0

pub record Found {A : Type 0} (part : Part A) (bytes : List ℕ) (value : A) (rest : List ℕ) : Type 0 where
  pub is : part.spells bytes value rest

pub record Fails {A : Type 0} (part : Part A) (bytes : List ℕ) (fault : DeltaFault) : Type 0 where
  pub is : part.wrong bytes fault

-- one byte
unfoldable pub byte : Part ℕ
byte = record {
  spells = λ bytes value rest. (bytes ≡ value ∷ rest) × (value < 256);
  wrong = λ bytes fault. (bytes ≡ []) × (fault ≡ Truncated);
}

-- so many bytes
unfoldable pub bytes_of : ℕ → Part (List ℕ)
bytes_of count = record {
  spells = λ bytes value rest. (bytes ≡ value ++ rest) × (length value ≡ count) × ((i : ℕ) → slice_index value i < 256);
  wrong = λ bytes fault. (length bytes < count) × (fault ≡ Truncated);
}

-- no bytes, and a value for which this holds
unfoldable pub means : {A : Type 0} → (A → Type 0) → Part A
means {A} holds = record {
  spells = λ bytes value rest. (bytes ≡ rest) × holds value;
  wrong = λ bytes fault. ⊥;
}

-- no bytes, and this value
abbrev pub gives : {A : Type 0} → A → Part A
gives {A} given = means (λ (value : A). value ≡ given)

-- this must hold before the part, or the fault is this one
unfoldable pub must : {A : Type 0} → Type 0 → DeltaFault → Part A → Part A
must {A} holds fault part = record {
  spells = λ bytes value rest. holds × Found part bytes value rest;
  wrong = λ bytes first. ((holds → ⊥) × (first ≡ fault)) ⊎ (holds × Fails part bytes first);
}

-- one part, and behind it another, which may rest on what the first one spells
unfoldable pub followed : {A B : Type 0} → Part A → (A → Part B) → Part B
followed {A} {B} part next = record {
  spells = λ bytes value rest. (first : A) × (behind : List ℕ) × Found part bytes first behind × Found (next first) behind value rest;
  wrong = λ bytes fault. Fails part bytes fault ⊎ ((first : A) × (behind : List ℕ) × Found part bytes first behind × Fails (next first) behind fault);
}

-- a part that is there where a flag is set
abbrev pub when : {A : Type 0} → Bool → Part A → Part (Option A)
when {A} true part = followed part (λ value. gives (Some value))
when {A} false part = gives None

-- a byte 00 or 01
abbrev pub tag : Part Bool
tag = followed byte (λ value. must (value ≤ 1) Range (gives (value == 1)))

-- the byte 00, or the byte 01 and the part
abbrev pub optional : {A : Type 0} → Part A → Part (Option A)
optional {A} part = followed tag (λ present. when present part)

-- ---- parts one after another, each behind 01, which may rest on the key of the one before
abbrev pub last_key : {K A : Type 0} → (A → K) → Option K → List A → Option K
last_key key after [] = after
last_key key after (x ∷ xs) = last_key key (Some (key x)) xs

-- the bytes begin with these, and the rest stands behind them
abbrev pub Walks : {K A : Type 0} → (Option K → Part A) → (A → K) → Option K → List ℕ → List A → List ℕ → Type 0
Walks item key after bytes [] rest = bytes ≡ rest
Walks item key after bytes (x ∷ xs) rest = (behind : List ℕ) × Found (optional (item after)) bytes (Some x) behind × Walks item key (Some (key x)) behind xs rest

-- all of them, up to a 00
unfoldable pub repeated : {K A : Type 0} → (Option K → Part A) → (A → K) → Option K → Part (List A)
repeated {K} {A} item key after = record {
  spells = λ bytes values rest. (behind : List ℕ) × Walks item key after bytes values behind × Found (optional (item (last_key key after values))) behind None rest;
  wrong = λ bytes fault. (values : List A) × (behind : List ℕ) × Walks item key after bytes values behind × Fails (optional (item (last_key key after values))) behind fault;
}
