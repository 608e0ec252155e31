-- What bytes are to values that are spelled as bytes, however they were cut.
use Rattle.std.specs.Prelude.{◌≡◌, ◌≢◌, ◌<◌, ℕ, List, ◌++◌, length}

-- the bytes begin with the spelling of the value, and the rest stands behind it
pub record Begins {A : Type 0} (Is : A → Type 0) (spelled : A → List ℕ) (bytes : List ℕ) (value : A) (rest : List ℕ) : Type 0 where
  pub valid : Is value
  pub written : bytes ≡ spelled value ++ rest

-- the bytes are the beginning of the spelling of a value, and not all of it
pub record IsCut {A : Type 0} (Is : A → Type 0) (spelled : A → List ℕ) (bytes : List ℕ) : Type 0 where
  pub value : A
  pub valid : Is value
  pub more : List ℕ
  pub some : 0 < length more
  pub written : spelled value ≡ bytes ++ more

-- whatever comes behind the bytes, they do not begin with the spelling of a value
abbrev pub IsMalformed : {A : Type 0} → (A → Type 0) → (A → List ℕ) → List ℕ → Type 0
IsMalformed {A = A} Is spelled bytes = (value : A) → Is value → (more rest : List ℕ) → bytes ++ more ≢ spelled value ++ rest
