-- A part of a format that is found at the head of bytes.
use Rattle.std.specs.Prelude.{ℕ, List}
use Rattle.lw_delta.specs.Part.{Part, Found}

-- the bytes begin with the part
pub record IsFound {A : Type 0} (part : Part A) (bytes : List ℕ) : Type 0 where
  pub value : A
  pub rest : List ℕ
  pub found : Found part bytes value rest
