-- The numbers of a path: an object, and of it an instance, a resource and a resource instance (LwM2M 1.1
-- Core, section 7.1).
use Rattle.std.specs.Prelude.{◌≡◌, ℕ, ◌-◌, ◌≤◌, Bool, IsTrue, List, ◌++◌, length, take, replicate, nat_le}
use Rattle.std.specs.List.{list_all}

-- 65535 names no object
abbrev pub is_number : ℕ → Bool
is_number n = nat_le n 65534

-- one to four numbers
pub record IsPathNumbers (numbers : List ℕ) : Type 0 where
  pub some : 1 ≤ length numbers
  pub most : length numbers ≤ 4
  pub each : IsTrue (list_all is_number numbers)

-- a path's numbers, and zeros up to four
pub record IsKept (numbers : List ℕ) (count : ℕ) : Type 0 where
  pub front : IsPathNumbers (take count numbers)
  pub count_is : length (take count numbers) ≡ count
  pub zeros : numbers ≡ take count numbers ++ replicate (4 - count) 0
