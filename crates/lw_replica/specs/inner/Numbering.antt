-- Numbers that starts have had.
use Rattle.std.specs.Prelude.{ℕ, ◌<◌, ◌≤◌, ◌^◌}

-- each number was had
abbrev pub AreAllHad : (ℕ → Type 0) → Type 0
AreAllHad had = (n : ℕ) → 1 ≤ n → n < 2 ^ 16 → had n
