-- The sizes of a run.
use Rattle.std.specs.Prelude.{◌≡◌, ℕ, ◌≤◌, Option, Some}

-- 1 to 1,000,000 datagrams
abbrev pub IsCount : ℕ → Type 0
IsCount count = (1 ≤ count) × (count ≤ 1000000)

-- 1 to 16 nodes
abbrev pub AreNodes : ℕ → Type 0
AreNodes nodes = (1 ≤ nodes) × (nodes ≤ 16)

-- 1 to 8 workers
abbrev pub AreWorkers : ℕ → Type 0
AreWorkers workers = (1 ≤ workers) × (workers ≤ 8)

-- the journals are cut after 1 to 1,000,000 rounds, or never
abbrev pub IsCut : Option ℕ → Type 0
IsCut cut = (rounds : ℕ) → cut ≡ Some rounds → (1 ≤ rounds) × (rounds ≤ 1000000)

-- how many datagrams are taken in one round at most
abbrev pub most_at_once : ℕ
most_at_once = 32
