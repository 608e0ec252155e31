-- How much is taken at once.
use Rattle.std.specs.Prelude.{ℕ}

-- how many datagrams are taken in one turn at most
abbrev pub most_at_once : ℕ
most_at_once = 256
