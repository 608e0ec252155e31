-- The first line of some bytes.
use Rattle.std.specs.Prelude.{ℕ, ◌==◌, List}
use Rattle.std.specs.List.{before_first}

-- how many bytes a line may have, its line feed not counted
abbrev pub longest_line : ℕ
longest_line = 1048576

-- what stands before the first line feed, or all of the bytes where there is none
abbrev pub line_of : List ℕ → List ℕ
line_of bytes = before_first (λ byte. byte == 10) bytes
