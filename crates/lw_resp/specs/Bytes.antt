-- Bulk strings and commands as bytes (Redis serialization protocol, version 2: bulk strings, arrays, sending commands).
use Rattle.std.specs.Prelude.{ℕ, List, [], ◌∷◌, ◌++◌, length}
use Rattle.std.specs.Fmt.{decimal}
use Rattle.std.specs.List.{flat_map}

-- what ends a line: a carriage return and a line feed
abbrev pub crlf : List ℕ
crlf = 13 ∷ 10 ∷ []

-- a line: its kind, a number in decimal, and its end
abbrev pub count_line : ℕ → ℕ → List ℕ
count_line kind count = kind ∷ (decimal count ++ crlf)

-- a bulk string: `$` with its length, its bytes, and the end of a line
abbrev pub bulk_bytes : List ℕ → List ℕ
bulk_bytes content = count_line 36 (length content) ++ (content ++ crlf)

-- an array of bulk strings: `*` with their number, and each of them. A command is one
abbrev pub command_bytes : List (List ℕ) → List ℕ
command_bytes words = count_line 42 (length words) ++ flat_map bulk_bytes words
