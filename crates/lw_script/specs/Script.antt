-- A script: a line that counts the nodes, and a line for each event. Lines end with a line feed, which may be missing
-- at the end.
use Rattle.std.specs.Prelude.{◌≡◌, ◌==◌, ◌≤◌, ◌<◌, ◌+◌, ℕ, zero, suc, List, [], ◌∷◌, codes, Some, slice_get}
use Rattle.std.specs.List.{slice_split, before_first, after_first, AllZip}
use Rattle.std.specs.Str.{IsUtf8}
use Rattle.std.specs.Io.BufRead.{strip_last}
use Rattle.lw_world.specs.declared.event.Event.{Event}
use Rattle.lw_script.specs.Fields.{HasSpace, is_space, IsNumber}
use Rattle.lw_script.specs.Lines.{IsLine}

-- the number of the nodes, and the events
pub record ScriptContent : Type 0 where
  pub nodes : ℕ
  pub events : List Event

-- what is between line feeds, the last byte aside where it is one
abbrev pub lines_of : List ℕ → List (List ℕ)
lines_of bytes = slice_split (λ byte. byte == 10) (strip_last 10 bytes)

-- `nodes`, and a number from 1 to 16
pub record IsNodes (nodes : ℕ) (line : List ℕ) : Type 0 where
  pub parted : HasSpace line
  pub word_is : before_first is_space line ≡ codes "nodes"
  pub number_is : IsNumber 17 nodes (after_first is_space line)
  pub some : 1 ≤ nodes

-- a line in UTF-8 (RFC 3629) that spells the event
pub record IsEvent (event : Event) (line : List ℕ) : Type 0 where
  pub text : IsUtf8 line
  pub line_is : IsLine event line

-- the first line counts the nodes, and each of the others spells an event
abbrev pub AreLines : ℕ → List Event → List (List ℕ) → Type 0
AreLines nodes events [] = ⊥
AreLines nodes events (first ∷ others) = IsNodes nodes first × AllZip IsEvent events others

-- the bytes are a script
abbrev pub IsScript : ℕ → List Event → List ℕ → Type 0
IsScript nodes events bytes = AreLines nodes events (lines_of bytes)

-- a line is good at a place, where the first is 0
abbrev pub IsGood : ℕ → List ℕ → Type 0
IsGood zero line = (nodes : ℕ) × IsNodes nodes line
IsGood (suc place) line = (event : Event) × IsEvent event line

-- the first bad line, counted from 1
pub record IsFirstBad (lines : List (List ℕ)) (number : ℕ) : Type 0 where
  pub place : ℕ
  pub line : List ℕ
  pub number_is : number ≡ place + 1
  pub line_is : slice_get lines place ≡ Some line
  pub bad : ¬ IsGood place line
  pub before : (k : ℕ) (good : List ℕ) → k < place → slice_get lines k ≡ Some good → IsGood k good
