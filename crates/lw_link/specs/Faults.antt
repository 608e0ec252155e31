-- Why bytes spell no list of at most 256 links.
use Rattle.std.specs.Prelude.{ℕ, ◌<◌, ◌≤◌, List, ◌++◌, length, take, IsUtf8}
use Rattle.lw_link.specs.declared.fault.LinkFault.{LinkFault}
use Rattle.lw_link.specs.declared.fault.LinkFault.TheVariants.{NotText, Grammar, TooMany, NoMemory}
use Rattle.lw_link.specs.Link.{LinkContent}
use Rattle.lw_link.specs.Spelling.{Spells}

-- some list begins with these bytes
abbrev pub Begins : List ℕ → Type 0
Begins front = (rest : List ℕ) × (links : List LinkContent) × Spells (front ++ rest) links

-- the place is the length of a front of whole characters that some list begins with, and of no longer one
pub record IsPlace (bytes : List ℕ) (place : ℕ) : Type 0 where
  pub within : place ≤ length bytes
  pub whole : IsUtf8 (take place bytes)
  pub begins : Begins (take place bytes)
  pub longest : (further : ℕ) → place < further → further ≤ length bytes → IsUtf8 (take further bytes) → Begins (take further bytes) → ⊥

-- no text; a text outside the grammar, and the place where it leaves it; over 256 links
abbrev pub IsFault : List ℕ → LinkFault → Type 0
IsFault bytes NotText = IsUtf8 bytes → ⊥
IsFault bytes (Grammar place) = IsUtf8 bytes × ((links : List LinkContent) → Spells bytes links → ⊥) × IsPlace bytes place
IsFault bytes TooMany = (links : List LinkContent) × Spells bytes links × (256 < length links)
IsFault bytes NoMemory = ⊥

-- the bytes spell 1 to 256 links
abbrev pub IsRead : List ℕ → Type 0
IsRead bytes = (links : List LinkContent) × Spells bytes links × (length links ≤ 256)
