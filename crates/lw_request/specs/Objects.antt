-- The object list of a Register or an Update: its payload in the link format (LwM2M 1.1 Core, section 6.2.1;
-- RFC 6690, section 2).
use Rattle.std.specs.Prelude.{◌≡◌, ℕ, ◌<◌, ◌≤◌, ◌⊎◌, List, length}
use Rattle.lw_link.specs.Link.{LinkContent}
use Rattle.lw_link.specs.Spelling.{Spells}
use Rattle.lw_link.specs.Printing.{printing}

-- the bytes spell 1 to 256 links, and the object list is their printing
abbrev pub IsObjectList : List ℕ → List ℕ → Type 0
IsObjectList bytes objects =
    (length bytes ≤ 8192) × ((links : List LinkContent) × Spells bytes links × (length links ≤ 256) × (objects ≡ printing links))

-- the bytes spell more links than an object list has, or are more than a datagram has
abbrev pub IsTooLarge : List ℕ → Type 0
IsTooLarge bytes = (8192 < length bytes) ⊎ ((links : List LinkContent) × Spells bytes links × (256 < length links))

-- the bytes spell no links
abbrev pub SpellsNone : List ℕ → Type 0
SpellsNone bytes = (links : List LinkContent) → Spells bytes links → ⊥
