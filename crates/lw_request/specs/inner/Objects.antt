-- An object list that was not read.
use Rattle.std.specs.Prelude.{ℕ, ◌≤◌, List, length}
use Rattle.lw_request.specs.declared.objects.Unread.{Unread}
use Rattle.lw_request.specs.declared.objects.Unread.TheVariants.{TooLarge, NoLinks, NoMemory}
use Rattle.lw_request.specs.Objects.{IsObjectList, IsTooLarge, SpellsNone}

-- why the bytes were not read as an object list; want of memory comes in place of one
abbrev pub IsUnread : List ℕ → Unread → Type 0
IsUnread bytes TooLarge = IsTooLarge bytes
IsUnread bytes NoLinks = (length bytes ≤ 8192) × SpellsNone bytes
IsUnread bytes NoMemory = (objects : List ℕ) × IsObjectList bytes objects
