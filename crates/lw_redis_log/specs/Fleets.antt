-- Which entries tell a fleet.
use Rattle.std.specs.Prelude.{ℕ, List, Option, Some, None}
use Rattle.lw_log.specs.Entries.{EntryContent, BodyContent}
use Rattle.lw_log.specs.Entries.BodyContent.{Start, Delta, Snapshot}

-- the fleet of an entry with this body
abbrev pub fleet_with : List ℕ → BodyContent → Option (List ℕ)
fleet_with fleet Start = None
fleet_with fleet (Delta delta) = Some fleet
fleet_with fleet (Snapshot numbers delta) = Some fleet

-- the fleet of an entry that has a delta
abbrev pub delta_fleet : EntryContent → Option (List ℕ)
delta_fleet e = fleet_with e.fleet e.body
