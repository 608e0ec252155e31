-- The entries that a reading gives.
use Rattle.std.specs.Prelude.{◌≡◌, ◌<◌, ◌⊎◌, Option, Some, None}
use Rattle.lw_log.specs.declared.position.Position.{Position}

-- positions rise by the major and then by the minor number
abbrev pub IsAbove : Option Position → Position → Type 0
IsAbove None p = Unit {0}
IsAbove (Some after) p = (after.major < p.major) ⊎ ((after.major ≡ p.major) × (after.minor < p.minor))
