-- What the clock of a host may be where a replica begins, and what it raises the clock of a node to.
use Rattle.std.specs.Prelude.{ℕ, ◌+◌, ◌-◌, ◌*◌, ◌/◌, ◌<◌, ◌≤◌, ◌⊎◌, min}
use Rattle.lw_stamp.specs.declared.moment.Moment.{Moment}
use Rattle.lw_stamp.specs.Moment.{ms_of}

-- the first of January, 2020 and 2100, at midnight UTC, in milliseconds since 1970
abbrev pub year_2020 : ℕ
year_2020 = 1577836800000

abbrev pub year_2100 : ℕ
year_2100 = 4102444800000

-- of 365.25 days each, in milliseconds
abbrev pub five_years : ℕ
five_years = 157788000000

-- 64 for each millisecond, and below what 2100 gives
abbrev pub floor_at : Moment → ℕ
floor_at moment = min (64 * ms_of moment) (64 * year_2100 - 1)

-- the milliseconds since 1970 that the clock of a node stands for
abbrev pub told_by : ℕ → ℕ
told_by clock = clock / 64

abbrev pub IsPast2100 : Moment → Type 0
IsPast2100 moment = year_2100 ≤ ms_of moment

-- more than five years after what the clock tells; a clock that tells of a year before 2020 was begun at a moment that
-- was not right, and refuses none
abbrev pub IsYearsAhead : Moment → ℕ → Type 0
IsYearsAhead moment clock = (year_2020 ≤ told_by clock) × (told_by clock + five_years < ms_of moment)

-- no replica begins at this moment over a log that gives a node this clock
abbrev pub IsRefusedClock : Moment → ℕ → Type 0
IsRefusedClock moment clock = IsPast2100 moment ⊎ IsYearsAhead moment clock
