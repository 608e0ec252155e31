-- What the clocks of a host tell.
use Rattle.std.specs.Prelude.{◌≡◌, ℕ, ◌-◌, nat_lt, if◌then◌else◌, List, ◌++◌, Option, None, Some}
use Rattle.std.specs.Option.{option_to_list}
use Rattle.lw_stamp.specs.declared.moment.Moment.{Moment}
use Rattle.lw_stamp.specs.Moment.{ms_of}
use Rattle.lw_server.specs.declared.clocks.Offset.{Offset}
use Rattle.lw_server.specs.declared.clocks.Offset.TheVariants.{Ahead, Behind}
use Rattle.lw_server.specs.declared.clocks.Times.{Times}

-- Where it is known what they have told, it grows by what they tell now, if they tell anything; else it stays unknown.
abbrev pub Tells : Option (List Times) → Option (List Times) → Option Times → Type 0
Tells None new told = new ≡ None
Tells (Some before) new told = new ≡ Some (before ++ option_to_list told)

-- How a host's clock that shows the first moment stands to one that shows the second.
abbrev pub offset_of : Moment → Moment → Offset
offset_of host fleet =
    if nat_lt (ms_of host) (ms_of fleet) then Behind (ms_of fleet - ms_of host)
    else Ahead (ms_of host - ms_of fleet)

-- of a clock that is right
abbrev pub no_offset : Offset
no_offset = Ahead 0

-- how many milliseconds lie between the two
abbrev pub milliseconds_of : Offset → ℕ
milliseconds_of (Ahead milliseconds) = milliseconds
milliseconds_of (Behind milliseconds) = milliseconds

-- the later of two moments
abbrev pub later : Moment → Moment → Moment
later a b = if nat_lt (ms_of a) (ms_of b) then b else a
