-- A moment in milliseconds.
use Rattle.std.specs.Prelude.{ℕ}
use Rattle.lw_stamp.specs.declared.moment.Moment.{Moment}

abbrev pub ms_of : Moment → ℕ
ms_of moment = moment.ms
