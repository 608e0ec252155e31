-- A flag: false below true.
use Rattle.std.specs.Prelude.{Bool, true, false, ◌||◌}
use Rattle.lw_join.specs.declared.flag.Flag.{Flag}

-- false is below both, and true is below true
abbrev pub bool_below : Bool → Bool → Type 0
bool_below false b = Unit {0}
bool_below true true = Unit {0}
bool_below true false = ⊥

abbrev pub flag_below : Flag → Flag → Type 0
flag_below x y = bool_below x.raised y.raised

-- raised where one of the two is
abbrev pub flag_join : Flag → Flag → Flag
flag_join x y = record { raised = x.raised || y.raised }
