-- The text of a path (LwM2M 1.1 Core, section 7.1).
use Rattle.std.specs.Prelude.{ℕ, List, ◌∷◌}
use Rattle.std.specs.Fmt.{decimal}
use Rattle.std.specs.List.{flat_map}
use Rattle.lw_reg.specs.declared.path.Path.{Path}
use Rattle.lw_reg.specs.Path.{path_numbers}

-- a slash and the number, in decimal
abbrev pub step_text : ℕ → List ℕ
step_text number = 47 ∷ decimal number

-- so for each of its numbers
abbrev pub path_text : Path → List ℕ
path_text path = flat_map step_text (path_numbers path)
