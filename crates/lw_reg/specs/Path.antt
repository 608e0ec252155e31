-- The numbers of a path.
use Rattle.std.specs.Prelude.{ℕ, List, take}
use Rattle.lw_reg.specs.declared.path.Path.{Path}

abbrev pub path_numbers : Path → List ℕ
path_numbers path = take path.length path.numbers
