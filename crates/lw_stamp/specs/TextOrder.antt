-- The order of texts: by their bytes.
use Rattle.std.specs.Prelude.{ℕ, List}
use Rattle.std.specs.declared.cmp.Ordering.{Ordering}
use Rattle.std.specs.Cmp.Lexicographic.{slice_cmp}
use Rattle.std.specs.Ordering.{nat_cmp}
use Rattle.lw_stamp.specs.contracts.text.TextOrd.TheImpl as given

abbrev pub text_cmp : List ℕ → List ℕ → Ordering
text_cmp = slice_cmp nat_cmp

-- what `cmp` gives
abbrev pub given_cmp : List ℕ → List ℕ → Ordering
given_cmp = (given.ghosts).cmp
