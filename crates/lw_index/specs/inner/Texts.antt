-- Lists of texts, each by its bytes.
use Rattle.std.specs.Prelude.{ℕ, List, Bool}
use Rattle.std.specs.Cmp.Lexicographic.{slice_cmp}
use Rattle.std.specs.List.{list_any}
use Rattle.std.specs.Ordering.{eq_by_cmp, nat_cmp}

-- whether the text is in the list
abbrev pub has_text : List (List ℕ) → List ℕ → Bool
has_text texts text = list_any (eq_by_cmp (slice_cmp nat_cmp) text) texts
