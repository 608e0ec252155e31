-- What the knots of a search tree keep of all below them.
use Rattle.std.specs.Prelude.{ℕ, ◌^◌, Bool, min, List, [], ◌∷◌}
use Rattle.std.specs.List.{list_any}
use Rattle.lw_due.specs.Due.{Entry, is_kept}

-- the least due moment, and 2 ^ 64 where there are no entries
abbrev pub least_of : List Entry → ℕ
least_of [] = 2 ^ 64
least_of (x ∷ xs) = min x.1.1 (least_of xs)

-- whether an endpoint is kept
abbrev pub has_kept : List Entry → Bool
has_kept = list_any (λ x. is_kept x.1)
