-- The order of the last keys of two lists of entries.
use Rattle.std.specs.Prelude.{List, ◌-◌, length}
use Rattle.std.specs.List.{slice_get}
use Rattle.std.specs.Option.{option_cmp}
use Rattle.std.specs.declared.cmp.Ordering.{Ordering}

-- no key is below every key
abbrev pub ends_cmp : {K J : Type 0} → (K → K → Ordering) → List (K × J) → List (K × J) → Ordering
ends_cmp cmp xs ys = option_cmp (λ x y. cmp x.0 y.0) (slice_get xs (length xs - 1)) (slice_get ys (length ys - 1))
