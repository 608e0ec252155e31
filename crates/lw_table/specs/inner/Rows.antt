-- The row of an endpoint, and the endpoints of places.
use Rattle.std.specs.Prelude.{◌≡◌, ℕ, List, length, slice_get, Option, None, Some, unwrap_or}
use Rattle.std.specs.Option.{IsSomeAnd, option_map}
use Rattle.lw_index.specs.Places.{IsPlaceOf}
use Rattle.lw_table.specs.Rows.{name_of, place_of}
use Rattle.lw_table.specs.declared.row.Row.{Row}
use Rattle.lw_table.specs.declared.rows.NamedRow.{NamedRow}
use Rattle.lw_table.specs.declared.rows.Rows.{Rows}

-- the row at the place
abbrev pub row_from : List NamedRow → Option ℕ → Option Row
row_from rows None = None
row_from rows (Some place) = option_map (λ (named : NamedRow). named.row) (slice_get rows place)

-- the place of the endpoint's row, or that of the next one
abbrev pub spot_of : Rows → List ℕ → ℕ
spot_of rows e = unwrap_or (place_of rows e) (length rows.rows.items)

-- the row of the endpoint
abbrev pub row_at : Rows → List ℕ → Option Row
row_at rows e = row_from rows.rows.items (place_of rows e)

-- the row at the place has the endpoint
abbrev pub IsNamed : List NamedRow → ℕ → List ℕ → Type 0
IsNamed rows place e = IsSomeAnd (slice_get rows place) (λ named. name_of named ≡ e)

-- the place of a row with the endpoint is filed under the key
abbrev pub IsFiledUnder : {K : Type 0} → List NamedRow → List (K × ℕ) → K → List ℕ → Type 0
IsFiledUnder rows pairs key e = (place : ℕ) × IsPlaceOf pairs key place × IsNamed rows place e
