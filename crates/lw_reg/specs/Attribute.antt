-- The attributes of a registration: the queries of a Register and an Update whose names are no parameters' (LwM2M
-- 1.1 Core, section 6.2.1).
use Rattle.std.specs.Prelude.{ℕ, ◌-◌, ◌≤◌, ◌==◌, Bool, ◌&&◌, not, nat_lt, IsTrue, List, [], ◌∷◌, length, codes, map}
use Rattle.std.specs.Str.{bytes_eq}
use Rattle.std.specs.List.{list_any, AllByRecursion}
use Rattle.lw_stamp.specs.TextOrder.{text_cmp}
use Rattle.lw_join.specs.Entries.{Rises}
use Rattle.lw_join.specs.declared.last.Last.{Last}

abbrev pub parameter_names : List (List ℕ)
parameter_names = codes "ep" ∷ codes "lt" ∷ codes "lwm2m" ∷ codes "b" ∷ codes "Q" ∷ codes "sms" ∷ []

-- a name that a query can have, and no parameter has
abbrev pub is_attribute_name : List ℕ → Bool
is_attribute_name name = nat_lt 0 (length name) && (not (list_any (λ c. c == 61) name) && not (list_any (bytes_eq name) parameter_names))

-- Name, `=` and value have room in a query of 255 bytes. A query that is its name alone has the empty value.
pub record IsAttribute (name value : List ℕ) : Type 0 where
  pub named : IsTrue (is_attribute_name name)
  pub most : length name ≤ 255
  pub room : length value ≤ 254 - length name

-- attributes, names rising
pub record AreAttributes (attributes : List (List ℕ × List ℕ)) : Type 0 where
  pub rise : Rises text_cmp attributes
  pub each : AllByRecursion (λ (a : List ℕ × List ℕ). IsAttribute a.0 a.1) attributes

-- name and value of each write
abbrev pub values_of : List (List ℕ × Last (List ℕ)) → List (List ℕ × List ℕ)
values_of writes = map (λ (w : List ℕ × Last (List ℕ)). (w.0, w.1.write.1)) writes
