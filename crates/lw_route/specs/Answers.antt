-- What a step of reading comes to: a value, or why there is none.
use Rattle.std.specs.Prelude.{◌≡◌, ◌⊎◌, ℕ, List, Result, Ok, Err}
use Rattle.lw_route.specs.declared.error.RouteError.{RouteError}

-- the value that the text spells, or the refusal where it spells none
abbrev pub Reads : {V : Type 0} → (V → List ℕ → Type 0) → RouteError → List ℕ → Result V RouteError → Type 0
Reads Spells error text (Ok value) = Spells value text
Reads {V} Spells error text (Err other) = (other ≡ error) × ((value : V) → ¬ Spells value text)

-- one step and then another, which may depend on what the first one gave; a refusal of the first is that of both
abbrev pub Then : {A B : Type 0} → (Result A RouteError → Type 0) → (A → Result B RouteError → Type 0)
    → Result B RouteError → Type 0
Then {A} First Second answer = ((value : A) × First (Ok value) × Second value answer)
    ⊎ ((error : RouteError) × First (Err error) × (answer ≡ Err error))
