-- Pairs, part by part.

-- each part is below
abbrev pub pair_below : {A B : Type 0} → (A → A → Type 0) → (B → B → Type 0) → A × B → A × B → Type 0
pair_below P Q x y = P x.0 y.0 × Q x.1 y.1

-- the join of each part
abbrev pub pair_join : {A B : Type 0} → (A → A → A) → (B → B → B) → A × B → A × B → A × B
pair_join f g x y = (f x.0 y.0, g x.1 y.1)
