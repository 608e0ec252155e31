-- Lists of entries as maps: the value of a key, the order key by key, and the join key by key.
use Rattle.std.specs.Prelude.{◌≡◌, ℕ, List, [], ◌∷◌, Option, Some, None, is_none, Bool, true, ◌&&◌, cond, count_by}
use Rattle.std.specs.declared.cmp.Ordering.{Ordering}
use Rattle.std.specs.declared.cmp.Ordering.TheVariants.{Less}
use Rattle.std.specs.Ordering.{is_eq, is_lt, match_ordering}
use Rattle.lw_join.specs.Options.{option_below}

module _ {K J : Type 0} (cmp : K → K → Ordering) where
  -- each key of the entries is above k
  abbrev pub AllAbove : K → List (K × J) → Type 0
  AllAbove k [] = Unit {0}
  AllAbove k (e ∷ es) = (cmp k e.0 ≡ Less) × AllAbove k es

  -- the keys rise, so that no key is there twice
  abbrev pub Rises : List (K × J) → Type 0
  Rises [] = Unit {0}
  Rises (e ∷ es) = AllAbove e.0 es × Rises es

  -- the same as tests
  abbrev pub all_above : K → List (K × J) → Bool
  all_above k [] = true
  all_above k (e ∷ es) = is_lt (cmp k e.0) && all_above k es

  abbrev pub rises : List (K × J) → Bool
  rises [] = true
  rises (e ∷ es) = all_above e.0 es && rises es

  -- the value of the key q
  abbrev pub get : List (K × J) → K → Option J
  get [] q = None
  get (e ∷ es) q = cond (is_eq (cmp q e.0)) (Some e.1) (get es q)

  -- how many of the entries of ys have a key that xs lacks
  abbrev pub missing : List (K × J) → List (K × J) → ℕ
  missing xs ys = count_by (λ (e : K × J). is_none (get xs e.0)) ys

  -- each key of the left is in the right, and its value is below
  abbrev pub entries_below : (J → J → Type 0) → List (K × J) → List (K × J) → Type 0
  entries_below below xs ys = (q : K) → option_below below (get xs q) (get ys q)

  module _ (join : J → J → J) where
    -- v joined to the value of the key k, or put in its place among the rising keys
    abbrev pub put : K → J → List (K × J) → List (K × J)
    put k v [] = (k, v) ∷ []
    put k v (e ∷ es) = match_ordering (cmp k e.0) ((k, v) ∷ e ∷ es) ((e.0, join e.1 v) ∷ es) (e ∷ put k v es)

    -- each entry of ys joined to xs
    abbrev pub entries_join : List (K × J) → List (K × J) → List (K × J)
    entries_join xs [] = xs
    entries_join xs (e ∷ es) = put e.0 e.1 (entries_join xs es)
