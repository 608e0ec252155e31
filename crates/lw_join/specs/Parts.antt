-- A map whose values join key by key.
use Rattle.std.specs.Prelude.{◌≡◌, List, [], Option, IsSome, Bool, true, false, refl}
use Rattle.std.specs.declared.cmp.Ord as ord
use Rattle.std.specs.declared.cmp.PartialEq as partial_eq
use Rattle.std.specs.declared.cmp.PartialOrd as partial_ord
use Rattle.lw_join.specs.Options.{option_join}
use Rattle.lw_join.specs.Entries.{rises, get, entries_below, entries_join}
use Rattle.lw_join.specs.EntriesLaws.{Rises-from_test}
use Rattle.lw_join.specs.declared.parts.Parts.{Parts}

module _ {K J : Type 0} {o : ord.Ghosts K} {e : partial_eq.Ghosts K} {p : partial_ord.Ghosts K} where
  -- the entries, their keys rising
  abbrev pub entries_of : Parts K J o e p → List (K × J)
  entries_of x = x.entries

  -- the value of the key q
  abbrev pub value_at : Parts K J o e p → K → Option J
  value_at x q = get o.cmp x.entries q

  -- each key of the left is in the right, and its value is below
  abbrev pub parts_below : (J → J → Type 0) → Parts K J o e p → Parts K J o e p → Type 0
  parts_below below x y = entries_below o.cmp below x.entries y.entries

  unfoldable pub made_by : (es : List (K × J)) (b : Bool) → rises o.cmp es ≡ b → Parts K J o e p
  made_by es true h = record { entries = es; rises = Rises-from_test o.cmp es h }
  made_by es false h = record { entries = []; rises = tt }

  -- the map of these entries, whose keys rise
  unfoldable pub made : List (K × J) → Parts K J o e p
  made es = made_by es (rises o.cmp es) refl

  -- the values of the left joined to those of the right, key by key
  abbrev pub parts_join : (J → J → J) → Parts K J o e p → Parts K J o e p → Parts K J o e p
  parts_join join x y = made (entries_join o.cmp join x.entries y.entries)

  -- no key of the right is missing in the left
  abbrev pub parts_in_place : Parts K J o e p → Parts K J o e p → Type 0
  parts_in_place x y = (q : K) → IsSome (value_at y q) → IsSome (value_at x q)

  -- at each key `joined` has what `join` makes of the values there, and the value that there is where only one
  -- of the two has the key
  abbrev pub JoinsKeyByKey : (Parts K J o e p → Parts K J o e p → Parts K J o e p) → (J → J → J) → Type 0
  JoinsKeyByKey joined join = (x y : Parts K J o e p) (q : K) → value_at (joined x y) q ≡ option_join join (value_at x q) (value_at y q)
