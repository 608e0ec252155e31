-- What a joined value tells of a set. A set is a predicate `T → Type 0`, seen through membership alone, so
-- that neither the order of its members nor a repeat of one matters.
use Rattle.std.specs.Prelude.{◌≡◌, ◌↔◌, ◌⊎◌, Option, Some, None}
use Rattle.std.specs.declared.cmp.Ordering.{Ordering}
use Rattle.std.specs.declared.cmp.Ord as ord
use Rattle.std.specs.declared.cmp.PartialEq as partial_eq
use Rattle.std.specs.declared.cmp.PartialOrd as partial_ord
use Rattle.std.specs.FinMap.{FinMap, get}
use Rattle.lw_stamp.specs.Order.{IsGreatest}
use Rattle.lw_stamp.specs.StampOrder.{stamp_cmp}
use Rattle.lw_stamp.specs.declared.stamp.Stamp.{Stamp}
use Rattle.lw_join.specs.Lww.{write_cmp}
use Rattle.lw_join.specs.Lex.{lex_pair}
use Rattle.lw_join.specs.Parts.{value_at}
use Rattle.lw_join.specs.declared.once.Once.{Once}
use Rattle.lw_join.specs.declared.lww.Lww.{Lww}
use Rattle.lw_join.specs.declared.last.Last.{Last}
use Rattle.lw_join.specs.declared.lex.Lex.{Lex}
use Rattle.lw_join.specs.declared.or_gone.OrGone.{OrGone}
use Rattle.lw_join.specs.declared.or_gone.OrGone.TheVariants.{Here, Gone}
use Rattle.lw_join.specs.declared.parts.Parts.{Parts}

-- in one set or the other
abbrev pub Either : {T : Type 0} → (T → Type 0) → (T → Type 0) → T → Type 0
Either P Q t = P t ⊎ Q t

-- R says what a value tells of a set: a join tells of the union, a set tells by its members alone, and one
-- value tells of a set
pub record IsFacet {T A : Type 0} (join : A → A → A) (R : (T → Type 0) → A → Type 0) : Type 1 where
  pub union : (P Q : T → Type 0) (a b : A) → R P a → R Q b → R (Either P Q) (join a b)
  pub same : (P Q : T → Type 0) (a : A) → ((t : T) → P t ↔ Q t) → R P a → R Q a
  pub one : (P : T → Type 0) (a b : A) → R P a → R P b → a ≡ b

-- no value tells of the empty set
pub record TellsSome {T A : Type 0} (R : (T → Type 0) → A → Type 0) : Type 1 where
  pub some : (P : T → Type 0) (a : A) → R P a → (t : T) × P t

-- what is told of the part of the set that f reaches
abbrev pub Through : {T U A : Type 0} → (U → T) → ((U → Type 0) → A → Type 0) → (T → Type 0) → A → Type 0
Through f R P a = R (λ u. P (f u)) a

-- nothing, where the set is empty, and otherwise what R says
abbrev pub OptionTells : {T A : Type 0} → ((T → Type 0) → A → Type 0) → (T → Type 0) → Option A → Type 0
OptionTells {T} R P None = (t : T) → ¬ P t
OptionTells R P (Some a) = R P a

-- the greatest key of the set, and what R says of the members at that key
pub record KeyedTells {K T A : Type 0} (cmp : K → K → Ordering) (R : (T → Type 0) → A → Type 0) (P : K × T → Type 0) (x : K × A) : Type 0 where
  pub key : IsGreatest cmp (λ k. (t : T) × P (k, t)) x.0
  pub told : R (λ t. P (x.0, t)) x.1

-- the greatest member, if there is one
abbrev pub OnceTells : {V : Type 0} → (V → V → Ordering) → (V → Type 0) → Once V → Type 0
OnceTells cmp P once = OptionTells (IsGreatest cmp) P once.value

-- the last write in the set, if there is one
abbrev pub LwwTells : {V : Type 0} → (V → V → Ordering) → (Stamp × V → Type 0) → Lww V → Type 0
LwwTells cmp P lww = OptionTells (IsGreatest (write_cmp cmp)) P lww.write

-- the last write in the set, which is not empty
abbrev pub LastTells : {V : Type 0} → (V → V → Ordering) → (Stamp × V → Type 0) → Last V → Type 0
LastTells cmp P last = IsGreatest (write_cmp cmp) P last.write

-- the greatest stamp of the set, and what R says of the members at that stamp
abbrev pub LexTells : {T J : Type 0} → ((T → Type 0) → J → Type 0) → (Stamp × T → Type 0) → Lex J → Type 0
LexTells R P lex = KeyedTells stamp_cmp R P (lex_pair lex)

-- gone where t is in the set, and otherwise what R says
abbrev pub GoneTells : {T J : Type 0} → T → ((T → Type 0) → J → Type 0) → (T → Type 0) → OrGone J → Type 0
GoneTells t R P Gone = P t
GoneTells t R P (Here a) = (¬ P t) × R P a

-- at each key nothing, where the set has no member there, and otherwise what R says of the members there
abbrev pub PartsTells : {K T J : Type 0} {o : ord.Ghosts K} {e : partial_eq.Ghosts K} {p : partial_ord.Ghosts K} → ((T → Type 0) → J → Type 0) → (K × T → Type 0) → Parts K J o e p → Type 0
PartsTells {K} R P x = (k : K) → OptionTells R (λ t. P (k, t)) (value_at x k)

-- the same of a finite map
abbrev pub MapTells : {K T V : Type 0} {R : K → K → Ordering} → ((T → Type 0) → V → Type 0) → (K × T → Type 0) → FinMap R V → Type 0
MapTells {K} Tells P m = (k : K) → OptionTells Tells (λ t. P (k, t)) (get m k)
