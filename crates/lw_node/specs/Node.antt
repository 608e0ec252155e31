-- What contracts see of a node: its number, its clock, and its table.
use Rattle.std.specs.Prelude.{◌≡◌, ℕ, ◌+◌, List, Option, Some, None, IsSome, refl}
use Rattle.std.specs.Coded.{Coded, coded×, coded_ℕ, code_by}
use Rattle.std.specs.FinMap.{get}
use Rattle.lw_reg.specs.declared.op.Op.{Op}
use Rattle.lw_reg.specs.Endpoint.{IsEndpoint}
use Rattle.lw_reg.specs.Marks.{Mark, Marks, NamesAll, among, marks_of}
use Rattle.lw_reg.specs.Reading.{shown_in}
use Rattle.lw_reg.specs.State.{State, state_join, state_of, IsStateOf}
use Rattle.lw_table.specs.Changes.{Recounts}
use Rattle.lw_table.specs.Table.{TableContent, empty_table, table_code}

pub record NodeContent : Type 0 where
  pub number : ℕ
  pub clock : ℕ
  pub table : TableContent

-- by which a proof tells nodes apart
abbrev pub node_code : Coded NodeContent
node_code =
    code_by (ℕ × (ℕ × TableContent)) (coded× coded_ℕ (coded× coded_ℕ table_code))
    (λ n. (n.number, (n.clock, n.table)))
    (λ p. record { number = p.0; clock = p.1.0; table = p.1.1 })
    (λ _. refl)

-- a new node
abbrev pub fresh : ℕ → NodeContent
fresh number = record { number = number; clock = 0; table = empty_table }

-- An operation takes the next number of the clock. The state of its marks is joined to the node's, and the endpoint
-- that moves takes the next change number. The fold `state_of` is the least state above the atoms of the marks, and the
-- join the least above both: these are laws of states.
pub record Issued (old : NodeContent) (operation : Op) (new : NodeContent) : Type 0 where
  pub number : new.number ≡ old.number
  pub clock : new.clock ≡ old.clock + 1
  pub state : new.table.state ≡ state_join old.table.state (state_of (marks_of operation))
  pub count : Recounts old.table.state new.table.state old.table.count new.table.count

-- the node after an operation, or after none
abbrev pub Leaves : NodeContent → Option Op → NodeContent → Type 0
Leaves old None new = new ≡ old
Leaves old (Some operation) new = Issued old operation new

-- The node's state is that of these marks, which name each registration that they are about.
abbrev pub Knows : NodeContent → List Mark → Type 0
Knows node ms = NamesAll (among ms) × IsStateOf ms node.table.state

-- each endpoint of the state is the name of a client
abbrev pub HasEndpoints : State → Type 0
HasEndpoints state = (e : List ℕ) → IsSome (get state e) → IsEndpoint e

-- ---- what a state is known from: the marks that can be read from it, or those of a list
pub data Known : Type 0 where
  Shown : Known
  Told : List Mark → Known

abbrev pub marks_in : State → Known → Marks
marks_in state Shown = shown_in state
marks_in state (Told ms) = among ms

abbrev pub IsKnown : State → Known → Type 0
IsKnown state Shown = Unit {0}
IsKnown state (Told ms) = NamesAll (among ms) × IsStateOf ms state
