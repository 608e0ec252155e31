-- How a node goes on: what it knows grows, and what moves takes a later change number.
use Rattle.std.specs.Prelude.{◌≡◌, ℕ, ◌<◌, ◌≤◌, List}
use Rattle.std.specs.FinMap.{get}
use Rattle.lw_reg.specs.State.{state_below}
use Rattle.lw_table.specs.Changes.{LAST, IsSince}
use Rattle.lw_node.specs.Node.{NodeContent}

pub record Goes (old new : NodeContent) : Type 0 where
  pub number : new.number ≡ old.number
  pub clock : old.clock ≤ new.clock
  pub state : state_below old.table.state new.table.state
  pub change : old.table.count.change ≤ new.table.count.change
  pub still : new.table.count.change ≡ old.table.count.change → new.table.count.change < LAST → new.table.state ≡ old.table.state
  pub before : new.table.count.change ≤ LAST → (since : ℕ) (e : List ℕ) → since ≤ old.table.count.change → ¬ IsSince new.table.count since e
      → (¬ IsSince old.table.count since e) × (get new.table.state e ≡ get old.table.state e)
