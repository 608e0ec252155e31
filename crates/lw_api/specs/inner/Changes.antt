-- The changes of a page, and what is shown of their endpoints.
use Rattle.std.specs.Prelude.{◌≡◌, ℕ, List, map, All}
use Rattle.lw_table.specs.Changes.{Moved}
use Rattle.lw_table.specs.declared.since.Moved.{Moved as MovedSlot}
use Rattle.lw_node.specs.Node.{NodeContent}
use Rattle.lw_json.specs.Changes.{Change}
use Rattle.lw_api.specs.Answers.{named_by_change, named_by_moved, IsShownAs}

abbrev pub moved_of : MovedSlot → Moved
moved_of moved = (moved.number, (moved.endpoint.now, moved.slot.now))

-- the changes are of the slots that have moved, and tell what is shown
pub record AreShown (node : NodeContent) (now : ℕ) (page : List Moved) (changes : List Change) : Type 0 where
  pub of_them : map named_by_change changes ≡ map named_by_moved page
  pub shown : All (IsShownAs node now) changes
