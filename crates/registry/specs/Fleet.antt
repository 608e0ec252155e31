-- The fleet: all registrations that a node shows at a moment, one after another.
use Rattle.std.specs.Prelude.{◌≡◌, ◌++◌, ℕ, List, [], ◌∷◌, Option, Some, None, codes}
use Rattle.serde_json.specs.Written.{compact_text}
use Rattle.lw_stamp.specs.Moment.{ms_of}
use Rattle.lw_reg.specs.Marks.{Marks}
use Rattle.lw_reg.specs.Reading.{shown_in}
use Rattle.lw_reg.specs.Registration.{Registration}
use Rattle.lw_table.specs.Answers.{FirstAfter}
use Rattle.lw_node.specs.Node.{NodeContent}
use Rattle.lw_json.specs.Json.{registration_json}
use Rattle.registry.specs.declared.registry.Registry.{Registry}

-- each is the first that is shown above the one before, the first of them above the given one, and above the last is none
abbrev pub AreShownAfter : Marks → ℕ → Option (List ℕ) → List Registration → Type 0
AreShownAfter M now after [] = FirstAfter M now after None
AreShownAfter M now after (r ∷ rs) = FirstAfter M now after (Some r) × AreShownAfter M now (Some r.endpoint) rs

-- all that are shown, endpoints rising
abbrev pub IsFleet : Marks → ℕ → List Registration → Type 0
IsFleet M now all = AreShownAfter M now None all

-- the line of a registration
abbrev pub fleet_line : Registration → List ℕ
fleet_line r = compact_text (registration_json r) ++ codes "\n"

abbrev pub fleet_lines : List Registration → List ℕ
fleet_lines [] = []
fleet_lines (r ∷ rs) = fleet_line r ++ fleet_lines rs

-- a head, and a line for each that the node shows
abbrev pub IsFleetText : NodeContent → ℕ → List ℕ → List ℕ → Type 0
IsFleetText node now head text = (all : List Registration) × IsFleet (shown_in node.table.state) now all × (text ≡ head ++ fleet_lines all)

-- the fleet as each of both nodes shows it, at the moment of the last line
pub record AreFleets (registry : Registry) (text : List ℕ) : Type 0 where
  pub one : List ℕ
  pub two : List ℕ
  pub shown_by_node : IsFleetText registry.node (ms_of registry.moment) (codes "node 1\n") one
  pub shown_by_other : IsFleetText registry.other (ms_of registry.moment) (codes "node 2\n") two
  pub text_is : text ≡ one ++ two
