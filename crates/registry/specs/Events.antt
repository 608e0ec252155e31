-- What a request has changed, as its node shows it: by the code of the reply (RFC 7252, section 12.1), and by the endpoint
-- that has moved.
use Rattle.std.specs.Prelude.{◌≡◌, ◌≢◌, ℕ, List, Option, Some, None, slice_get}
use Rattle.std.specs.Option.{option_map, unwrap_or}
use Rattle.lw_stamp.specs.declared.stamp.Stamp.{Stamp}
use Rattle.lw_coap.specs.Code.{code_of}
use Rattle.lw_reg.specs.declared.slot.Slot.{Slot}
use Rattle.lw_reg.specs.Reading.{shown_in, stamp_of}
use Rattle.lw_reg.specs.Showing.{ShownOf}
use Rattle.lw_table.specs.Changes.{IsSinceIn}
use Rattle.lw_node.specs.Node.{NodeContent}
use Rattle.registry.specs.declared.event.Event.{Event}
use Rattle.registry.specs.declared.event.Event.TheVariants.{Registered, Updated, Removed, Nothing}

-- the code of a reply: the second byte of a message, or 0.00 where there is none
abbrev pub reply_code : Option (List ℕ) → ℕ
reply_code None = code_of 0 0
reply_code (Some bytes) = unwrap_or (slice_get bytes 1) (code_of 0 0)

-- Created, Deleted and Changed
abbrev pub created : ℕ
created = code_of 2 1

abbrev pub deleted : ℕ
deleted = code_of 2 2

abbrev pub changed : ℕ
changed = code_of 2 4

-- an endpoint, and the identifier of its registration
abbrev pub named : List ℕ × Slot → List ℕ × Stamp
named x = (x.0, stamp_of x.1)

-- the first endpoint that has moved since the change number, if one has
abbrev pub IsMoved : NodeContent → ℕ → Option (List ℕ × Stamp) → Type 0
IsMoved node since moved =
    (slots : List (List ℕ × Slot)) × IsSinceIn node.table.state node.table.count since slots × (moved ≡ option_map named (slice_get slots 0))

-- What is told of an endpoint that has moved, by the code of the reply. A registration that was made or changed is told as
-- it is shown, and nothing where it is not.
abbrev pub IsTold : NodeContent → ℕ → List ℕ × Stamp → ℕ → Event → Type 0
IsTold node now moved code (Registered r) = (code ≡ created) × ShownOf (shown_in node.table.state) now moved.0 (Some r)
IsTold node now moved code (Updated r) = (code ≡ changed) × ShownOf (shown_in node.table.state) now moved.0 (Some r)
IsTold node now moved code (Removed endpoint id) = (code ≡ deleted) × (moved ≡ (endpoint, id))
IsTold node now moved code Nothing =
    (code ≢ deleted) × (code ≡ created → ShownOf (shown_in node.table.state) now moved.0 None)
    × (code ≡ changed → ShownOf (shown_in node.table.state) now moved.0 None)

-- so of the first that has moved; nothing is told where none has
abbrev pub IsEventOf : NodeContent → ℕ → Option (List ℕ × Stamp) → ℕ → Event → Type 0
IsEventOf node now None code event = event ≡ Nothing
IsEventOf node now (Some moved) code event = IsTold node now moved code event

-- what has come of a request with a reply of this code, since the change number from before it
abbrev pub IsEvent : NodeContent → ℕ → ℕ → ℕ → Event → Type 0
IsEvent node now since code event = (moved : Option (List ℕ × Stamp)) × IsMoved node since moved × IsEventOf node now moved code event
