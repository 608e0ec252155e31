-- What contracts see of the nodes and messages of a run, and what they are of a history.
use Rattle.std.specs.Prelude.{ℕ, List, map, refl}
use Rattle.std.specs.Coded.{Coded, coded×, coded_ℕ, coded_list, code_by}
use Rattle.lw_delta.specs.Writing.{delta_bytes}
use Rattle.lw_node.specs.Node.{NodeContent, node_code}
use Rattle.lw_world.specs.Known.{Message, node_of}
use Rattle.lw_world.specs.Run.{History}

pub record WorldContent : Type 0 where
  pub nodes : List NodeContent
  pub messages : List (List ℕ)

-- by which a proof tells worlds apart
abbrev pub world_code : Coded WorldContent
world_code =
    code_by (List NodeContent × List (List ℕ)) (coded× (coded_list node_code) (coded_list (coded_list coded_ℕ)))
    (λ w. (w.nodes, w.messages))
    (λ p. record { nodes = p.0; messages = p.1 })
    (λ _. refl)

-- the bytes of a message
abbrev pub bytes_of : Message → List ℕ
bytes_of m = delta_bytes m.delta.clock m.delta.slots

-- Each node has the clock, the state and the change numbers of what it knows, and each message its bytes.
abbrev pub world_of : History → WorldContent
world_of h = record { nodes = map node_of h.nodes; messages = map bytes_of h.messages }
