-- What a request has changed, from what has moved.
use Rattle.std.proofs.Common.{◌≡◌, ℕ, List, Option, Some, None, refl, sym, subst}
use Rattle.lw_stamp.specs.declared.stamp.Stamp.{Stamp}
use Rattle.lw_node.specs.Node.{NodeContent}
use Rattle.registry.specs.declared.event.Event.{Event}
use Rattle.registry.specs.declared.event.Event.TheVariants.{Nothing}
use Rattle.registry.specs.Events.{IsEvent, IsEventOf, IsMoved, IsTold}

pub event_some : (node : NodeContent) (now since code : ℕ) (found : Option (List ℕ × Stamp)) (moved : List ℕ × Stamp) (event : Event) → IsMoved node since found → found ≡ Some moved → IsTold node now moved code event → IsEvent node now since code event
event_some node now since code found moved event is some told = (found, is, subst (λ (x : Option (List ℕ × Stamp)). IsEventOf node now x code event) (sym some) told)

pub event_none : (node : NodeContent) (now since code : ℕ) (found : Option (List ℕ × Stamp)) → IsMoved node since found → found ≡ None → IsEvent node now since code Nothing
event_none node now since code found is none = (found, is, subst (λ (x : Option (List ℕ × Stamp)). IsEventOf node now x code Nothing) (sym none) refl)
