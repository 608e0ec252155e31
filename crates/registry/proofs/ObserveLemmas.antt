-- An observation of what has registered.
use Rattle.std.proofs.Common.{◌≡◌, ℕ, List, subst}
use Rattle.lw_stamp.specs.declared.stamp.Stamp.{Stamp}
use Rattle.lw_reg.specs.Registration.{Registration}
use Rattle.lw_node.specs.Node.{NodeContent}
use Rattle.registry.specs.Steps.{ObservesDevice, ObservesRegistered}
use Rattle.registry.specs.Texts.{HasDevice}

pub with_device : (old : NodeContent) (now mid : ℕ) (r : Registration) (id : Stamp) (objects text : List ℕ) (new : NodeContent) → HasDevice objects → objects ≡ r.objects → id ≡ r.id → ObservesDevice old now mid id text new → ObservesRegistered old now mid r text new
with_device old now mid r id objects text new has same one is =
    record {
      with_device = λ _. subst (λ (x : Stamp). ObservesDevice old now mid x text new) one is;
      without = λ none. absurd (none (subst HasDevice same has));
    }
