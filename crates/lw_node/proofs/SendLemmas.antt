-- What is sent: the slots that moved, one after another.
use Rattle.std.proofs.Common.{◌≡◌, ℕ, List, [], ◌∷◌, ◌++◌, Option, Some, None, refl, sym, subst}
use Rattle.std.specs.Prelude.{IsSome}
use Rattle.std.specs.FinMap.{get}
use Rattle.std.proofs.lemmas.List.Elements.{Contains-append_right}
use Rattle.lw_stamp.specs.TextOrder.{text_cmp}
use Rattle.lw_reg.specs.Endpoint.{IsEndpoint}
use Rattle.lw_reg.specs.declared.slot.Slot.{Slot}
use Rattle.lw_reg.specs.State.{State}
use Rattle.lw_reg.proofs.Members.{first_there}
use Rattle.lw_table.specs.Changes.{Count, IsSinceIn}
use Rattle.lw_delta.specs.Order.{IsAbove}
use Rattle.lw_delta.specs.Part.{last_key}
use Rattle.lw_delta.specs.Writable.{Begun, IsBegun, StampsWithin, last_endpoint}
use Rattle.lw_delta.proofs.BegunLemmas.{begun_once}
use Rattle.lw_node.specs.Node.{HasEndpoints}
use Rattle.lw_node.specs.Within.{FitsClock}
use Rattle.lw_node.proofs.Joining.{AllBelow, before_below}
use Rattle.lw_node.proofs.SlotStamps.{stamps_within}

last_below : (after : Option (List ℕ)) (done : List (List ℕ × Slot)) (e : List ℕ) → IsAbove text_cmp after e → AllBelow done e → IsAbove text_cmp (last_key (λ s. s.0) after done) e
last_below after [] e above below = above
last_below after (x ∷ xs) e above below = last_below (Some x.0) xs e below.0 below.1

module _ (state : State) (count : Count) (since : ℕ) (done : List (List ℕ × Slot)) (x : List ℕ × Slot) (rest : List (List ℕ × Slot)) (sent : IsSinceIn state count since (done ++ x ∷ rest)) where
  pub next_there : get state x.0 ≡ Some x.1
  next_there = ((sent.members x.0 x.1).0 (Contains-append_right done (x ∷ rest) x (first_there x rest x refl))).0

  pub next_named : HasEndpoints state → IsEndpoint x.0
  next_named named = named x.0 (subst (λ (o : Option Slot). IsSome o) (sym next_there) refl)

  pub next_within : (clock : ℕ) → FitsClock clock state → StampsWithin clock x.1
  next_within clock fits = stamps_within clock state fits x.0 x.1 next_there

  -- whatever slots were written, the next one is above them
  pub next_above : (w : Begun) → IsBegun w done → (slots : List (List ℕ × Slot)) → IsBegun w slots → IsAbove text_cmp (last_endpoint slots) x.0
  next_above w begun slots other =
      subst (λ (ss : List (List ℕ × Slot)). IsAbove text_cmp (last_endpoint ss) x.0) (begun_once w done slots begun other)
      (last_below None done x.0 tt (before_below done x rest sent.rising))
