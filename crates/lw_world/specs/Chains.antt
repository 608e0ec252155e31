-- Deltas of one sender, each since the change number of the one before, and what they bring to a node that gets them
-- all, in any order (Almeida et al., Delta State Replicated Data Types, 2018).
use Rattle.std.specs.Prelude.{◌≡◌, ℕ, ◌+◌, ◌<◌, ◌≤◌, List, [], ◌∷◌, ◌++◌, take, drop, slice_get, Some, Ok, Contains}
use Rattle.std.specs.FinMap.{get}
use Rattle.lw_reg.specs.declared.slot.Slot.{Slot}
use Rattle.lw_reg.specs.State.{state_below}
use Rattle.lw_table.specs.Changes.{LAST}
use Rattle.lw_world.specs.declared.event.Action.TheVariants.{Send, Deliver}
use Rattle.lw_world.specs.declared.event.Event.{Event}
use Rattle.lw_world.specs.declared.outcome.Outcome.{Outcome}
use Rattle.lw_world.specs.declared.outcome.Outcome.TheVariants.{Sent, Delivered}
use Rattle.lw_world.specs.Known.{Knowledge, Message, known_state}
use Rattle.lw_world.specs.Run.{History, Runs, begun, at_number}

-- the events of a run and their outcomes have these at the place
pub record IsAt (events : List Event) (outcomes : List Outcome) (place : ℕ) (event : Event) (outcome : Outcome) : Type 0 where
  pub event_is : slice_get events place ≡ Some event
  pub outcome_is : slice_get outcomes place ≡ Some outcome

-- a delta that is sent: at which place of the run, since which change number, which message it is, and the sender's
-- change number then
pub record Link : Type 0 where
  pub place : ℕ
  pub since : ℕ
  pub message : ℕ
  pub change : ℕ

abbrev pub IsSent : List Event → List Outcome → ℕ → Link → Type 0
IsSent events outcomes sender l = IsAt events outcomes l.place (record { node = sender; action = Send l.since }) (Sent (Ok (record { message = l.message; change = l.change })))

-- A delta holds each slot as it still stands later, unless the endpoint has moved again: all that the sender has, at
-- that or any later moment, under a change number that the delta reaches, where that is not the last that there is.
abbrev pub DeltasLast : Type 0
DeltasLast =
    (count : ℕ) (events : List Event) (outcomes : List Outcome) (h : History) → Runs (begun count) events outcomes h
    → (sender : ℕ) (l : Link) → IsSent events outcomes sender l → l.change < LAST → (k : Knowledge) → at_number h.nodes sender ≡ Some k
    → (e : List ℕ) (slot : Slot) (number : ℕ) → get (known_state k.operations) e ≡ Some slot → get k.count.numbers e ≡ Some number → l.since < number → number ≤ l.change
    → (m : Message) × (slice_get h.messages l.message ≡ Some m) × Contains m.delta.slots (e, slot)

-- each is sent later than the one before, and since the number that came with that
abbrev pub IsChainFrom : List Event → List Outcome → ℕ → ℕ → ℕ → List Link → Type 0
IsChainFrom events outcomes sender since first [] = Unit {0}
IsChainFrom events outcomes sender since first (l ∷ ls) =
    IsSent events outcomes sender l × (l.since ≡ since) × (first ≤ l.place) × IsChainFrom events outcomes sender l.change (l.place + 1) ls

-- the first is since 0
abbrev pub IsChain : List Event → List Outcome → ℕ → List Link → Type 0
IsChain events outcomes sender links = IsChainFrom events outcomes sender 0 0 links

-- the whole message was joined at the node
pub record IsDelivered (events : List Event) (outcomes : List Outcome) (receiver message : ℕ) : Type 0 where
  pub place : ℕ
  pub joined : ℕ
  pub delivered : IsAt events outcomes place (record { node = receiver; action = Deliver message }) (Delivered (Ok joined))

-- the run comes to the end by way of this history, which it has before the event at the place
pub record Passes (count : ℕ) (events : List Event) (outcomes : List Outcome) (place : ℕ) (mid end : History) : Type 0 where
  pub before : Runs (begun count) (take place events) (take place outcomes) mid
  pub rest : Runs mid (drop place events) (drop place outcomes) end

-- Who has got each delta of a chain, in any order, has at least what the sender had at the last of them, its clock and
-- its state, and keeps it.
abbrev pub ChainsReach : Type 0
ChainsReach =
    (count : ℕ) (events : List Event) (outcomes : List Outcome) (sender receiver : ℕ) (links : List Link) (last : Link) → IsChain events outcomes sender (links ++ last ∷ [])
    → ((l : Link) → Contains (links ++ last ∷ []) l → IsDelivered events outcomes receiver l.message)
    → (mid h : History) → Passes count events outcomes last.place mid h
    → (s r : Knowledge) → at_number mid.nodes sender ≡ Some s → at_number h.nodes receiver ≡ Some r
    → (s.clock ≤ r.clock) × state_below (known_state s.operations) (known_state r.operations)
