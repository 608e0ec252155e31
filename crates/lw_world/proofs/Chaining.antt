-- What deltas hold lasts, and a chain of them brings all.
use Rattle.std.proofs.Common.{◌≡◌, ℕ, suc, ◌+◌, ◌<◌, ◌≤◌, Bool, true, false, List, [], ◌∷◌, ◌++◌, length, Option, Some, None, Ok, sym, refl, ap, ◌∙◌, subst, arith, inl, inr, ◌⊎◌}
use Rattle.std.specs.Prelude.{Contains, slice_get, nat_le, nat_lt}
use Rattle.std.specs.FinMap.{get}
use Rattle.std.proofs.lemmas.Bool.Decides.{nat_tests}
use Rattle.std.proofs.lemmas.List.Elements.{Contains-append_right}
use Rattle.lw_join.specs.Options.{option_below}
use Rattle.lw_reg.specs.declared.op.Op.{Op}
use Rattle.lw_reg.specs.declared.slot.Slot.{Slot}
use Rattle.lw_reg.specs.Slot.{slot_below}
use Rattle.lw_reg.specs.State.{state_below}
use Rattle.lw_reg.proofs.Members.{first_there, more_there}
use Rattle.lw_reg.proofs.States.{state_laws}
use Rattle.lw_table.specs.Changes.{LAST, IsSinceIn}
use Rattle.lw_world.specs.declared.event.Action.TheVariants.{Send, Deliver}
use Rattle.lw_world.specs.declared.event.Event.{Event}
use Rattle.lw_world.specs.declared.outcome.Outcome.{Outcome}
use Rattle.lw_world.specs.declared.outcome.Outcome.TheVariants.{Sent, Delivered}
use Rattle.lw_world.specs.Chains.{Link, IsSent, IsChainFrom, IsDelivered, DeltasLast, ChainsReach}
use Rattle.lw_world.specs.Known.{Knowledge, Message, known_state}
use Rattle.lw_world.specs.Run.{History, Happens, begun, at_number}
use Rattle.lw_world.proofs.Lasting.{IsCounted, IsNumbered, Lasts, Stands, HasMoved, above_more}
use Rattle.lw_world.proofs.Learning.{slot_told}
use Rattle.lw_world.proofs.Making.{contains_at}
use Rattle.lw_world.proofs.Moments.{Moments, moments, passing, begun_good, some_one, last_there, with_own, message_of}

-- ---- what is sent
-- the sender knows this before, and the message is there in the end
record Departs (before end : History) (sender : ℕ) (l : Link) : Type 0 where
  knows : Knowledge
  is : at_number before.nodes sender ≡ Some knows
  message : Message
  there : slice_get end.messages l.message ≡ Some message
  change : l.change ≡ knows.count.change
  slots : IsSinceIn (known_state knows.operations) knows.count l.since message.delta.slots
  clock : message.delta.clock ≡ knows.clock

departs : (begin : History) (events : List Event) (outcomes : List Outcome) (h : History) (m : Moments begin events outcomes h) (sender : ℕ) (l : Link) → IsSent events outcomes sender l → Departs (m.at l.place) h sender l
departs begin events outcomes h m sender l sent =
    go (m.steps l.place (record { node = sender; action = Send l.since }) (Sent (Ok (record { message = l.message; change = l.change }))) sent.event_is sent.outcome_is)
  where
    go : Happens (m.at l.place) (record { node = sender; action = Send l.since }) (Sent (Ok (record { message = l.message; change = l.change }))) (m.at (suc l.place)) → Departs (m.at l.place) h sender l
    go step =
        let sends = step.acts in
        let old = (m.at l.place).messages in
        let all : (m.at (suc l.place)).messages ≡ old ++ message_of sends ∷ [] = ap (λ (x : History). x.messages) step.new_is ∙ ap (λ x. x.messages) sends.left_is in
        record {
          knows = step.knows;
          is = step.is;
          message = message_of sends;
          there = (m.ends (suc l.place)).messages l.message (message_of sends)
              (ap (slice_get (m.at (suc l.place)).messages) sends.number ∙ ap (λ (ms : List Message). slice_get ms (length old)) all ∙ last_there old (message_of sends));
          change = sends.change;
          slots = sends.slots;
          clock = sends.clock;
        }

-- a slot that has not moved since is in the message
holds : (before end : History) (sender : ℕ) (l : Link) (d : Departs before end sender l) → l.change < LAST → (k : Knowledge) → Lasts d.knows k
    → (e : List ℕ) (slot : Slot) (number : ℕ) → get (known_state k.operations) e ≡ Some slot → get k.count.numbers e ≡ Some number → l.since < number → number ≤ l.change → Contains d.message.delta.slots (e, slot)
holds before end sender l d countable k lasts e slot number at is above low =
    go (lasts.each l.change countable (let same = d.change in omega (arith, same)) e)
  where
    go : Stands d.knows k e ⊎ HasMoved l.change k e → Contains d.message.delta.slots (e, slot)
    go (inl stands) = (d.slots.members e slot).1 (sym stands.slot ∙ at, inr (number, sym stands.number ∙ is, above))
    go (inr moved) =
        let same : number ≡ moved.0 = some_one number moved.0 (sym is ∙ moved.1) in
        let past = moved.2 in
        absurd (omega (arith, same, past, low))

pub deltas_last : DeltasLast
deltas_last count events outcomes h runs sender l sent countable k at e slot number has is above low =
    let m = moments (begun count) events outcomes h (begun_good count) runs in
    let d = departs (begun count) events outcomes h m sender l sent in
    let later = (m.ends l.place).nodes sender d.knows d.is in
    let same : later.0 ≡ k = some_one later.0 k (sym later.1 ∙ at) in
    (d.message, d.there, holds (m.at l.place) h sender l d countable k (subst (Lasts d.knows) same later.2) e slot number has is above low)

-- ---- what arrives
-- the message is not above what is known
record IsIn (message : Message) (r : Knowledge) : Type 0 where
  clock : message.delta.clock ≤ r.clock
  state : state_below (known_state message.operations) (known_state r.operations)

-- who got the whole message is above its clock, and what its operations tell
arrives : (begin : History) (events : List Event) (outcomes : List Outcome) (h : History) (m : Moments begin events outcomes h) (receiver number : ℕ) → IsDelivered events outcomes receiver number
    → (r : Knowledge) → at_number h.nodes receiver ≡ Some r → (message : Message) → slice_get h.messages number ≡ Some message → IsIn message r
arrives begin events outcomes h m receiver number d r at message there =
    go (m.steps d.place (record { node = receiver; action = Deliver number }) (Delivered (Ok d.joined)) d.delivered.event_is d.delivered.outcome_is)
  where
    go : Happens (m.at d.place) (record { node = receiver; action = Deliver number }) (Delivered (Ok d.joined)) (m.at (suc d.place)) → IsIn message r
    go step =
        let came = step.acts in
        let same : came.0 ≡ message = some_one came.0 message (sym ((m.ends d.place).messages number came.0 came.1) ∙ there) in
        let own : at_number (m.at (suc d.place)).nodes receiver ≡ Some step.left.knows =
        ap (λ (x : History). at_number x.nodes receiver) step.new_is ∙ with_own (m.at d.place).nodes receiver step.left.knows step.knows step.is in
        let later = (m.ends (suc d.place)).nodes receiver step.left.knows own in
        let is : later.0 ≡ r = some_one later.0 r (sym later.1 ∙ at) in
        let lasts : Lasts step.left.knows r = subst (Lasts step.left.knows) is later.2 in
        let grown : state_below (known_state came.0.operations) (known_state step.left.knows.operations) =
        subst (λ (os : List Op). state_below (known_state came.0.operations) (known_state os)) (sym came.2.1.gains.operations_are) (above_more came.0.operations step.knows.operations) in
        let greater = came.2.1.gains.clock_is in
        let kept = lasts.clock in
        subst (λ (x : Message). IsIn x r) same (record {
          clock = omega (arith, greater, kept);
          state = state_laws.transitive (known_state came.0.operations) (known_state step.left.knows.operations) (known_state r.operations) grown lasts.below;
        })

-- ---- a chain
-- the receiver is above each slot of the sender whose number is not above this
abbrev Covers : Knowledge → Knowledge → ℕ → Type 0
Covers s r change =
    (e : List ℕ) (slot : Slot) (number : ℕ) → get (known_state s.operations) e ≡ Some slot → get s.count.numbers e ≡ Some number → number ≤ change
    → option_below slot_below (Some slot) (get (known_state r.operations) e)

module _ (begin : History) (events : List Event) (outcomes : List Outcome) (h : History) (m : Moments begin events outcomes h) (sender receiver : ℕ) (last : Link)
    (s r : Knowledge) (s_at : at_number (m.at last.place).nodes sender ≡ Some s) (r_at : at_number h.nodes receiver ≡ Some r) where
  -- what the sender knew before the link lasts until the last
  lasts_on : (l : Link) → l.place ≤ last.place → (d : Departs (m.at l.place) h sender l) → Lasts d.knows s
  lasts_on l before d =
      let later = (m.goes l.place last.place before).nodes sender d.knows d.is in
      subst (Lasts d.knows) (some_one later.0 s (sym later.1 ∙ s_at)) later.2

  -- what is in its message has reached the receiver
  brought : (l : Link) → IsDelivered events outcomes receiver l.message → (d : Departs (m.at l.place) h sender l) → (e : List ℕ) (slot : Slot) → Contains d.message.delta.slots (e, slot)
      → option_below slot_below (Some slot) (get (known_state r.operations) e)
  brought l delivered d e slot there =
      let told = slot_told d.message (m.good_end.sound d.message (contains_at h.messages l.message d.message d.there)) e slot there in
      subst (λ o. option_below slot_below o (get (known_state r.operations) e)) told ((arrives begin events outcomes h m receiver l.message delivered r r_at d.message d.there).state e)

  link_covers : s.count.change < LAST → (l : Link) → IsSent events outcomes sender l → l.place ≤ last.place → IsDelivered events outcomes receiver l.message → Covers s r l.since → Covers s r l.change
  link_covers short l sent before delivered covered e slot number has is low = go (nat_le number l.since) refl
    where
      d : Departs (m.at l.place) h sender l
      d = departs begin events outcomes h m sender l sent

      countable : l.change < LAST
      countable = let same = d.change in let rises = (lasts_on l before d).change in omega (arith, short, same, rises)

      go : (b : Bool) → nat_le number l.since ≡ b → option_below slot_below (Some slot) (get (known_state r.operations) e)
      go true c = covered e slot number has is (grind (arith, nat_tests))
      go false c = brought l delivered d e slot (holds (m.at l.place) h sender l d countable s (lasts_on l before d) e slot number has is (grind (arith, nat_tests)) low)

  -- a chain comes no later than its last
  chain_before : (links : List Link) (since first : ℕ) → IsChainFrom events outcomes sender since first (links ++ last ∷ []) → first ≤ last.place
  chain_before [] since first chain = chain.2
  chain_before (l ∷ links) since first chain =
      let a = chain.2 in
      let b = chain_before links l.change (l.place + 1) chain.3 in
      omega (arith, a, b)

  last_sent : (links : List Link) (since first : ℕ) → IsChainFrom events outcomes sender since first (links ++ last ∷ []) → IsSent events outcomes sender last
  last_sent [] since first chain = chain.0
  last_sent (l ∷ links) since first chain = last_sent links l.change (l.place + 1) chain.3

  chain_covers : s.count.change < LAST → (links : List Link) (since first : ℕ) → IsChainFrom events outcomes sender since first (links ++ last ∷ [])
      → ((l : Link) → Contains (links ++ last ∷ []) l → IsDelivered events outcomes receiver l.message) → Covers s r since → Covers s r last.change
  chain_covers short [] since first chain delivered covered =
      link_covers short last chain.0 (omega arith) (delivered last (first_there last [] last refl)) (subst (Covers s r) (sym chain.1) covered)
  chain_covers short (l ∷ links) since first chain delivered covered =
      chain_covers short links l.change (l.place + 1) chain.3 (λ x there. delivered x (more_there l (links ++ last ∷ []) x there))
      (link_covers short l chain.0 (let b = chain_before links l.change (l.place + 1) chain.3 in omega (arith, b)) (delivered l (first_there l (links ++ last ∷ []) l refl)) (subst (Covers s r) (sym chain.1) covered))

  counted : IsCounted s
  counted = (m.good last.place).counted sender s s_at

  -- no number is 0
  none_covered : Covers s r 0
  none_covered e slot number has is low =
      let n = counted.numbered e slot has in
      let same : number ≡ n.number = some_one number n.number (sym is ∙ n.is) in
      let first = n.first in
      absurd (omega (arith, same, first, low))

  slots_below : ((e : List ℕ) (slot : Slot) → get (known_state s.operations) e ≡ Some slot → option_below slot_below (Some slot) (get (known_state r.operations) e)) → state_below (known_state s.operations) (known_state r.operations)
  slots_below each e = go (get (known_state s.operations) e) refl
    where
      go : (o : Option Slot) → get (known_state s.operations) e ≡ o → option_below slot_below o (get (known_state r.operations) e)
      go None at = tt
      go (Some slot) at = each e slot at

  -- at the last change number the last delta is whole
  pub reaches : (links : List Link) → IsChainFrom events outcomes sender 0 0 (links ++ last ∷ []) → ((l : Link) → Contains (links ++ last ∷ []) l → IsDelivered events outcomes receiver l.message)
      → (s.clock ≤ r.clock) × state_below (known_state s.operations) (known_state r.operations)
  reaches links chain delivered = (clock_reaches, slots_below (go (nat_lt s.count.change LAST) refl))
    where
      d : Departs (m.at last.place) h sender last
      d = departs begin events outcomes h m sender last (last_sent links 0 0 chain)

      same : d.knows ≡ s
      same = some_one d.knows s (sym d.is ∙ s_at)

      last_delivered : IsDelivered events outcomes receiver last.message
      last_delivered = delivered last (Contains-append_right links (last ∷ []) last (first_there last [] last refl))

      -- the last delta has the sender's clock
      clock_reaches : s.clock ≤ r.clock
      clock_reaches =
          let came = (arrives begin events outcomes h m receiver last.message last_delivered r r_at d.message d.there).clock in
          let sent = d.clock in
          let its = ap (λ (k : Knowledge). k.clock) same in
          omega (arith, came, sent, its)

      go : (b : Bool) → nat_lt s.count.change LAST ≡ b → (e : List ℕ) (slot : Slot) → get (known_state s.operations) e ≡ Some slot → option_below slot_below (Some slot) (get (known_state r.operations) e)
      go true c e slot at =
          let n : IsNumbered s e = counted.numbered e slot at in
          let within = n.within in
          let change : last.change ≡ s.count.change = d.change ∙ ap (λ (k : Knowledge). k.count.change) same in
          chain_covers (grind (arith, nat_tests)) links 0 0 chain delivered none_covered e slot n.number at n.is (omega (arith, within, change))
      go false c e slot at =
          let short = counted.last in
          let end : s.count.change ≡ LAST = grind (arith, nat_tests) in
          brought last last_delivered d e slot
          ((d.slots.members e slot).1 (ap (λ (k : Knowledge). get (known_state k.operations) e) same ∙ at, inl (ap (λ (k : Knowledge). k.count.change) same ∙ end)))

pub chains_reach : ChainsReach
chains_reach count events outcomes sender receiver links last chain delivered mid h passes s r s_at r_at =
    let p = passing last.place (begun count) events outcomes mid h (begun_good count) passes.before passes.rest in
    reaches (begun count) events outcomes h p.0 sender receiver last s r (ap (λ (x : History). at_number x.nodes sender) p.1 ∙ s_at) r_at links chain delivered
