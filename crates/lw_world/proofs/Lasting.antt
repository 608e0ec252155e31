-- What lasts of a node's knowledge along a run: its clock and its slots grow, and an endpoint keeps its slot and its number, or takes
-- a number above all that there were.
use Rattle.std.proofs.Common.{◌≡◌, ◌≢◌, ℕ, ◌+◌, ◌<◌, ◌≤◌, List, ◌++◌, length, Option, Some, None, sym, refl, ◌∙◌, subst, arith, inl, inr, ◌⊎◌}
use Rattle.std.specs.FinMap.{get, get-empty}
use Rattle.std.proofs.lemmas.Option.{slice_get_read}
use Rattle.lw_stamp.specs.TextOrder.{text_cmp}
use Rattle.lw_reg.specs.declared.op.Op.{Op}
use Rattle.lw_reg.specs.declared.slot.Slot.{Slot}
use Rattle.lw_reg.specs.State.{state_below}
use Rattle.lw_reg.proofs.SameSlots.{same_slot}
use Rattle.lw_reg.proofs.States.{state_laws}
use Rattle.lw_table.specs.Changes.{LAST, Recounts, counted}
use Rattle.lw_world.specs.Known.{Knowledge, knows_nothing, known_state}
use Rattle.lw_world.proofs.KnownStates.{known_append}

-- ---- the change numbers of a node
-- each slot has a number, from 1 to the count of all moves
pub record IsNumbered (k : Knowledge) (e : List ℕ) : Type 0 where
  pub number : ℕ
  pub is : get k.count.numbers e ≡ Some number
  pub first : 0 < number
  pub within : number ≤ k.count.change

pub record IsCounted (k : Knowledge) : Type 0 where
  pub last : k.count.change ≤ LAST
  pub numbered : (e : List ℕ) (slot : Slot) → get (known_state k.operations) e ≡ Some slot → IsNumbered k e

pub nothing_counted : (number : ℕ) → IsCounted (knows_nothing number)
nothing_counted number = record { last = omega arith; numbered = λ e slot at. absurd (let bad : ◌≡◌ {A = Option Slot} None (Some slot) = sym (get-empty text_cmp e) ∙ at in cc) }

-- the endpoint has the slot and the number that it had
pub record Stands (k l : Knowledge) (e : List ℕ) : Type 0 where
  pub slot : get (known_state l.operations) e ≡ get (known_state k.operations) e
  pub number : get l.count.numbers e ≡ get k.count.numbers e

-- it has taken a number above this
abbrev pub HasMoved : ℕ → Knowledge → List ℕ → Type 0
HasMoved change l e = (n : ℕ) × (get l.count.numbers e ≡ Some n) × (change < n)

pub record Lasts (k l : Knowledge) : Type 0 where
  pub clock : k.clock ≤ l.clock
  pub below : state_below (known_state k.operations) (known_state l.operations)
  pub change : k.count.change ≤ l.count.change
  pub each : (c : ℕ) → c < LAST → c ≤ k.count.change → (e : List ℕ) → Stands k l e ⊎ HasMoved c l e

pub lasts_itself : (k : Knowledge) → Lasts k k
lasts_itself k = record {
  clock = omega arith;
  below = state_laws.reflexive (known_state k.operations);
  change = omega arith;
  each = λ c countable within e. inl (record { slot = refl; number = refl });
}

pub lasts_then : (j k l : Knowledge) → Lasts j k → Lasts k l → Lasts j l
lasts_then j k l one two = record {
  clock = let a = one.clock in let b = two.clock in omega (arith, a, b);
  below = state_laws.transitive (known_state j.operations) (known_state k.operations) (known_state l.operations) one.below two.below;
  change = let a = one.change in let b = two.change in omega (arith, a, b);
  each = λ c countable within e. go c e (one.each c countable within e) (two.each c countable (let a = one.change in omega (arith, a, within)) e);
}
  where
    go : (c : ℕ) (e : List ℕ) → Stands j k e ⊎ HasMoved c k e → Stands k l e ⊎ HasMoved c l e → Stands j l e ⊎ HasMoved c l e
    go c e first (inr moved) = inr moved
    go c e (inl same) (inl still) = inl (record { slot = still.slot ∙ same.slot; number = still.number ∙ same.number })
    go c e (inr moved) (inl still) = inr (moved.0, still.number ∙ moved.1, moved.2)

-- ---- more operations
-- some have reached the node
pub record Learns (k l : Knowledge) : Type 0 where
  pub more : List Op
  pub operations : l.operations ≡ more ++ k.operations
  pub clock : k.clock ≤ l.clock
  pub count : Recounts (known_state k.operations) (known_state l.operations) k.count l.count

-- what is known grows by them, and is above what they tell
known_grows : (more os : List Op) → state_below (known_state os) (known_state (more ++ os))
known_grows more os = subst (state_below (known_state os)) (sym (known_append more os)) (state_laws.above_right (known_state more) (known_state os))

pub above_more : (more os : List Op) → state_below (known_state more) (known_state (more ++ os))
above_more more os = subst (state_below (known_state more)) (sym (known_append more os)) (state_laws.above_left (known_state more) (known_state os))

module _ (k l : Knowledge) (learns : Learns k l) where
  count_rises : (before after moved : ℕ) → before ≤ LAST → after ≡ counted before moved → before ≤ after
  count_rises before after moved last is = omega (arith, last, is)

  above_before : (c before i : ℕ) → c < LAST → c ≤ before → c < counted before (i + 1)
  above_before c before i countable within = omega (arith, countable, within)

  -- it takes the number of its place among those that move
  pub moved_at : {G : Type 0} (e : List ℕ) → get (known_state k.operations) e ≢ get (known_state l.operations) e
      → ((i : ℕ) → i < length learns.count.moved → get l.count.numbers e ≡ Some (counted k.count.change (i + 1)) → G) → G
  moved_at e moves then =
      let there = (learns.count.all e).1 moves in
      then there.0 there.1 (learns.count.numbered there.0 e (slice_get_read learns.count.moved (length learns.count.moved) there.0 e refl there.1 (sym there.2)))

  pub learns_lasts : k.count.change ≤ LAST → Lasts k l
  learns_lasts last = record {
    clock = learns.clock;
    below = subst (λ (os : List Op). state_below (known_state k.operations) (known_state os)) (sym learns.operations) (known_grows learns.more k.operations);
    change = count_rises k.count.change l.count.change (length learns.count.moved) last learns.count.change;
    each = λ c countable within e. same_slot (get (known_state k.operations) e) (get (known_state l.operations) e)
        (λ same. inl (record { slot = sym same; number = learns.count.kept e same }))
        (λ moves. moved_at e moves (λ i lt is. inr (counted k.count.change (i + 1), is, above_before c k.count.change i countable within)));
  }

  pub learns_counted : IsCounted k → IsCounted l
  learns_counted before = record {
    last = at_most k.count.change l.count.change (length learns.count.moved) before.last learns.count.change;
    numbered = λ e slot at. same_slot (get (known_state k.operations) e) (get (known_state l.operations) e)
        (λ same. stays e same (before.numbered e slot (same ∙ at)))
        (λ moves. moved_at e moves (λ i lt is. record {
          number = counted k.count.change (i + 1);
          is = is;
          first = positive k.count.change i;
          within = within k.count.change l.count.change i (length learns.count.moved) lt learns.count.change;
        }));
  }
    where
      at_most : (b a moved : ℕ) → b ≤ LAST → a ≡ counted b moved → a ≤ LAST
      at_most b a moved last is = omega (arith, last, is)

      positive : (b i : ℕ) → 0 < counted b (i + 1)
      positive b i = omega arith

      within : (b a i moved : ℕ) → i < moved → a ≡ counted b moved → counted b (i + 1) ≤ a
      within b a i moved lt is = omega (arith, lt, is)

      stays : (e : List ℕ) → get (known_state k.operations) e ≡ get (known_state l.operations) e → IsNumbered k e → IsNumbered l e
      stays e same n = record {
        number = n.number;
        is = learns.count.kept e same ∙ n.is;
        first = n.first;
        within = let a = n.within in let b = count_rises k.count.change l.count.change (length learns.count.moved) before.last learns.count.change in omega (arith, a, b);
      }
