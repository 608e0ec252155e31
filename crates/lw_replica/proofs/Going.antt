-- Nodes go on by operations and merges.
use Rattle.std.proofs.Common.{◌≡◌, inl, inr, ℕ, ◌+◌, ◌-◌, ◌<◌, ◌≤◌, List, [], ◌∷◌, length, Option, Some, None, Result, Ok, Err, refl, sym, ◌∙◌, subst, arith}
use Rattle.std.specs.Prelude.{Contains, slice_get, min}
use Rattle.std.specs.Coded.{coded_option}
use Rattle.std.specs.FinMap.{get}
use Rattle.std.proofs.lemmas.Option.{slice_get_read}
use Rattle.lw_join.proofs.MapLemmas.{maps_alike}
use Rattle.lw_reg.specs.OrderLaws.{text_order}
use Rattle.lw_reg.specs.declared.op.Op.{Op}
use Rattle.lw_reg.specs.declared.slot.Slot.{Slot}
use Rattle.lw_reg.specs.contracts.slot.Slot as slots
use Rattle.lw_reg.specs.Marks.{Marks, marks_of}
use Rattle.lw_reg.specs.State.{State, state_below, state_join, state_of}
use Rattle.lw_reg.proofs.States.{state_laws}
use Rattle.lw_reg.proofs.Members.{none_there, first_there, more_there, there_or_first}
use Rattle.lw_table.specs.Changes.{Count, LAST, Recounts, IsSince, counted}
use Rattle.lw_table.proofs.RowLemmas.{same_or_not}
use Rattle.lw_call.specs.declared.call.Call.{Call}
use Rattle.lw_call.specs.declared.merge_fault.MergeFault.{MergeFault}
use Rattle.lw_call.specs.declared.merge_fault.MergeFault.TheVariants as merge_faults
use Rattle.lw_call.specs.declared.reply.Reply.{Reply}
use Rattle.lw_node.specs.Exchange.{IsBelow, Merged, Merges, known_by, state_in}
use Rattle.lw_node.specs.Node.{NodeContent, Leaves, marks_in}
use Rattle.lw_node.specs.Node.Known.{Shown}
use Rattle.lw_node.specs.Steps.{at_node, IsStep, Steps}
use Rattle.lw_node.proofs.Carrying.{carried}
use Rattle.lw_node.proofs.Joining.{below_or_not}
use Rattle.lw_replica.specs.inner.Going.{Goes}
use Rattle.lw_replica.proofs.Stable.{stable}

-- ---- members of a list
there_or_not : {G : Type 0} (xs : List (List ℕ)) (e : List ℕ) → (Contains xs e → G) → ((Contains xs e → ⊥) → G) → G
there_or_not [] e there not_there = not_there (λ h. none_there e h)
there_or_not (x ∷ xs) e there not_there =
    same_or_not x e
    (λ t same. there (first_there x xs e (sym same)))
    (λ f other. there_or_not xs e (λ h. there (more_there x xs e h)) (λ absent. not_there (λ h. elim (there_or_first x xs e h) [ inl same ↦ other (sym same) | inr later ↦ absent later ])))

-- ---- counts
module _ (old new : State) (before after : Count) (r : Recounts old new before after) where
  not_less : before.change ≤ after.change
  not_less = let c = r.change in let x = min (length r.moved) (LAST - before.change) in omega (arith, c)

  same_slot : (e : List ℕ) → (Contains r.moved e → ⊥) → get old e ≡ get new e
  same_slot e absent = stable (coded_option (slots.the_row).coded) (get old e) (get new e) (λ moves. absent ((r.all e).1 moves))

  none_moved : (moved : List (List ℕ)) → moved ≡ r.moved → length moved ≡ 0 → (e : List ℕ) → Contains r.moved e → ⊥
  none_moved [] is none e there = none_there e (subst (λ xs. Contains xs e) (sym is) there)
  none_moved (x ∷ xs) is none e there = absurd (omega (arith, none))

  pub recounted_still : after.change ≡ before.change → after.change < LAST → new ≡ old
  recounted_still same last =
      let c = r.change in
      let none : length r.moved ≡ 0 = omega (arith, c, same, last) in
      maps_alike text_order new old (λ e. sym (same_slot e (none_moved r.moved refl none e)))

  pub recounted_before : after.change ≤ LAST → (since : ℕ) (e : List ℕ) → since ≤ before.change → (IsSince after since e → ⊥) → (IsSince before since e → ⊥) × (get new e ≡ get old e)
  recounted_before last since e within not_since =
      there_or_not r.moved e
      (λ there.
      let at : slice_get r.moved there.0 ≡ Some e = slice_get_read r.moved (length r.moved) there.0 e refl there.1 (sym there.2) in
      let number = r.numbered there.0 e at in
      let c = r.change in
      let long = there.1 in
      below_or_not since (counted before.change (there.0 + 1))
      (λ less. absurd (not_since (inr (counted before.change (there.0 + 1), number, less))))
      (λ j is. absurd (not_since (inl (omega (arith, c, is, within, last, long))))))
      (λ absent.
      let same = same_slot e absent in (
        (λ was. elim was [
          | inl at_last ↦ (let c = not_less in not_since (inl (omega (arith, at_last, c, last))))
          | inr k ↦ not_since (inr (k.0, r.kept e same ∙ k.1, k.2))
        ]),
        sym same,
      ))

-- ---- nodes
pub goes_refl : (node : NodeContent) → Goes node node
goes_refl node = record { number = refl; clock = omega arith; state = state_laws.reflexive node.table.state; change = omega arith; still = λ same last. refl; before = λ last since e within not_since. (not_since, refl) }

pub goes_same : (old new : NodeContent) → new ≡ old → Goes old new
goes_same old new same = subst (λ (n : NodeContent). Goes old n) (sym same) (goes_refl old)

pub goes_then : (first mid last : NodeContent) → Goes first mid → Goes mid last → Goes first last
goes_then first mid last one two =
    let a = one.change in
    let b = two.change in
    let c = one.clock in
    let d = two.clock in record {
      number = two.number ∙ one.number;
      clock = omega (arith, c, d);
      state = state_laws.transitive first.table.state mid.table.state last.table.state one.state two.state;
      change = omega (arith, a, b);
      still = λ same below. two.still (omega (arith, a, b, same)) below ∙ one.still (omega (arith, a, b, same)) (omega (arith, a, b, same, below));
      before = λ end since e within not_since.
          let x = two.before end since e (omega (arith, a, within)) not_since in
          let y = one.before (omega (arith, b, end)) since e within x.0 in
          (y.0, x.1 ∙ y.1);
    }

goes_by : (old new : NodeContent) → new.number ≡ old.number → old.clock ≤ new.clock → state_below old.table.state new.table.state → Recounts old.table.state new.table.state old.table.count new.table.count → Goes old new
goes_by old new number clock state r = record {
  number = number;
  clock = clock;
  state = state;
  change = not_less old.table.state new.table.state old.table.count new.table.count r;
  still = recounted_still old.table.state new.table.state old.table.count new.table.count r;
  before = recounted_before old.table.state new.table.state old.table.count new.table.count r;
}

-- what is joined is above what was there
joined_above : (old more new : State) → new ≡ state_join old more → state_below old new
joined_above old more new is = subst (λ (s : State). state_below old s) (sym is) (state_laws.above_left old more)

pub goes_merged : (old new : NodeContent) (clock : ℕ) (ss : List (List ℕ × Slot)) → Merged old clock ss new → Goes old new
goes_merged old new clock ss m = let c = m.clock_is in goes_by old new m.number (omega (arith, c)) (joined_above old.table.state (state_in ss) new.table.state m.state) m.count

pub goes_merges : (old new : NodeContent) (bytes : List ℕ) (outcome : Result ℕ MergeFault) → Merges old bytes outcome new → Goes old new
goes_merges old new bytes (Ok count) m = goes_merged old new m.delta.clock m.delta.slots m.merged
goes_merges old new bytes (Err (merge_faults.Malformed fault)) m = goes_same old new m.1
goes_merges old new bytes (Err (merge_faults.NoMemory joined)) m = goes_merged old new m.delta.clock _ m.merged

goes_leaves : (old new : NodeContent) (operation : Option Op) → Leaves old operation new → Goes old new
goes_leaves old new None left = goes_same old new left
goes_leaves old new (Some operation) left =
    let c = left.clock in goes_by old new left.number (omega (arith, c)) (joined_above old.table.state (state_of (marks_of operation)) new.table.state left.state) left.count

goes_steps : (old new : NodeContent) (M : Marks) (call : Call) (reply : Reply) → Steps old M call reply new → Goes old new
goes_steps old new M call reply steps =
    (carried (at_node old M new) (λ (same : Goes old new) operation. Unit {0}) (λ (same : Goes old new) bytes outcome. Unit {0})
    (λ operation left. (goes_leaves old new operation left, tt))
    (λ bytes outcome merges. (goes_merges old new bytes outcome merges, tt)) call reply steps).0

pub goes_step : (old : NodeContent) (call : Call) (reply : Reply) (new : NodeContent) → IsStep old call reply new → Goes old new
goes_step old call reply new step = goes_steps old new (marks_in old.table.state Shown) call reply (step Shown tt)

-- ---- what a node knows
pub goes_below : (old new : NodeContent) → Goes old new → IsBelow (known_by old) (known_by new)
goes_below old new goes = (goes.clock, goes.state)

pub below_same : (old new : NodeContent) → new ≡ old → IsBelow (known_by old) (known_by new)
below_same old new same = goes_below old new (goes_same old new same)

pub below_then : (a b c : ℕ × State) → IsBelow a b → IsBelow b c → IsBelow a c
below_then a b c one two = (let x = one.0 in let y = two.0 in omega (arith, x, y), state_laws.transitive a.1 b.1 c.1 one.1 two.1)
