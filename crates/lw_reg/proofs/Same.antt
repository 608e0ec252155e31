-- Sets of marks with one state show the same.
use Rattle.std.proofs.Common.{◌≡◌, ℕ, List, Option, Some, None, sym, refl, subst, inl, inr}
use Rattle.std.specs.FinMap.{get}
use Rattle.lw_stamp.specs.declared.stamp.Stamp.{Stamp}
use Rattle.lw_join.specs.inner.Facets.{OptionTells}
use Rattle.lw_join.specs.declared.or_gone.OrGone.TheVariants.{Here, Gone}
use Rattle.lw_reg.specs.declared.slot.Slot.{Slot}
use Rattle.lw_reg.specs.declared.watch.Watch.{Watch}
use Rattle.lw_reg.specs.Fields.{slot_of_fields}
use Rattle.lw_reg.specs.Laws.{Both, ShowTheSame, StatesShowSets, JoinsShowBoth, StatesDecide, MembersDecide, SlotsAreParts, fields_in}
use Rattle.lw_reg.specs.Marks.{Mark, Marks, Has, NamesAll, among}
use Rattle.lw_reg.specs.Marks.Trace.{Named}
use Rattle.lw_reg.specs.Reading.{body_of, stamp_of, shown_by_option, shown_in}
use Rattle.lw_reg.specs.Registration.{Registration}
use Rattle.lw_reg.specs.Showing.{IsShown, HasExpired, LivesOf}
use Rattle.lw_reg.specs.Slot.{slot_at}
use Rattle.lw_reg.specs.State.{State, state_join, IsStateOf}
use Rattle.lw_reg.proofs.ShownLemmas.{shown_reads, expired_reads, lives_reads}
use Rattle.lw_reg.proofs.States.{state_is, state_same, one_state}
use Rattle.lw_reg.proofs.SlotMarks.{slot_self, shown_names}
use Rattle.lw_reg.proofs.Tells.{SlotTells, Tells, Holds, mark_at, state_facet, state_tells}

module _ (M N : Marks) (p : NamesAll M) (q : NamesAll N) where
  -- what a slot, or its absence, tells of the marks about an endpoint
  abbrev At : Marks → List ℕ → Option Slot → Type 0
  At K e = OptionTells SlotTells (λ y. Has K e y.0 y.1)

  shown_along : (now : ℕ) (e : List ℕ) (o : Option Slot) → At M e o → At N e o → (v : Registration) → v.endpoint ≡ e → IsShown M now v → IsShown N now v
  shown_along now e None g h v same s = absurd (g (v.id, Named) (subst (λ f. Has M f v.id Named) same s.registered.complete.current.member))
  shown_along now e (Some slot) g h v same s = ((shown_reads N e (q e) slot h now v).0 ((shown_reads M e (p e) slot g now v).1 (same, s))).1

  expired_along : (now : ℕ) (e : List ℕ) (o : Option Slot) → At M e o → At N e o → HasExpired M now e → HasExpired N now e
  expired_along now e None g h x = absurd (g (x.0.id, Named) (subst (λ f. Has M f x.0.id Named) x.1 x.2.registered.complete.current.member))
  expired_along now e (Some slot) g h x = (expired_reads N e (q e) slot h now).0 ((expired_reads M e (p e) slot g now).1 x)

  lives_along : (now : ℕ) (e : List ℕ) (w : Watch) (o : Option Slot) → At M e o → At N e o → LivesOf M now e w → LivesOf N now e w
  lives_along now e w None g h x = absurd (g (x.0.id, Named) (subst (λ f. Has M f x.0.id Named) x.1 x.2.shown.registered.complete.current.member))
  lives_along now e w (Some slot) g h x = (lives_reads N e (q e) slot h now w).1 ((lives_reads M e (p e) slot g now w).0 x)

-- sets that one state tells of show the same
pub told_same : (M N : Marks) → NamesAll M → NamesAll N → (s : State) → Tells (Holds M) s → Tells (Holds N) s → ShowTheSame M N
told_same M N p q s g h = record {
  shown = λ now v. (
    shown_along M N p q now v.endpoint (get s v.endpoint) (g v.endpoint) (h v.endpoint) v refl,
    shown_along N M q p now v.endpoint (get s v.endpoint) (h v.endpoint) (g v.endpoint) v refl,
  );
  expired = λ now e. (
    expired_along M N p q now e (get s e) (g e) (h e),
    expired_along N M q p now e (get s e) (h e) (g e),
  );
  live = λ now e w. (
    lives_along M N p q now e w (get s e) (g e) (h e),
    lives_along N M q p now e w (get s e) (h e) (g e),
  );
}

-- a state tells of each set that it is of
told_by_state : (ms : List Mark) → NamesAll (among ms) → (s : State) → IsStateOf ms s → Tells (Holds (among ms)) s
told_by_state ms p s h = subst (Tells (Holds (among ms))) (sym (state_is ms s h)) (state_tells ms p)

pub states_decide : StatesDecide
states_decide ms ns p q s g h = told_same (among ms) (among ns) p q s (told_by_state ms p s g) (told_by_state ns q s h)

-- a state tells of the marks that can be read from it
pub state_self : (s : State) → Tells (Holds (shown_in s)) s
state_self s e = go (get s e)
  where
    go : (o : Option Slot) → OptionTells SlotTells (λ y. shown_by_option e o (mark_at (e, y))) o
    go None = λ y h. h
    go (Some slot) = slot_self e slot

pub state_names : (s : State) → NamesAll (shown_in s)
state_names s e r k h = go (get s e) h
  where
    go : (o : Option Slot) → Has (shown_by_option e o) e r k → Has (shown_by_option e o) e r Named
    go None h = h
    go (Some slot) h = shown_names e slot r k h

both_names : (M N : Marks) → NamesAll M → NamesAll N → NamesAll (Both M N)
both_names M N p q e r k (inl h) = inl (p e r k h)
both_names M N p q e r k (inr h) = inr (q e r k h)

pub states_show_sets : StatesShowSets
states_show_sets ms p s h = told_same (among ms) (shown_in s) p (state_names s) s (told_by_state ms p s h) (state_self s)

pub joins_show_both : JoinsShowBoth
joins_show_both s t =
    told_same (Both (shown_in s) (shown_in t)) (shown_in (state_join s t)) (both_names (shown_in s) (shown_in t) (state_names s) (state_names t)) (state_names (state_join s t)) (state_join s t)
    (state_facet.union (Holds (shown_in s)) (Holds (shown_in t)) s t (state_self s) (state_self t)) (state_self (state_join s t))

pub members_decide : MembersDecide
members_decide ms ns same s t g h = one_state ns s t (state_same ms ns same s g) h

pub slots_are_parts : SlotsAreParts
slots_are_parts slot = go slot.registration.stamp slot.registration.value
  where
    go : (r : Stamp) (x : _) → slot_of_fields (stamp_of (slot_at r x)) (fields_in (body_of (slot_at r x))) ≡ slot_at r x
    go r Gone = refl
    go r (Here b) = refl
