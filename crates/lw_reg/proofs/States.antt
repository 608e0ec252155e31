-- The state of a set of marks is the join of their atoms, and tells of the set.
use Rattle.std.proofs.Common.{◌≡◌, ℕ, List, [], ◌∷◌, ◌++◌, Some, sym, refl, ap, ◌∙◌, subst, inl, inr, ◌⊎◌}
use Rattle.std.specs.Prelude.{◌↔◌, Contains}
use Rattle.std.specs.FinMap.{get}
use Rattle.std.proofs.lemmas.List.Elements.{Contains-append_left, Contains-append_right, Contains-append_cases}
use Rattle.lw_join.specs.inner.Facets.{Either, OptionTells}
use Rattle.lw_join.specs.Join.{IsJoin}
use Rattle.lw_join.proofs.LeastLemmas.{least_one, least_same, least_facet, least_single}
use Rattle.lw_join.proofs.MapLemmas.{map_laws, empty_below}
use Rattle.lw_reg.specs.declared.slot.Slot.{Slot}
use Rattle.lw_reg.specs.Marks.{Mark, Has, among}
use Rattle.lw_reg.specs.OrderLaws.{text_order}
use Rattle.lw_reg.specs.Reading.{IsSlotOf}
use Rattle.lw_reg.specs.SlotLaws.{slot_laws}
use Rattle.lw_reg.specs.State.{State, state_below, state_join, atom_of, IsStateOf, state_of}
use Rattle.lw_reg.proofs.Members.{none_there, first_there, more_there, there_or_first}
use Rattle.lw_reg.proofs.Tells.{SlotTells, state_tells}

pub state_laws : IsJoin state_below state_join
state_laws = map_laws text_order slot_laws

-- an atom of one of the marks
abbrev pub IsAtomIn : List Mark → State → Type 0
IsAtomIn ms a = (m : Mark) × Contains ms m × (a ≡ atom_of m)

atoms_more : (m : Mark) (ms : List Mark) (a : State) → Either (λ b. b ≡ atom_of m) (IsAtomIn ms) a ↔ IsAtomIn (m ∷ ms) a
atoms_more m ms a = (go, λ x. back x.0 x.2 (there_or_first m ms x.0 x.1))
  where
    go : Either (λ b. b ≡ atom_of m) (IsAtomIn ms) a → IsAtomIn (m ∷ ms) a
    go (inl e) = (m, first_there m ms m refl, e)
    go (inr x) = (x.0, more_there m ms x.0 x.1, x.2)

    back : (n : Mark) → a ≡ atom_of n → (n ≡ m) ⊎ Contains ms n → Either (λ b. b ≡ atom_of m) (IsAtomIn ms) a
    back n e (inl same) = inl (e ∙ ap atom_of same)
    back n e (inr there) = inr (n, there, e)

pub state_least : (ms : List Mark) → IsStateOf ms (state_of ms)
state_least [] = record { above = λ y p. none_there p.0 p.1; least = λ z h. empty_below text_order slot_laws z }
state_least (m ∷ ms) =
    least_same state_laws (Either (λ b. b ≡ atom_of m) (IsAtomIn ms)) (IsAtomIn (m ∷ ms)) (state_of (m ∷ ms)) (atoms_more m ms)
    ((least_facet state_laws).union (λ b. b ≡ atom_of m) (IsAtomIn ms) (atom_of m) (state_of ms) (least_single state_laws (atom_of m)) (state_least ms))

-- a set has one state
pub one_state : (ms : List Mark) (s t : State) → IsStateOf ms s → IsStateOf ms t → s ≡ t
one_state ms s t g h = least_one state_laws (IsAtomIn ms) s t g h

pub state_is : (ms : List Mark) (s : State) → IsStateOf ms s → s ≡ state_of ms
state_is ms s h = one_state ms s (state_of ms) h (state_least ms)

-- sets with the same members have the same state
pub state_same : (ms ns : List Mark) → ((m : Mark) → Contains ms m ↔ Contains ns m) → (s : State) → IsStateOf ms s → IsStateOf ns s
state_same ms ns same s h = least_same state_laws (IsAtomIn ms) (IsAtomIn ns) s (λ a. (λ x. (x.0, (same x.0).0 x.1, x.2), λ x. (x.0, (same x.0).1 x.1, x.2))) h

-- the state of a union is the join of the states
pub state_union : (ms ns : List Mark) (s t : State) → IsStateOf ms s → IsStateOf ns t → IsStateOf (ms ++ ns) (state_join s t)
state_union ms ns s t g h =
    least_same state_laws (Either (IsAtomIn ms) (IsAtomIn ns)) (IsAtomIn (ms ++ ns)) (state_join s t) both
    ((least_facet state_laws).union (IsAtomIn ms) (IsAtomIn ns) s t g h)
  where
    both : (a : State) → Either (IsAtomIn ms) (IsAtomIn ns) a ↔ IsAtomIn (ms ++ ns) a
    both a = (go, λ x. back x.0 x.2 (Contains-append_cases ms ns x.0 x.1))
      where
        go : Either (IsAtomIn ms) (IsAtomIn ns) a → IsAtomIn (ms ++ ns) a
        go (inl x) = (x.0, Contains-append_left ms ns x.0 x.1, x.2)
        go (inr x) = (x.0, Contains-append_right ms ns x.0 x.1, x.2)

        back : (n : Mark) → a ≡ atom_of n → Contains ms n ⊎ Contains ns n → Either (IsAtomIn ms) (IsAtomIn ns) a
        back n e (inl there) = inl (n, there, e)
        back n e (inr there) = inr (n, there, e)

-- the slot that the state of the marks has tells of the marks
pub slot_tells : (ms : List Mark) (e : List ℕ) (slot : Slot) → IsSlotOf ms e slot → SlotTells (λ y. Has (among ms) e y.0 y.1) slot
slot_tells ms e slot h =
    let at : get (state_of ms) e ≡ Some slot = ap (λ (s : State). get s e) (sym (state_is ms h.1.0 h.1.1)) ∙ h.1.2 in
    subst (OptionTells SlotTells (λ y. Has (among ms) e y.0 y.1)) at (state_tells ms h.0 e)
