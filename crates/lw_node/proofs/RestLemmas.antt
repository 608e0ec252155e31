-- What a delta leaves out, the other side has.
use Rattle.std.proofs.Common.{◌≡◌, ◌⊎◌, inl, inr, ℕ, ◌+◌, Bool, true, false, cond, List, [], ◌∷◌, Option, Some, None, refl, sym, ap, ◌∙◌, subst, arith}
use Rattle.std.specs.Prelude.{Contains, nat_eq, IsSomeAnd}
use Rattle.std.specs.FinMap.{get}
use Rattle.std.specs.Ordering.{eq_by_cmp}
use Rattle.std.proofs.lemmas.Bool.{eqb-true, eq-eqb}
use Rattle.std.proofs.lemmas.Map.Views.{tells_apart}
use Rattle.lw_stamp.specs.TextOrder.{text_cmp}
use Rattle.lw_join.specs.Maps.{one_key}
use Rattle.lw_join.specs.OptionLaws.{option_laws}
use Rattle.lw_join.specs.Options.{option_below}
use Rattle.lw_join.proofs.MapLemmas.{get-one_key, get-own_key, empty_below}
use Rattle.lw_reg.specs.OrderLaws.{text_order}
use Rattle.lw_reg.specs.declared.slot.Slot.{Slot}
use Rattle.lw_reg.specs.Slot.{slot_below}
use Rattle.lw_reg.specs.SlotLaws.{slot_laws}
use Rattle.lw_reg.specs.State.{State, state_join, state_below}
use Rattle.lw_reg.proofs.Members.{none_there, first_there, more_there, there_or_first}
use Rattle.lw_reg.proofs.States.{state_laws}
use Rattle.lw_table.specs.Changes.{Count, LAST, IsSince}
use Rattle.lw_node.specs.Exchange.{state_in, DeltasBringTheRest}
use Rattle.lw_node.proofs.Joining.{below_or_not}

-- ---- slots below a state, and their members
pub one_below : (s : State) (e : List ℕ) (slot : Slot) → get s e ≡ Some slot → state_below (one_key e slot) s
one_below s e slot h k = subst (λ (o : Option Slot). option_below slot_below o (get s k)) (sym (get-one_key text_order e slot k)) (go (eq_by_cmp text_cmp k e) refl)
  where
    go : (b : Bool) → eq_by_cmp text_cmp k e ≡ b → option_below slot_below (cond b (Some slot) None) (get s k)
    go true same = subst (λ (o : Option Slot). option_below slot_below (Some slot) o) (sym (ap (get s) (tells_apart text_order.exact k e same) ∙ h)) (slot_laws.reflexive slot)
    go false same = tt

pub slots_below : (slots : List (List ℕ × Slot)) (s : State) → ((e : List ℕ) (slot : Slot) → Contains slots (e, slot) → get s e ≡ Some slot) → state_below (state_in slots) s
slots_below [] s at = empty_below text_order slot_laws s
slots_below (x ∷ xs) s at =
    state_laws.least (one_key x.0 x.1) (state_in xs) s
    (one_below s x.0 x.1 (at x.0 x.1 (first_there x xs x refl)))
    (slots_below xs s (λ e slot there. at e slot (more_there x xs (e, slot) there)))

pub member_below : (slots : List (List ℕ × Slot)) (e : List ℕ) (slot : Slot) → Contains slots (e, slot) → option_below slot_below (Some slot) (get (state_in slots) e)
member_below [] e slot there = none_there (e, slot) there
member_below (x ∷ xs) e slot there = go (there_or_first x xs (e, slot) there) (member_below xs e slot)
  where
    joined : State
    joined = state_in (x ∷ xs)

    first : ◌≡◌ {A = List ℕ × Slot} (e, slot) x → option_below slot_below (Some slot) (get joined e)
    first same =
        let own : get (one_key {R = text_cmp} x.0 x.1) e ≡ Some slot = ap (λ (y : List ℕ × Slot). get (one_key {R = text_cmp} y.0 y.1) e) (sym same) ∙ get-own_key text_order e slot in
        subst (λ (o : Option Slot). option_below slot_below o (get joined e)) own (state_laws.above_left (one_key x.0 x.1) (state_in xs) e)

    go : (◌≡◌ {A = List ℕ × Slot} (e, slot) x) ⊎ Contains xs (e, slot) → (Contains xs (e, slot) → option_below slot_below (Some slot) (get (state_in xs) e)) → option_below slot_below (Some slot) (get joined e)
    go (inl same) more = first same
    go (inr later) more = (option_laws slot_laws).transitive (Some slot) (get (state_in xs) e) (get joined e) (more later) (state_laws.above_right (one_key x.0 x.1) (state_in xs) e)

-- ---- whether a slot moved since
pub same_or_other : {G : Type 0} (a b : ℕ) → (a ≡ b → G) → ((a ≡ b → ⊥) → G) → G
same_or_other {G} a b same other = go (nat_eq a b) refl
  where
    go : (t : Bool) → nat_eq a b ≡ t → G
    go true h = same (eqb-true a b h)
    go false h = other (λ e. let is = eq-eqb a b e in cc)

pub since_or_not : {G : Type 0} (count : Count) (since : ℕ) (e : List ℕ) → (IsSince count since e → G) → ((IsSince count since e → ⊥) → G) → G
since_or_not {G} count since e moved stayed = same_or_other count.change LAST (λ last. moved (inl last)) (λ before. go (get count.numbers e) refl before)
  where
    some_number : (a b : ℕ) → ◌≡◌ {A = Option ℕ} (Some a) (Some b) → a ≡ b
    some_number a b h = cc

    no_number : (b : ℕ) → ◌≡◌ {A = Option ℕ} None (Some b) → ⊥
    no_number b h = cc

    at_most : (k j : ℕ) → since ≡ k + j → get count.numbers e ≡ Some k → (count.change ≡ LAST → ⊥) → IsSince count since e → ⊥
    at_most k j is h before (inl last) = before last
    at_most k j is h before (inr x) = let same = some_number k x.0 (sym h ∙ x.1) in absurd (let less = x.2 in omega arith)

    absent : get count.numbers e ≡ None → (count.change ≡ LAST → ⊥) → IsSince count since e → ⊥
    absent h before (inl last) = before last
    absent h before (inr x) = no_number x.0 (sym h ∙ x.1)

    go : (o : Option ℕ) → get count.numbers e ≡ o → (count.change ≡ LAST → ⊥) → G
    go None h before = stayed (absent h before)
    go (Some k) h before = below_or_not since k (λ less. moved (inr (k, h, less))) (λ j is. stayed (at_most k j is h before))

-- ---- the law
pub some_below : (o : Option Slot) (slot : Slot) → IsSomeAnd o (slot_below slot) → option_below slot_below (Some slot) o
some_below None slot h = absurd h
some_below (Some s) slot h = h

pub deltas_bring : DeltasBringTheRest
deltas_bring node since slots state sent known =
    let whole = node.table.state in
    let joined = state_join state (state_in slots) in
    let each = option_laws slot_laws in
    state_laws.antisymmetric joined (state_join state whole)
    (state_laws.least state (state_in slots) (state_join state whole) (state_laws.above_left state whole)
    (state_laws.transitive (state_in slots) whole (state_join state whole) (slots_below slots whole (λ e slot there. ((sent.members e slot).0 there).0)) (state_laws.above_right state whole)))
    (state_laws.least state whole joined (state_laws.above_left state (state_in slots)) (λ e. has e (get whole e) refl))
  where
    has : (e : List ℕ) (o : Option Slot) → get node.table.state e ≡ o → option_below slot_below o (get (state_join state (state_in slots)) e)
    has e None h = tt
    has e (Some slot) h =
        since_or_not node.table.count since e
        (λ moved. (option_laws slot_laws).transitive (Some slot) (get (state_in slots) e) (get (state_join state (state_in slots)) e) (member_below slots e slot ((sent.members e slot).1 (h, moved))) (state_laws.above_right state (state_in slots) e))
        (λ stayed. (option_laws slot_laws).transitive (Some slot) (get state e) (get (state_join state (state_in slots)) e) (some_below (get state e) slot (known e slot h stayed)) (state_laws.above_left state (state_in slots) e))
