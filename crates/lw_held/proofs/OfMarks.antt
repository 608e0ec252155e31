-- Each node is one that knows just some marks, which name each registration that they are about.
use Rattle.std.proofs.Common.{◌≡◌, ℕ, Bool, true, false, List, [], ◌∷◌, ◌||◌, Option, Some, None, refl, sym, ap, ◌∙◌, subst}
use Rattle.std.specs.Prelude.{Contains, is_some}
use Rattle.std.specs.FinMap.{get, keys, contains_key-keys}
use Rattle.std.specs.List.{list_any}
use Rattle.std.specs.Ordering.{eq_by_cmp}
use Rattle.std.proofs.lemmas.Map.Views.{tells_apart}
use Rattle.lw_stamp.specs.TextOrder.{text_cmp}
use Rattle.lw_join.specs.Options.{option_below}
use Rattle.lw_reg.specs.OrderLaws.{text_order}
use Rattle.lw_reg.specs.declared.slot.Slot.{Slot}
use Rattle.lw_reg.specs.Slot.{slot_below}
use Rattle.lw_reg.specs.State.{State, state_below, state_of}
use Rattle.lw_reg.proofs.Members.{first_there, more_there}
use Rattle.lw_reg.proofs.States.{state_laws}
use Rattle.lw_table.specs.inner.Since.{slots_at}
use Rattle.lw_table.proofs.SinceLemmas.{slots_are}
use Rattle.lw_node.specs.Exchange.{state_in}
use Rattle.lw_node.proofs.RestLemmas.{slots_below, member_below}
use Rattle.lw_node.proofs.Shown.{marks_shown, shown_names, shown_state}
use Rattle.lw_held.specs.Marked.{NodesAreOfMarks}

-- ---- the slots of a state
any_there : (ks : List (List ℕ)) (e : List ℕ) → list_any (eq_by_cmp text_cmp e) ks ≡ true → Contains ks e
any_there [] e h = absurd (cc)
any_there (k ∷ ks) e h = go (eq_by_cmp text_cmp e k) refl h (any_there ks e)
  where
    go : (b : Bool) → eq_by_cmp text_cmp e k ≡ b → list_any (eq_by_cmp text_cmp e) (k ∷ ks) ≡ true → (list_any (eq_by_cmp text_cmp e) ks ≡ true → Contains ks e) → Contains (k ∷ ks) e
    go true same found later = first_there k ks e (tells_apart text_order.exact e k same)
    go false other found later = more_there k ks e (later (subst (λ (b : Bool). (b || list_any (eq_by_cmp text_cmp e) ks) ≡ true) other found))

key_there : (s : State) (e : List ℕ) (slot : Slot) → get s e ≡ Some slot → Contains (keys s) e
key_there s e slot h = any_there (keys s) e (sym (contains_key-keys s e) ∙ ap is_some h)

abbrev all_slots : State → List (List ℕ × Slot)
all_slots s = slots_at s (keys s)

state_is : (s : State) → state_in (all_slots s) ≡ s
state_is s = state_laws.antisymmetric (state_in (all_slots s)) s below above
  where
    below : state_below (state_in (all_slots s)) s
    below = slots_below (all_slots s) s (λ e slot there. ((slots_are s (keys s) e slot).0 there).1)

    above : state_below s (state_in (all_slots s))
    above e = go (get s e) refl
      where
        go : (o : Option Slot) → get s e ≡ o → option_below slot_below o (get (state_in (all_slots s)) e)
        go None h = tt
        go (Some slot) h = member_below (all_slots s) e slot ((slots_are s (keys s) e slot).1 (key_there s e slot h, h))

pub nodes_are_of_marks : NodesAreOfMarks
nodes_are_of_marks node =
    let slots : List (List ℕ × Slot) = all_slots node.table.state in
    let state : node.table.state ≡ state_of (marks_shown slots) = sym (state_is node.table.state) ∙ shown_state slots in (
      record { number = node.number; clock = node.clock; marks = marks_shown slots; count = node.table.count },
      shown_names slots,
      λ i. record { number = node.number; clock = node.clock; table = record { state = state i; count = node.table.count } },
    )
