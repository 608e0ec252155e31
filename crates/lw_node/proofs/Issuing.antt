-- What a node is after an operation was joined to its table.
use Rattle.std.proofs.Common.{◌≡◌, ◌∙◌, ℕ, ◌+◌, Bool, true, false, cond, List, Option, Some, None, refl, sym, ap, subst, arith}
use Rattle.std.specs.Prelude.{IsSome, max}
use Rattle.std.specs.FinMap.{empty, get, get-empty}
use Rattle.std.specs.Ordering.{eq_by_cmp}
use Rattle.std.proofs.Math.Nat.{max-eq_right}
use Rattle.std.proofs.lemmas.Map.Views.{tells_apart}
use Rattle.lw_stamp.specs.TextOrder.{text_cmp}
use Rattle.lw_join.specs.Maps.{one_key}
use Rattle.lw_join.specs.Options.{option_join}
use Rattle.lw_join.proofs.MapLemmas.{get-map_join, get-one_key}
use Rattle.lw_reg.specs.declared.op.Op.{Op}
use Rattle.lw_reg.specs.declared.slot.Slot.{Slot}
use Rattle.lw_reg.specs.Endpoint.{IsEndpoint}
use Rattle.lw_reg.specs.Marks.{Mark, marks_of}
use Rattle.lw_reg.specs.OrderLaws.{text_order}
use Rattle.lw_reg.specs.Reading.{shown_by_option}
use Rattle.lw_reg.specs.Slot.{slot_join, slot_of}
use Rattle.lw_reg.specs.State.{State, state_join, state_of}
use Rattle.lw_reg.proofs.Operations.{marks_state}
use Rattle.lw_reg.proofs.States.{state_is}
use Rattle.lw_node.specs.Node.{HasEndpoints}
use Rattle.lw_node.specs.Within.{FitsClock}
use Rattle.lw_node.specs.inner.Within.{IsNextOf}
use Rattle.lw_node.proofs.Within.{fits_more, fits_join, fits_op}

-- an endpoint's slot, joined to a state whose endpoints are names of clients
pub endpoints_join : (s : State) (e0 : List ℕ) (slot : Slot) → IsEndpoint e0 → HasEndpoints s → HasEndpoints (state_join s (one_key e0 slot))
endpoints_join s e0 slot named has e h = by_key (eq_by_cmp text_cmp e e0) refl (get s e) refl (subst (λ (o : Option Slot). IsSome o) (get-map_join text_order slot_join s (one_key e0 slot) e ∙ ap (option_join slot_join (get s e)) (get-one_key text_order e0 slot e)) h)
  where
    none : (o : Option Slot) → None ≡ o → ¬ IsSome o
    none None at some = cc
    none (Some x) at some = cc

    by_key : (b : Bool) → eq_by_cmp text_cmp e e0 ≡ b → (o : Option Slot) → get s e ≡ o → IsSome (option_join slot_join (get s e) (cond (eq_by_cmp text_cmp e e0) (Some slot) None)) → IsEndpoint e
    by_key true same o at some = subst IsEndpoint (sym (tells_apart text_order.exact e e0 same)) named
    by_key false same None at some = absurd (none _ (sym (λ i. option_join slot_join (at i) (cond (same i) (Some slot) None))) some)
    by_key false same (Some own) at some = has e (subst (λ (x : Option Slot). IsSome x) (sym at) refl)

-- the slot of an operation is the state of its marks
pub joined_marks : (s : State) (op : Op) → state_join s (one_key op.endpoint (slot_of op)) ≡ state_join s (state_of (marks_of op))
joined_marks s op = ap (state_join s) (state_is (marks_of op) (one_key op.endpoint (slot_of op)) (marks_state op))

pub next_clock : (c n : ℕ) → n ≡ c + 1 → max c n ≡ c + 1
next_clock c n e = max-eq_right {n = c} {m = n} (omega arith) ∙ e

-- the next clock fits a state that the next operation was joined to
pub fits_next : (c : ℕ) (s : State) (op : Op) → IsNextOf c op → FitsClock c s → FitsClock (c + 1) (state_join s (one_key op.endpoint (slot_of op)))
fits_next c s op next fits =
    subst (FitsClock (c + 1)) (sym (joined_marks s op)) (fits_join (c + 1) s (state_of (marks_of op)) (fits_more c (c + 1) s (omega arith) fits) (fits_op c op next))

-- what was joined is the slot of the operation
pub joined_slot : (s t : State) (op : Op) (e : List ℕ) (slot : Slot) → t ≡ state_join s (one_key e slot) → e ≡ op.endpoint → slot ≡ slot_of op → t ≡ state_join s (one_key op.endpoint (slot_of op))
joined_slot s t op e slot joined at is = joined ∙ (λ i. state_join s (one_key (at i) (is i)))

-- the state, the clock and the endpoint as they stand afterwards
pub still_node : (c d : ℕ) (s t : State) (op : Op) (n : ℕ) → IsNextOf c op → IsEndpoint op.endpoint → HasEndpoints s → FitsClock c s → t ≡ state_join s (one_key op.endpoint (slot_of op)) → d ≡ max c n → n ≡ op.stamp.counter → HasEndpoints t × FitsClock d t
still_node c d s t op n next named has fits joined raised is = (
  subst HasEndpoints (sym joined) (endpoints_join s op.endpoint (slot_of op) named has),
  subst (λ k. FitsClock k t) (sym (raised ∙ next_clock c n (is ∙ next.next))) (subst (FitsClock (c + 1)) (sym joined) (fits_next c s op next fits)),
)

-- of nothing no endpoint is known, and nothing is shown
pub none_known : (s : State) → s ≡ empty → (c : ℕ) → HasEndpoints s × FitsClock c s
none_known s none c = (
  λ e h. absurd (not_some (get s e) (at e) h),
  λ m h. absurd (not_shown m (get s m.endpoint) (at m.endpoint) h),
)
  where
    at : (e : List ℕ) → get s e ≡ None
    at e = ap (λ (t : State). get t e) none ∙ get-empty text_cmp e

    not_some : (o : Option Slot) → o ≡ None → ¬ IsSome o
    not_some None h some = cc
    not_some (Some x) h some = cc

    not_shown : (m : Mark) (o : Option Slot) → o ≡ None → ¬ shown_by_option m.endpoint o m
    not_shown m None h shown = shown
    not_shown m (Some x) h shown = cc
