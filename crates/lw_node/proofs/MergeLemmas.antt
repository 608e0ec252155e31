-- What is merged: a delta's slots rise, its endpoints are names of clients, and the node that has them joined keeps
-- its invariant and is the least above both.
use Rattle.std.proofs.Common.{◌≡◌, ℕ, zero, suc, ◌<◌, ◌≤◌, ◌^◌, Bool, true, false, cond, List, [], ◌∷◌, length, take, Option, Some, None, Result, Ok, Err, refl, sym, ap, subst, arith}
use Rattle.std.specs.Prelude.{max, IsSome, IsOk}
use Rattle.std.specs.FinMap.{get, get-empty}
use Rattle.std.specs.List.{AllByRecursion}
use Rattle.std.specs.List.Sorted.{IsStrictlySortedBy}
use Rattle.std.specs.Ordering.{eq_by_cmp}
use Rattle.std.specs.declared.cmp.Ordering.TheVariants.{Less}
use Rattle.std.proofs.Math.Nat.{le-max_left, le-max_right, max-le}
use Rattle.std.proofs.lemmas.Map.Views.{tells_apart}
use Rattle.lw_stamp.specs.TextOrder.{text_cmp}
use Rattle.lw_join.specs.Maps.{one_key}
use Rattle.lw_join.specs.Options.{option_join}
use Rattle.lw_join.proofs.MapLemmas.{get-one_key}
use Rattle.lw_reg.specs.Endpoint.{IsEndpoint}
use Rattle.lw_reg.specs.OrderLaws.{text_order}
use Rattle.lw_reg.specs.declared.slot.Slot.{Slot}
use Rattle.lw_reg.specs.Slot.{slot_join}
use Rattle.lw_reg.specs.State.{State, state_join, state_below}
use Rattle.lw_reg.proofs.States.{state_laws}
use Rattle.lw_table.specs.Table.{TableContent}
use Rattle.lw_delta.specs.declared.fault.DeltaFault.{DeltaFault}
use Rattle.lw_delta.specs.Delta.{DeltaContent, IsSpelling}
use Rattle.lw_delta.specs.Writable.{AllFollow}
use Rattle.lw_delta.specs.Unread.{Unread, IsLeft}
use Rattle.lw_delta.proofs.Fitting.{spelled_fits}
use Rattle.lw_delta.proofs.Left.{one_left}
use Rattle.lw_call.specs.declared.merge_fault.MergeFault.{MergeFault}
use Rattle.lw_call.specs.declared.merge_fault.MergeFault.TheVariants.{Malformed, NoMemory}
use Rattle.lw_node.specs.Exchange.{state_in, Merged, Merges, IsLeastOfBoth}
use Rattle.lw_node.specs.inner.Exchange.{JoinedTo, JoinsSlots}
use Rattle.lw_node.specs.Node.{NodeContent, HasEndpoints}
use Rattle.lw_node.specs.Within.{FitsClock}
use Rattle.lw_node.proofs.Joining.{entry_cmp, get-joined}
use Rattle.lw_node.proofs.SlotStamps.{slots_fit}
use Rattle.lw_node.proofs.Within.{fits_join, fits_more}

-- ---- the slots of a delta
follow_above : (clock : ℕ) (a : List ℕ) (ss : List (List ℕ × Slot)) (x : List ℕ × Slot) → text_cmp x.0 a ≡ Less → AllFollow clock (Some a) ss → AllByRecursion (λ y. entry_cmp x y ≡ Less) ss
follow_above clock a [] x below h = tt
follow_above clock a (s ∷ ss) x below h =
    let here = text_order.total.trans x.0 a s.0 below h.0.above in
    (here, follow_above clock s.0 ss x here h.1)

follow_next : (clock : ℕ) (x : List ℕ × Slot) (ss : List (List ℕ × Slot)) → AllFollow clock (Some x.0) ss → AllByRecursion (λ y. entry_cmp x y ≡ Less) ss
follow_next clock x [] h = tt
follow_next clock x (s ∷ ss) h = (h.0.above, follow_above clock s.0 ss x h.0.above h.1)

pub follow_rise : (clock : ℕ) (after : Option (List ℕ)) (ss : List (List ℕ × Slot)) → AllFollow clock after ss → IsStrictlySortedBy entry_cmp ss
unfolding IsStrictlySortedBy
follow_rise clock after [] h = tt
follow_rise clock after (s ∷ ss) h = (follow_next clock s ss h.1, follow_rise clock (Some s.0) ss h.1)

pub spelled_rise : (bytes : List ℕ) (d : DeltaContent) → IsSpelling bytes d → IsStrictlySortedBy entry_cmp d.slots
spelled_rise bytes d h = follow_rise d.clock None d.slots (spelled_fits bytes d h).1

pub spelled_clock : (bytes : List ℕ) (d : DeltaContent) → IsSpelling bytes d → d.clock < 2 ^ 48
spelled_clock bytes d h = (spelled_fits bytes d h).0

-- the first slots follow as all do
pub follow_take : (clock : ℕ) (after : Option (List ℕ)) (n : ℕ) (ss : List (List ℕ × Slot)) → AllFollow clock after ss → AllFollow clock after (take n ss)
follow_take clock after zero ss h = tt
follow_take clock after (suc n) [] h = tt
follow_take clock after (suc n) (s ∷ ss) h = (h.0, follow_take clock (Some s.0) n ss h.1)

-- ---- endpoints
one_named : (e : List ℕ) (slot : Slot) → IsEndpoint e → HasEndpoints (one_key e slot)
one_named e slot named k there = go (eq_by_cmp text_cmp k e) refl (subst (λ (o : Option Slot). IsSome o) (get-one_key text_order e slot k) there)
  where
    go : (b : Bool) → eq_by_cmp text_cmp k e ≡ b → IsSome (cond b (Some slot) None) → IsEndpoint k
    go true same h = subst IsEndpoint (sym (tells_apart text_order.exact k e same)) named
    go false same h = absurd (let bad = h in cc)

pub join_named : (s t : State) → HasEndpoints s → HasEndpoints t → HasEndpoints (state_join s t)
join_named s t f g k there = go (get s k) (get t k) (f k) (g k) (subst (λ (o : Option Slot). IsSome o) (get-joined s t k) there)
  where
    go : (a b : Option Slot) → (IsSome a → IsEndpoint k) → (IsSome b → IsEndpoint k) → IsSome (option_join slot_join a b) → IsEndpoint k
    go None b p q h = q h
    go (Some a) b p q h = p refl

pub slots_named : (clock : ℕ) (after : Option (List ℕ)) (slots : List (List ℕ × Slot)) → AllFollow clock after slots → HasEndpoints (state_in slots)
slots_named clock after [] h k there = absurd (let bad = subst (λ (o : Option Slot). IsSome o) (get-empty text_cmp k) there in cc)
slots_named clock after (s ∷ ss) h k there = join_named (one_key s.0 s.1) (state_in ss) (one_named s.0 s.1 (record { some = h.0.some; most = h.0.most })) (slots_named clock (Some s.0) ss h.1) k there

-- ---- the invariant of a node
abbrev pub Fit : ℕ → State → Type 0
Fit clock state = HasEndpoints state × FitsClock clock state

pub joined_fit : (old clock : ℕ) (state : State) (slots : List (List ℕ × Slot)) → Fit old state → AllFollow clock None slots → Fit (max old clock) (state_join state (state_in slots))
joined_fit old clock state slots h follow = (
  join_named state (state_in slots) h.0 (slots_named clock None slots follow),
  fits_join (max old clock) state (state_in slots) (fits_more old (max old clock) state (le-max_left old clock) h.1) (fits_more clock (max old clock) (state_in slots) (le-max_right old clock) (slots_fit clock None slots follow)),
)

-- whether all slots are joined or the first
pub joins_fit : (old clock now : ℕ) (before after : TableContent) (slots : List (List ℕ × Slot)) (r : Result ℕ MergeFault) → now ≡ max old clock → JoinsSlots before slots r after → Fit old before.state → AllFollow clock None slots → Fit now after.state
joins_fit old clock now before after slots (Ok count) is h fit follow =
    subst (λ (c : ℕ). Fit c after.state) (sym is) (subst (λ (s : State). Fit (max old clock) s) (sym h.1.state) (joined_fit old clock before.state slots fit follow))
joins_fit old clock now before after slots (Err (NoMemory joined)) is h fit follow =
    subst (λ (c : ℕ). Fit c after.state) (sym is) (subst (λ (s : State). Fit (max old clock) s) (sym h.1.state) (joined_fit old clock before.state (take joined slots) fit (follow_take clock None joined slots follow)))
joins_fit old clock now before after slots (Err (Malformed fault)) is h fit follow = absurd h

-- ---- the least above both
pub least_of_both : (a b c : ℕ × State) → c.0 ≡ max a.0 b.0 → c.1 ≡ state_join a.1 b.1 → IsLeastOfBoth a b c
least_of_both a b c clock state = record {
  above_first = (subst (λ n. a.0 ≤ n) (sym clock) (le-max_left a.0 b.0), subst (λ (s : State). state_below a.1 s) (sym state) (state_laws.above_left a.1 b.1));
  above_second = (subst (λ n. b.0 ≤ n) (sym clock) (le-max_right a.0 b.0), subst (λ (s : State). state_below b.1 s) (sym state) (state_laws.above_right a.1 b.1));
  least = λ d f g. (subst (λ n. n ≤ d.0) (sym clock) (max-le f.0 g.0), subst (λ (s : State). state_below s d.1) (sym state) (state_laws.least a.1 b.1 d.1 f.1 g.1));
}

-- of slots that were all joined
pub joined_least : (old clock now : ℕ) (before after : TableContent) (slots : List (List ℕ × Slot)) (r : Result ℕ MergeFault) → now ≡ max old clock → JoinsSlots before slots r after → IsOk r → IsLeastOfBoth (old, before.state) (clock, state_in slots) (now, after.state)
joined_least old clock now before after slots (Ok count) is h ok = least_of_both (old, before.state) (clock, state_in slots) (now, after.state) is h.1.state
joined_least old clock now before after slots (Err f) is h ok = absurd (let bad = ok in cc)

-- ---- which outcome there is
pub never_malformed : (before after : TableContent) (slots : List (List ℕ × Slot)) (r : Result ℕ MergeFault) (fault : DeltaFault) → JoinsSlots before slots r after → r ≡ Err (Malformed fault) → ⊥
never_malformed before after slots r fault h is = subst (λ (x : Result ℕ MergeFault). JoinsSlots before slots x after) is h

-- no slots are joined in any case
pub none_is_ok : (before after : TableContent) (slots : List (List ℕ × Slot)) (r : Result ℕ MergeFault) → slots ≡ [] → JoinsSlots before slots r after → IsOk r
none_is_ok before after slots (Ok count) none h = refl
none_is_ok before after slots (Err (NoMemory joined)) none h = absurd (let long : length slots ≡ 0 = ap length none in let less = h.0 in omega arith)
none_is_ok before after slots (Err (Malformed fault)) none h = absurd h

pub same_fault : (f g : DeltaFault) → ◌≡◌ {A = Result ℕ MergeFault} (Err (Malformed f)) (Err (Malformed g)) → f ≡ g
same_fault f g h = ap of h
  where
    of : Result ℕ MergeFault → DeltaFault
    of (Ok n) = f
    of (Err (Malformed x)) = x
    of (Err (NoMemory n)) = f

-- ---- the outcome of a merge
-- the slots that were left are those of the delta
pub left_spelled : (bytes : List ℕ) (unread : Unread) → ((slots : List (List ℕ × Slot)) × IsLeft unread slots × IsSpelling bytes (record { clock = unread.clock; slots = slots })) → (ss : List (List ℕ × Slot)) → IsLeft unread ss → IsSpelling bytes (record { clock = unread.clock; slots = ss })
left_spelled bytes unread found ss left = subst (λ (slots : List (List ℕ × Slot)). IsSpelling bytes (record { clock = unread.clock; slots = slots })) (one_left unread found.0 ss found.1 left) found.2

merged : (old new : NodeContent) (clock : ℕ) (slots : List (List ℕ × Slot)) → new.number ≡ old.number → new.clock ≡ max old.clock clock → JoinedTo old.table slots new.table → Merged old clock slots new
merged old new clock slots number is h = record { number = number; clock_is = is; state = h.state; count = h.count }

pub merges_joined : (old new : NodeContent) (bytes : List ℕ) (clock : ℕ) (slots : List (List ℕ × Slot)) (r : Result ℕ MergeFault) → IsSpelling bytes (record { clock = clock; slots = slots })
    → new.number ≡ old.number → new.clock ≡ max old.clock clock → JoinsSlots old.table slots r new.table → Merges old bytes r new
merges_joined old new bytes clock slots (Ok count) spelled number is h = record { delta = record { clock = clock; slots = slots }; spelled = spelled; counted = h.0; merged = merged old new clock slots number is h.1 }
merges_joined old new bytes clock slots (Err (NoMemory joined)) spelled number is h = record { delta = record { clock = clock; slots = slots }; spelled = spelled; fewer = h.0; merged = merged old new clock (take joined slots) number is h.1 }
merges_joined old new bytes clock slots (Err (Malformed fault)) spelled number is h = absurd h
