-- The state of operations: of one more, of two lists, of those about some endpoints; and the state of a delta's slots.
use Rattle.std.proofs.Common.{◌≡◌, ℕ, Bool, ◌||◌, true, false, cond, List, [], ◌∷◌, ◌++◌, Option, Some, None, sym, refl, ap, ◌∙◌, append_assoc}
use Rattle.std.specs.Prelude.{Contains}
use Rattle.std.specs.FinMap.{get, get-empty}
use Rattle.std.specs.Ordering.{eq_by_cmp}
use Rattle.std.proofs.lemmas.Map.Views.{tells_apart}
use Rattle.lw_stamp.specs.TextOrder.{text_cmp}
use Rattle.lw_join.specs.Maps.{one_key}
use Rattle.lw_join.specs.Options.{option_join}
use Rattle.lw_join.proofs.MapLemmas.{get-one_key, get-map_join, maps_alike}
use Rattle.lw_reg.specs.declared.op.Op.{Op}
use Rattle.lw_reg.specs.declared.slot.Slot.{Slot}
use Rattle.lw_reg.specs.Marks.{marks_of, all_marks}
use Rattle.lw_reg.specs.OrderLaws.{text_order}
use Rattle.lw_reg.specs.Slot.{slot_join, slot_of}
use Rattle.lw_reg.specs.SlotLaws.{slot_laws}
use Rattle.lw_reg.specs.State.{State, state_join, state_of}
use Rattle.lw_reg.proofs.Members.{first_there, more_there}
use Rattle.lw_reg.proofs.Operations.{marks_state}
use Rattle.lw_reg.proofs.States.{state_least, state_is, state_union}
use Rattle.lw_node.specs.Exchange.{state_in}
use Rattle.lw_world.specs.Known.{known_state, is_among, about, names_of}

-- ---- one more operation, and more of them
pub known_more : (o : Op) (os : List Op) → known_state (o ∷ os) ≡ state_join (state_of (marks_of o)) (known_state os)
known_more o os = sym (state_is (marks_of o ++ all_marks os) _ (state_union (marks_of o) (all_marks os) _ _ (state_least (marks_of o)) (state_least (all_marks os))))

marks_append : (os ps : List Op) → all_marks (os ++ ps) ≡ all_marks os ++ all_marks ps
marks_append [] ps = refl
marks_append (o ∷ os) ps = ap (λ x. marks_of o ++ x) (marks_append os ps) ∙ sym (append_assoc (marks_of o) (all_marks os) (all_marks ps))

pub known_append : (os ps : List Op) → known_state (os ++ ps) ≡ state_join (known_state os) (known_state ps)
known_append os ps =
    ap state_of (marks_append os ps)
    ∙ sym (state_is (all_marks os ++ all_marks ps) _ (state_union (all_marks os) (all_marks ps) _ _ (state_least (all_marks os)) (state_least (all_marks ps))))

-- ---- one endpoint, or another
by_key : {G : Type 0} (k q : List ℕ) → (q ≡ k → G) → (((x : Slot) → get (one_key {R = text_cmp} k x) q ≡ None) → G) → G
by_key {G} k q here other = go (eq_by_cmp text_cmp q k) refl
  where
    go : (b : Bool) → eq_by_cmp text_cmp q k ≡ b → G
    go true e = here (tells_apart text_order.exact q k e)
    go false e = other (λ x. get-one_key text_order k x q ∙ ap (λ b. cond b (Some x) None) e)

nothing_either : (b : Bool) → ◌≡◌ {A = Option Slot} None (cond b None None)
nothing_either true = refl
nothing_either false = refl

-- what the state has at an endpoint after one more operation
one_more : (o : Op) (os : List Op) (e : List ℕ) → get (known_state (o ∷ os)) e ≡ option_join slot_join (get (one_key {R = text_cmp} o.endpoint (slot_of o)) e) (get (known_state os) e)
one_more o os e =
    ap (λ (s : State). get s e) (known_more o os ∙ ap (λ (s : State). state_join s (known_state os)) (sym (state_is (marks_of o) _ (marks_state o))))
    ∙ get-map_join text_order slot_join (one_key o.endpoint (slot_of o)) (known_state os) e

-- ---- the operations about some endpoints
pub known_about : (es : List (List ℕ)) (os : List Op) (e : List ℕ) → get (known_state (about es os)) e ≡ cond (is_among es e) (get (known_state os) e) None
known_about es [] e = get-empty text_cmp e ∙ nothing_either (is_among es e) ∙ ap (λ x. cond (is_among es e) x None) (sym (get-empty text_cmp e))
known_about es (o ∷ os) e = go (is_among es o.endpoint) refl (known_about es os e)
  where
    -- the operation is about another endpoint
    apart : ((x : Slot) → get (one_key {R = text_cmp} o.endpoint x) e ≡ None) → (ps : List Op) → get (known_state (o ∷ ps)) e ≡ get (known_state ps) e
    apart none ps = one_more o ps e ∙ ap (λ x. option_join slot_join x (get (known_state ps) e)) (none (slot_of o))

    go : (b : Bool) → is_among es o.endpoint ≡ b → get (known_state (about es os)) e ≡ cond (is_among es e) (get (known_state os) e) None
        → get (known_state (cond b (o ∷ about es os) (about es os))) e ≡ cond (is_among es e) (get (known_state (o ∷ os)) e) None
    go true c ih = by_key o.endpoint e
        (λ same. let among : is_among es e ≡ true = ap (is_among es) same ∙ c in
        one_more o (about es os) e ∙ ap (option_join slot_join (get (one_key {R = text_cmp} o.endpoint (slot_of o)) e)) (ih ∙ ap (λ b. cond b (get (known_state os) e) None) among)
        ∙ sym (one_more o os e) ∙ sym (ap (λ b. cond b (get (known_state (o ∷ os)) e) None) among))
        (λ none. apart none (about es os) ∙ ih ∙ ap (λ x. cond (is_among es e) x None) (sym (apart none os)))
    go false c ih = by_key o.endpoint e
        (λ same. let among : is_among es e ≡ false = ap (is_among es) same ∙ c in
        ih ∙ ap (λ b. cond b (get (known_state os) e) None) among ∙ sym (ap (λ b. cond b (get (known_state (o ∷ os)) e) None) among))
        (λ none. ih ∙ ap (λ x. cond (is_among es e) x None) (sym (apart none os)))

-- ---- the slots of a delta, each as the state has it
pub state_in_at : (slots : List (List ℕ × Slot)) (s : State) → ((e : List ℕ) (slot : Slot) → Contains slots (e, slot) → get s e ≡ Some slot)
    → (e : List ℕ) → get (state_in slots) e ≡ cond (is_among (names_of slots) e) (get s e) None
state_in_at [] s at e = get-empty text_cmp e
state_in_at (x ∷ xs) s at e =
    get-map_join text_order slot_join (one_key x.0 x.1) (state_in xs) e
    ∙ (λ i. option_join slot_join (get-one_key text_order x.0 x.1 e i) (state_in_at xs s (λ k slot there. at k slot (more_there x xs (k, slot) there)) e i))
    ∙ go (eq_by_cmp text_cmp e x.0) refl (is_among (names_of xs) e)
  where
    own : e ≡ x.0 → get s e ≡ Some x.1
    own same = ap (get s) same ∙ at x.0 x.1 (first_there x xs x refl)

    twice : (slot : Slot) → slot_join slot slot ≡ slot
    twice slot = slot_laws.antisymmetric (slot_join slot slot) slot (slot_laws.least slot slot slot (slot_laws.reflexive slot) (slot_laws.reflexive slot)) (slot_laws.above_left slot slot)

    with_own : (c : Bool) → get s e ≡ Some x.1 → option_join slot_join (Some x.1) (cond c (get s e) None) ≡ get s e
    with_own true h = ap (option_join slot_join (Some x.1)) h ∙ ap Some (twice x.1) ∙ sym h
    with_own false h = sym h

    nothing_first : (o : Option Slot) → option_join slot_join None o ≡ o
    nothing_first None = refl
    nothing_first (Some slot) = refl

    go : (b : Bool) → eq_by_cmp text_cmp e x.0 ≡ b → (c : Bool) → option_join slot_join (cond b (Some x.1) None) (cond c (get s e) None) ≡ cond (b || c) (get s e) None
    go true same c = with_own c (own (tells_apart text_order.exact e x.0 same))
    go false same c = nothing_first (cond c (get s e) None)

-- what the slots of a delta tell is what the operations about its endpoints do
pub slots_tell : (slots : List (List ℕ × Slot)) (os : List Op) → ((e : List ℕ) (slot : Slot) → Contains slots (e, slot) → get (known_state os) e ≡ Some slot)
    → state_in slots ≡ known_state (about (names_of slots) os)
slots_tell slots os at = maps_alike text_order (state_in slots) (known_state (about (names_of slots) os)) (λ e. state_in_at slots (known_state os) at e ∙ sym (known_about (names_of slots) os e))
