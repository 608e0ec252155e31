-- A state shows only marks of the sets that it tells of; so the clock of a node stays at or above the counters that
-- can be read from it.
use Rattle.std.proofs.Common.{ℕ, ◌+◌, ◌≤◌, List, [], ◌∷◌, ◌++◌, Option, Some, None, inl, inr, ◌⊎◌, sym, ap, subst, arith}
use Rattle.std.specs.FinMap.{get}
use Rattle.std.specs.Ordering.{nat_cmp}
use Rattle.lw_stamp.specs.declared.stamp.Stamp.{Stamp}
use Rattle.lw_stamp.specs.Order.{IsGreatest}
use Rattle.lw_stamp.specs.StampOrder.{stamp_cmp}
use Rattle.lw_stamp.specs.TextOrder.{text_cmp}
use Rattle.lw_join.specs.inner.Facets.{OptionTells, LastTells, Either}
use Rattle.lw_join.specs.Lww.{write_cmp}
use Rattle.lw_join.specs.declared.or_gone.OrGone.{OrGone}
use Rattle.lw_join.specs.declared.or_gone.OrGone.TheVariants.{Here, Gone}
use Rattle.lw_reg.specs.declared.body.Body.{Body}
use Rattle.lw_reg.specs.declared.op.Op.{Op}
use Rattle.lw_reg.specs.declared.op.What.{What}
use Rattle.lw_reg.specs.declared.op.What.TheVariants.{Register, Update, Remove, Observe, Cancel, Expire}
use Rattle.lw_reg.specs.declared.slot.Slot.{Slot}
use Rattle.lw_reg.specs.Marks.{Trace, Mark, written, attribute_traces, traces_of, marks_about, marks_of}
use Rattle.lw_reg.specs.Marks.Trace.{Named, Based, AddressAt, SeenAt, LifetimeAt, BindingAt, SmsAt, ObjectsAt, AttributeAt, EndedAt, Removed, Watched, Cancelled}
use Rattle.lw_reg.specs.Orders.{addr_cmp, base_cmp, binding_cmp, moment_cmp, sms_cmp}
use Rattle.lw_reg.specs.Reading.{BodyShows, Shows, shown_by_option, shown_in}
use Rattle.lw_reg.specs.Slot.{observed, cancelled}
use Rattle.lw_reg.specs.State.{State, state_join, state_of}
use Rattle.lw_reg.proofs.Same.{state_self, state_names}
use Rattle.lw_reg.proofs.Tells.{sign_trace, WatchTells, BodyTells, ToldTells, SlotTells, Tells, Holds, Pair, Closure, naming, mark_at, state_facet, closure_tells}
use Rattle.lw_node.specs.Within.{TraceWithin, MarkWithin, FitsClock, TokenWithin}
use Rattle.lw_node.specs.inner.Within.{IsNextOf}

-- ---- what is shown is of the set that is told of
body_trace : (P : Trace → Type 0) (b : Body) → BodyTells P b → (k : Trace) → BodyShows b k → P k
body_trace P b g Named h = g.named
body_trace P b g (Based v) h = (subst (OptionTells (IsGreatest base_cmp) (λ c. P (Based c))) h g.base).member
body_trace P b g (AddressAt s v) h = (subst (OptionTells (IsGreatest (write_cmp addr_cmp)) (λ w. P (AddressAt w.0 w.1))) h g.address).member
body_trace P b g (SeenAt s v) h = (subst (OptionTells (IsGreatest (write_cmp moment_cmp)) (λ w. P (SeenAt w.0 w.1))) h g.seen).member
body_trace P b g (LifetimeAt s v) h = (subst (OptionTells (IsGreatest (write_cmp nat_cmp)) (λ w. P (LifetimeAt w.0 w.1))) h g.lifetime).member
body_trace P b g (BindingAt s v) h = (subst (OptionTells (IsGreatest (write_cmp binding_cmp)) (λ w. P (BindingAt w.0 w.1))) h g.binding).member
body_trace P b g (SmsAt s v) h = (subst (OptionTells (IsGreatest (write_cmp sms_cmp)) (λ w. P (SmsAt w.0 w.1))) h g.sms).member
body_trace P b g (ObjectsAt s v) h = (subst (OptionTells (IsGreatest (write_cmp text_cmp)) (λ w. P (ObjectsAt w.0 w.1))) h g.objects).member
body_trace P b g (AttributeAt name s v) h = (subst (OptionTells (LastTells text_cmp) (λ w. P (AttributeAt name w.0 w.1))) h (g.attributes name)).member
body_trace P b g (EndedAt s) h = (subst (OptionTells (IsGreatest stamp_cmp) (λ t. P (EndedAt t))) h g.ended).member
body_trace P b g Removed h = absurd h
body_trace P b g (Watched p t a) h =
    let told : WatchTells (λ x. P (sign_trace p x.0 x.1)) (observed t a) = subst (OptionTells WatchTells (λ x. P (sign_trace p x.0 x.1))) h (g.watches p) in
    told.told.1.member
body_trace P b g (Cancelled p t) h =
    let told : WatchTells (λ x. P (sign_trace p x.0 x.1)) (cancelled t) = subst (OptionTells WatchTells (λ x. P (sign_trace p x.0 x.1))) h (g.watches p) in
    told.told

told_trace : (P : Trace → Type 0) (x : OrGone Body) → ToldTells P x → P Named → (k : Trace) → Shows x k → P k
told_trace P Gone g named k (inl e) = subst P (sym e) named
told_trace P Gone g named k (inr e) = subst P (sym e) g
told_trace P (Here b) g named k h = body_trace P b g.1 k h

-- a mark that a state shows is of each set that the state tells of, where that names what it is about
pub told_members : (P : List ℕ × (Stamp × Trace) → Type 0) → ((e : List ℕ) (r : Stamp) (k : Trace) → P (e, (r, k)) → P (e, (r, Named))) → (s : State) → Tells P s → (m : Mark) → shown_in s m → P (m.endpoint, (m.registration, m.trace))
told_members P names s g m h = go (get s m.endpoint) (g m.endpoint) h
  where
    go : (o : Option Slot) → OptionTells SlotTells (λ y. P (m.endpoint, y)) o → shown_by_option m.endpoint o m → P (m.endpoint, (m.registration, m.trace))
    go None t h = absurd h
    go (Some slot) t h =
        let r = slot.registration.stamp in
        let named : P (m.endpoint, (r, Named)) = names m.endpoint r t.key.member.0 t.key.member.1 in
        subst (λ (id : Stamp). P (m.endpoint, (id, m.trace))) (sym h.1) (told_trace (λ k. P (m.endpoint, (r, k))) slot.registration.value t.told named m.trace h.2)

-- a join shows only what one of both shows
pub join_members : (s t : State) (m : Mark) → shown_in (state_join s t) m → shown_in s m ⊎ shown_in t m
join_members s t = told_members (Either (Holds (shown_in s)) (Holds (shown_in t))) names (state_join s t) (state_facet.union (Holds (shown_in s)) (Holds (shown_in t)) s t (state_self s) (state_self t))
  where
    names : (e : List ℕ) (r : Stamp) (k : Trace) → Either (Holds (shown_in s)) (Holds (shown_in t)) (e, (r, k)) → Either (Holds (shown_in s)) (Holds (shown_in t)) (e, (r, Named))
    names e r k (inl h) = inl (state_names s e r k h)
    names e r k (inr h) = inr (state_names t e r k h)

-- ---- the clock
trace_more : (c d : ℕ) → c ≤ d → (k : Trace) → TraceWithin c k → TraceWithin d k
trace_more c d le Named h = tt
trace_more c d le (Based b) h = tt
trace_more c d le (AddressAt s v) h = omega arith
trace_more c d le (SeenAt s v) h = omega arith
trace_more c d le (LifetimeAt s v) h = omega arith
trace_more c d le (BindingAt s v) h = omega arith
trace_more c d le (SmsAt s v) h = omega arith
trace_more c d le (ObjectsAt s v) h = omega arith
trace_more c d le (AttributeAt name s v) h = omega arith
trace_more c d le (EndedAt s) h = omega arith
trace_more c d le Removed h = tt
trace_more c d le (Watched p t a) h = omega arith
trace_more c d le (Cancelled p t) h = omega arith

pub mark_more : (c d : ℕ) → c ≤ d → (m : Mark) → MarkWithin c m → MarkWithin d m
mark_more c d le m h = ((let a = h.0 in omega arith), trace_more c d le m.trace h.1)

-- a greater clock fits as well
pub fits_more : (c d : ℕ) (s : State) → c ≤ d → FitsClock c s → FitsClock d s
fits_more c d s le fits m h = mark_more c d le m (fits m h)

-- a clock that fits two states fits their join
pub fits_join : (c : ℕ) (s t : State) → FitsClock c s → FitsClock c t → FitsClock c (state_join s t)
fits_join c s t f g m h = go (join_members s t m h)
  where
    go : shown_in s m ⊎ shown_in t m → MarkWithin c m
    go (inl k) = f m k
    go (inr k) = g m k

-- ---- the marks of an operation
abbrev AllWithin : ℕ → List Mark → Type 0
AllWithin c [] = Unit {0}
AllWithin c (m ∷ ms) = MarkWithin c m × AllWithin c ms

abbrev TracesWithin : ℕ → List Trace → Type 0
TracesWithin c [] = Unit {0}
TracesWithin c (k ∷ ks) = TraceWithin c k × TracesWithin c ks

pair_named : (m : Mark) (e : List ℕ) (r : Stamp) (k : Trace) → Pair m (e, (r, k)) → Pair m (e, (r, Named))
pair_named m e r k (inl p) = inr (ap naming p)
pair_named m e r k (inr p) = inr (ap naming p)

closure_names : (ms : List Mark) (e : List ℕ) (r : Stamp) (k : Trace) → Closure ms (e, (r, k)) → Closure ms (e, (r, Named))
closure_names [] e r k h = h
closure_names (m ∷ ms) e r k (inl h) = inl (pair_named m e r k h)
closure_names (m ∷ ms) e r k (inr h) = inr (closure_names ms e r k h)

closure_within : (c : ℕ) (ms : List Mark) → AllWithin c ms → (x : List ℕ × (Stamp × Trace)) → Closure ms x → MarkWithin c (mark_at x)
closure_within c [] all x h = absurd h
closure_within c (m ∷ ms) all x (inl (inl p)) = subst (MarkWithin c) (sym p) all.0
closure_within c (m ∷ ms) all x (inl (inr p)) = subst (MarkWithin c) (sym p) (all.0.0, tt)
closure_within c (m ∷ ms) all x (inr h) = closure_within c ms all.1 x h

fits_marks : (c : ℕ) (ms : List Mark) → AllWithin c ms → FitsClock c (state_of ms)
fits_marks c ms all m h = closure_within c ms all (m.endpoint, (m.registration, m.trace)) (told_members (Closure ms) (closure_names ms) (state_of ms) (closure_tells ms) m h)

marks_within : (c : ℕ) (e : List ℕ) (r : Stamp) → r.counter ≤ c → (ks : List Trace) → TracesWithin c ks → AllWithin c (marks_about e r ks)
marks_within c e r le [] all = tt
marks_within c e r le (k ∷ ks) all = ((le, all.0), marks_within c e r le ks all.1)

append_within : (c : ℕ) (ks js : List Trace) → TracesWithin c ks → TracesWithin c js → TracesWithin c (ks ++ js)
append_within c [] js p q = q
append_within c (k ∷ ks) js p q = (p.0, append_within c ks js p.1 q)

written_within : {V : Type 0} (c : ℕ) (field : V → Trace) → ((v : V) → TraceWithin c (field v)) → (o : Option V) → TracesWithin c (written field o)
written_within c field each None = tt
written_within c field each (Some v) = (each v, tt)

attributes_within : (c : ℕ) (s : Stamp) (attributes : List (List ℕ × List ℕ)) → s.counter ≤ c → TracesWithin c (attribute_traces s attributes)
attributes_within c s [] le = tt
attributes_within c s (a ∷ attributes) le = (le, attributes_within c s attributes le)

traces_within : (c : ℕ) (s : Stamp) (w : What) → s.counter ≤ c → TokenWithin c w → TracesWithin c (traces_of s w)
traces_within c s (Register version queue address seen settings) le token = (tt, (le, (le, (le, (le, (le, (le, attributes_within c s settings.attributes le)))))))
traces_within c s (Update address seen settings) le token =
    let fields : TracesWithin c (written (LifetimeAt s) settings.lifetime ++ written (BindingAt s) settings.binding ++ written (λ text. SmsAt s (Some text)) settings.sms ++ written (ObjectsAt s) settings.objects) =
    append_within c _ _ (append_within c _ _ (append_within c _ _ (written_within c (LifetimeAt s) (λ v. le) settings.lifetime) (written_within c (BindingAt s) (λ v. le) settings.binding)) (written_within c (λ text. SmsAt s (Some text)) (λ v. le) settings.sms)) (written_within c (ObjectsAt s) (λ v. le) settings.objects) in
    (le, (le, append_within c _ _ fields (attributes_within c s settings.attributes le)))
traces_within c s Remove le token = (tt, tt)
traces_within c s (Observe path accept) le token = (le, tt)
traces_within c s (Cancel path t) le token = (token, tt)
traces_within c s (Expire upto) le token = (token, tt)

token_more : (c d : ℕ) → c ≤ d → (w : What) → TokenWithin c w → TokenWithin d w
token_more c d le (Register version queue address seen settings) h = tt
token_more c d le (Update address seen settings) h = tt
token_more c d le Remove h = tt
token_more c d le (Observe path accept) h = tt
token_more c d le (Cancel path t) h = omega arith
token_more c d le (Expire upto) h = omega arith

-- the next clock fits the state of the next operation's marks
pub fits_op : (clock : ℕ) (op : Op) → IsNextOf clock op → FitsClock (clock + 1) (state_of (marks_of op))
fits_op clock op next =
    let stamp : op.stamp.counter ≤ clock + 1 = (let e = next.next in omega arith) in
    fits_marks (clock + 1) (marks_of op) (marks_within (clock + 1) op.endpoint op.reg next.registration (Named ∷ traces_of op.stamp op.what) (tt, traces_within (clock + 1) op.stamp op.what stamp (token_more clock (clock + 1) (omega arith) op.what next.token)))
