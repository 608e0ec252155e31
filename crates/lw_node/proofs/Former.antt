-- A Register ends the registration that its endpoint had, and the observations under it.
use Rattle.std.proofs.Common.{◌≡◌, ◌⊎◌, inl, inr, ℕ, ◌+◌, ◌<◌, ◌≤◌, ◌||◌, Bool, true, false, List, [], ◌∷◌, ◌++◌, Option, Some, None, refl, sym, ap, subst, ◌∙◌, arith}
use Rattle.std.specs.Prelude.{Contains}
use Rattle.std.specs.Cmp.{nat_cmp_is}
use Rattle.std.specs.FinMap.{get}
use Rattle.std.specs.Ordering.{nat_cmp, ordering_then, is_gt}
use Rattle.std.specs.declared.cmp.Ordering.TheVariants.{Greater}
use Rattle.std.proofs.lemmas.Bool.{cases_order}
use Rattle.std.proofs.lemmas.List.Elements.{Contains-append_cases, Contains-append_left}
use Rattle.lw_stamp.specs.declared.stamp.Stamp.{Stamp}
use Rattle.lw_stamp.specs.Order.{AtMost}
use Rattle.lw_stamp.specs.StampOrder.{stamp_cmp}
use Rattle.lw_join.specs.inner.Facets.{OptionTells}
use Rattle.lw_join.specs.JoinLaws.{semilattice}
use Rattle.lw_reg.specs.declared.base.Base.{Base}
use Rattle.lw_reg.specs.declared.op.Op.{Op}
use Rattle.lw_reg.specs.declared.op.What.{What}
use Rattle.lw_reg.specs.declared.op.What.TheVariants.{Register, Update, Remove, Observe, Cancel, Expire}
use Rattle.lw_reg.specs.declared.path.Path.{Path}
use Rattle.lw_reg.specs.declared.settings.GivenSettings.{GivenSettings}
use Rattle.lw_reg.specs.declared.slot.Slot.{Slot}
use Rattle.lw_reg.specs.declared.watch.Watch.{Watch}
use Rattle.lw_reg.specs.Laws.{ShowTheSame}
use Rattle.lw_reg.specs.Marks.{Trace, Mark, Has, left_by, marks_about, marks_of, all_marks, attribute_traces, traces_of, written}
use Rattle.lw_reg.specs.Marks.Trace.{Named, Based, LifetimeAt, BindingAt, SmsAt, ObjectsAt, AttributeAt, Watched}
use Rattle.lw_reg.specs.Reading.{shown_in, stamp_of}
use Rattle.lw_reg.specs.Registration.{Registration}
use Rattle.lw_reg.specs.Showing.{IsComplete, IsLive}
use Rattle.lw_reg.specs.State.{IsStateOf, state_of}
use Rattle.lw_reg.proofs.Members.{none_there, first_there, more_there, there_or_first}
use Rattle.lw_reg.proofs.Operations.{all_names}
use Rattle.lw_reg.proofs.Same.{states_show_sets}
use Rattle.lw_reg.proofs.States.{state_laws, state_least, state_union}
use Rattle.lw_reg.proofs.Tells.{SlotTells}
use Rattle.lw_table.proofs.LookUpLemmas.{marks_tell}
use Rattle.lw_node.specs.Laws.{Follows, IsRegister, WellStamped, RegistersEndTheFormer}
use Rattle.lw_node.specs.Node.{NodeContent}
use Rattle.lw_node.proofs.ReadBack.{slot_within, named_shown}

-- ---- the marks of an operation
-- one of these passes the test
abbrev any : (Trace → Bool) → List Trace → Bool
any test [] = false
any test (k ∷ ks) = test k || any test ks

or_right : (b c : Bool) → c ≡ true → (b || c) ≡ true
or_right true c h = refl
or_right false c h = h

any_there : (test : Trace → Bool) (ks : List Trace) (k : Trace) → Contains ks k → test k ≡ true → any test ks ≡ true
any_there test [] k h e = none_there k h
any_there test (j ∷ ks) k h e = go (there_or_first j ks k h) (λ there. any_there test ks k there e)
  where
    go : (k ≡ j) ⊎ Contains ks k → (Contains ks k → any test ks ≡ true) → (test j || any test ks) ≡ true
    go (inl same) rest = ap (λ b. b || any test ks) (ap test (sym same) ∙ e)
    go (inr there) rest = or_right (test j) (any test ks) (rest there)

none_more : (test : Trace → Bool) (xs ys : List Trace) → any test xs ≡ false → any test ys ≡ false → any test (xs ++ ys) ≡ false
none_more test [] ys h g = g
none_more test (x ∷ xs) ys h g = go (test x) h (λ rest. none_more test xs ys rest g)
  where
    go : (b : Bool) → (b || any test xs) ≡ false → (any test xs ≡ false → any test (xs ++ ys) ≡ false) → (b || any test (xs ++ ys)) ≡ false
    go true k rest = absurd cc
    go false k rest = rest k

none_written : {V : Type 0} (test : Trace → Bool) (field : V → Trace) (o : Option V) → ((v : V) → test (field v) ≡ false) → any test (written field o) ≡ false
none_written test field None h = refl
none_written test field (Some v) h = ap (λ b. b || false) (h v)

abbrev is_base : Trace → Bool
is_base (Based base) = true
is_base _ = false

abbrev is_watch : Trace → Bool
is_watch (Watched path token accept) = true
is_watch _ = false

none_attributes : (test : Trace → Bool) (s : Stamp) (attributes : List (List ℕ × List ℕ)) → ((name v : List ℕ) → test (AttributeAt name s v) ≡ false) → any test (attribute_traces s attributes) ≡ false
none_attributes test s [] h = refl
none_attributes test s (a ∷ attributes) h = (λ i. h a.0 a.1 i || any test (attribute_traces s attributes)) ∙ none_attributes test s attributes h

-- an Update gives neither base nor watch
update_none : (test : Trace → Bool) (s : Stamp) (given : GivenSettings) → ((v : ℕ) → test (LifetimeAt s v) ≡ false) → ((v : _) → test (BindingAt s v) ≡ false) → ((v : Option (List ℕ)) → test (SmsAt s v) ≡ false) → ((v : List ℕ) → test (ObjectsAt s v) ≡ false) → ((name v : List ℕ) → test (AttributeAt name s v) ≡ false)
    → any test ((written (LifetimeAt s) given.lifetime ++ written (BindingAt s) given.binding ++ written (λ text. SmsAt s (Some text)) given.sms ++ written (ObjectsAt s) given.objects) ++ attribute_traces s given.attributes) ≡ false
update_none test s given l b m o a =
    none_more test _ _
    (none_more test _ _ (none_more test _ _ (none_more test _ _ (none_written test (LifetimeAt s) given.lifetime l) (none_written test (BindingAt s) given.binding b)) (none_written test (λ text. SmsAt s (Some text)) given.sms (λ text. m (Some text)))) (none_written test (ObjectsAt s) given.objects o))
    (none_attributes test s given.attributes a)

-- a base is given by a Register alone
based_by : (s : Stamp) (what : What) (base : Base) → Contains (Named ∷ traces_of s what) (Based base) → IsRegister what
based_by s (Register version queue address seen settings) base h = tt
based_by s (Update address seen settings) base h =
    absurd (let yes = any_there is_base (Named ∷ traces_of s (Update address seen settings)) (Based base) h refl in
    let no : any is_base (Named ∷ traces_of s (Update address seen settings)) ≡ false = update_none is_base s settings (λ v. refl) (λ v. refl) (λ v. refl) (λ v. refl) (λ name v. refl) in
    let bad : true ≡ false = sym yes ∙ no in cc)
based_by s Remove base h = absurd (let bad = any_there is_base (Named ∷ traces_of s Remove) (Based base) h refl in cc)
based_by s (Observe path accept) base h = absurd (let bad = any_there is_base (Named ∷ traces_of s (Observe path accept)) (Based base) h refl in cc)
based_by s (Cancel path token) base h = absurd (let bad = any_there is_base (Named ∷ traces_of s (Cancel path token)) (Based base) h refl in cc)
based_by s (Expire upto) base h = absurd (let bad = any_there is_base (Named ∷ traces_of s (Expire upto)) (Based base) h refl in cc)

abbrev token_of : Stamp → Trace → Stamp
token_of s (Watched path token accept) = token
token_of s _ = s

-- the token of a watch is the stamp of its operation, which is no Register
record IsWatching (s : Stamp) (what : What) (token : Stamp) : Type 0 where
  own : s ≡ token
  other : IsRegister what → ⊥

watched_by : (s : Stamp) (what : What) (path : Path) (token : Stamp) (accept : Option ℕ) → Contains (Named ∷ traces_of s what) (Watched path token accept) → IsWatching s what token
watched_by s (Register version queue address seen settings) path token accept h =
    absurd (let yes = any_there is_watch (Named ∷ traces_of s (Register version queue address seen settings)) (Watched path token accept) h refl in
    let no : any is_watch (Named ∷ traces_of s (Register version queue address seen settings)) ≡ false = none_attributes is_watch s settings.attributes (λ name v. refl) in
    let bad : true ≡ false = sym yes ∙ no in cc)
watched_by s (Update address seen settings) path token accept h =
    absurd (let yes = any_there is_watch (Named ∷ traces_of s (Update address seen settings)) (Watched path token accept) h refl in
    let no : any is_watch (Named ∷ traces_of s (Update address seen settings)) ≡ false = update_none is_watch s settings (λ v. refl) (λ v. refl) (λ v. refl) (λ v. refl) (λ name v. refl) in
    let bad : true ≡ false = sym yes ∙ no in cc)
watched_by s Remove path token accept h = absurd (let bad = any_there is_watch (Named ∷ traces_of s Remove) (Watched path token accept) h refl in cc)
watched_by s (Cancel p t) path token accept h = absurd (let bad = any_there is_watch (Named ∷ traces_of s (Cancel p t)) (Watched path token accept) h refl in cc)
watched_by s (Expire upto) path token accept h = absurd (let bad = any_there is_watch (Named ∷ traces_of s (Expire upto)) (Watched path token accept) h refl in cc)
watched_by s (Observe p a) path token accept h = go (there_or_first Named (Watched p s a ∷ []) (Watched path token accept) h)
  where
    go : (Watched path token accept ≡ Named) ⊎ Contains (Watched p s a ∷ []) (Watched path token accept) → IsWatching s (Observe p a) token
    go (inl e) = absurd cc
    go (inr there) = last (there_or_first (Watched p s a) [] (Watched path token accept) there)
      where
        last : (Watched path token accept ≡ Watched p s a) ⊎ Contains [] (Watched path token accept) → IsWatching s (Observe p a) token
        last (inl e) = record { own = sym (ap (token_of s) e); other = λ x. x }
        last (inr none) = none_there (Watched path token accept) none

-- a mark that operations leave, and the operation that leaves it
record LeftBy (os : List Op) (e : List ℕ) (r : Stamp) (k : Trace) : Type 0 where
  op : Op
  there : Contains os op
  endpoint : e ≡ op.endpoint
  registration : r ≡ op.reg
  trace : Contains (Named ∷ traces_of op.stamp op.what) k

abbrev mark : List ℕ → Stamp → Trace → Mark
mark e r k = record { endpoint = e; registration = r; trace = k }

about : (e f : List ℕ) (r s : Stamp) (k : Trace) (ks : List Trace) → Contains (marks_about f s ks) (mark e r k) → (e ≡ f) × (r ≡ s) × Contains ks k
about e f r s k [] h = none_there (mark e r k) h
about e f r s k (j ∷ ks) h = go (there_or_first (mark f s j) (marks_about f s ks) (mark e r k) h) (λ there. about e f r s k ks there)
  where
    go : (mark e r k ≡ mark f s j) ⊎ Contains (marks_about f s ks) (mark e r k) → (Contains (marks_about f s ks) (mark e r k) → (e ≡ f) × (r ≡ s) × Contains ks k) → (e ≡ f) × (r ≡ s) × Contains (j ∷ ks) k
    go (inl p) rest = (ap (λ (m : Mark). m.endpoint) p, ap (λ (m : Mark). m.registration) p, first_there j ks k (ap (λ (m : Mark). m.trace) p))
    go (inr there) rest = let x = rest there in (x.0, x.1, more_there j ks k x.2)

left_from : (os : List Op) (e : List ℕ) (r : Stamp) (k : Trace) → Has (left_by os) e r k → LeftBy os e r k
left_from [] e r k h = none_there (mark e r k) h
left_from (o ∷ os) e r k h = go (Contains-append_cases (marks_of o) (all_marks os) (mark e r k) h) (λ there. left_from os e r k there)
  where
    go : Contains (marks_of o) (mark e r k) ⊎ Contains (all_marks os) (mark e r k) → (Contains (all_marks os) (mark e r k) → LeftBy os e r k) → LeftBy (o ∷ os) e r k
    go (inl here) rest = let x = about e o.endpoint r o.reg k (Named ∷ traces_of o.stamp o.what) here in record { op = o; there = first_there o os o refl; endpoint = x.0; registration = x.1; trace = x.2 }
    go (inr more) rest = let x = rest more in record { op = x.op; there = more_there o os x.op x.there; endpoint = x.endpoint; registration = x.registration; trace = x.trace }

-- ---- stamps that are at most another
at_most_counter : (a b : Stamp) → AtMost stamp_cmp a b → a.counter ≤ b.counter
at_most_counter a b h = go (cases_order a.counter b.counter)
  where
    go : (a.counter ≡ b.counter) ⊎ ((a.counter < b.counter) ⊎ (b.counter < a.counter)) → a.counter ≤ b.counter
    go (inl e) = omega arith
    go (inr (inl lt)) = omega arith
    go (inr (inr gt)) = absurd (let above : is_gt (stamp_cmp a b) ≡ true = ap (λ o. is_gt (ordering_then o (nat_cmp a.node b.node))) (sym (nat_cmp_is a.counter b.counter Greater gt)) in let bad : true ≡ false = sym above ∙ h in cc)

-- ---- the law
module _ (os : List Op) (well : WellStamped os) (old new : NodeContent) (op : Op) (f : Follows old op new) (of : IsStateOf (all_marks os) old.table.state) (register : IsRegister op.what) (own : op.reg ≡ op.stamp) (former : Registration) (complete : IsComplete (left_by os) former) (same : former.endpoint ≡ op.endpoint) where
  new_of : IsStateOf (all_marks (op ∷ os)) new.table.state
  new_of =
      subst (IsStateOf (all_marks (op ∷ os))) ((semilattice state_laws).commutative (state_of (marks_of op)) old.table.state ∙ sym f.issued.state)
      (state_union (marks_of op) (all_marks os) (state_of (marks_of op)) old.table.state (state_least (marks_of op)) of)

  shows : ShowTheSame (left_by (op ∷ os)) (shown_in new.table.state)
  shows = states_show_sets (all_marks (op ∷ os)) (all_names (op ∷ os)) new.table.state new_of

  former_within : former.id.counter ≤ old.clock
  former_within = go (get old.table.state former.endpoint) refl (marks_tell (all_marks os) (all_names os) old.table.state of former.endpoint)
    where
      go : (o : Option Slot) → get old.table.state former.endpoint ≡ o → OptionTells SlotTells (λ y. Has (left_by os) former.endpoint y.0 y.1) o → former.id.counter ≤ old.clock
      go None h tells = absurd (tells (former.id, Named) complete.current.member)
      go (Some slot) h tells =
          let most = at_most_counter former.id (stamp_of slot) (tells.key.above former.id (Named, complete.current.member)) in
          let within = (slot_within old.clock old.table.state f.fits former.endpoint slot h Named (named_shown slot.registration.value)).0 in
          omega arith

  -- the operation that made the former registration
  maker : LeftBy os former.endpoint former.id (Based complete.base)
  maker = left_from os former.endpoint former.id (Based complete.base) complete.is_base.member

  made : (e : List ℕ) (r : Stamp) (base : Base) (l : LeftBy os e r (Based base)) → r ≡ l.op.stamp
  made e r base l = l.registration ∙ well.own l.op l.there (based_by l.op.stamp l.op.what base l.trace)

  later : op.stamp.counter ≡ old.clock + 1
  later = f.next

  named_there : (e : List ℕ) → e ≡ op.endpoint → Has (left_by (op ∷ os)) e op.stamp Named
  named_there e at =
      let back = sym own in
      Contains-append_left (marks_of op) (all_marks os) (mark e op.stamp Named) (first_there (mark op.endpoint op.reg Named) (marks_about op.endpoint op.reg (traces_of op.stamp op.what)) (mark e op.stamp Named) (λ i. mark (at i) (back i) Named))

  no_former : (r : Registration) → IsComplete (left_by (op ∷ os)) r → r.id ≡ former.id → ⊥
  no_former r c id = go (left_from (op ∷ os) r.endpoint r.id (Based c.base) c.is_base.member)
    where
      here : (l : LeftBy os r.endpoint r.id (Based c.base)) → ⊥
      here l =
          let one : l.op ≡ maker.op = well.one l.op maker.op l.there maker.there (sym (made r.endpoint r.id c.base l) ∙ id ∙ made former.endpoint former.id complete.base maker) in
          let at : r.endpoint ≡ op.endpoint = l.endpoint ∙ ap (λ (o : Op). o.endpoint) one ∙ sym maker.endpoint ∙ same in
          let most = at_most_counter op.stamp r.id (c.current.above op.stamp (named_there r.endpoint at)) in
          let within = former_within in
          let start = later in
          let ids : r.id.counter ≡ former.id.counter = ap (λ (s : Stamp). s.counter) id in
          omega arith

      go : LeftBy (op ∷ os) r.endpoint r.id (Based c.base) → ⊥
      go l = which (there_or_first op os l.op l.there)
        where
          which : (l.op ≡ op) ⊎ Contains os l.op → ⊥
          which (inl is) =
              let within = former_within in
              let start = later in
              let ids : former.id.counter ≡ op.stamp.counter = ap (λ (s : Stamp). s.counter) (sym id ∙ l.registration ∙ ap (λ (o : Op). o.reg) is ∙ own) in
              omega arith
          which (inr there) = here (record { op = l.op; there = there; endpoint = l.endpoint; registration = l.registration; trace = l.trace })

  no_watch : (path : Path) (token : Stamp) (accept : Option ℕ) → Has (left_by os) former.endpoint former.id (Watched path token accept) → (now : ℕ) (r : Registration) (w : Watch) → IsLive (left_by (op ∷ os)) now r w → w.token ≡ token → ⊥
  no_watch path token accept h now r w live is = go (left_from (op ∷ os) r.endpoint r.id (Watched w.path w.token w.accept) live.watched.member)
    where
      watcher : LeftBy os former.endpoint former.id (Watched path token accept)
      watcher = left_from os former.endpoint former.id (Watched path token accept) h

      here : (l : LeftBy os r.endpoint r.id (Watched w.path w.token w.accept)) → ⊥
      here l =
          let mine = watched_by l.op.stamp l.op.what w.path w.token w.accept l.trace in
          let theirs = watched_by watcher.op.stamp watcher.op.what path token accept watcher.trace in
          let one : l.op ≡ watcher.op = well.one l.op watcher.op l.there watcher.there (mine.own ∙ is ∙ sym theirs.own) in
          no_former r live.shown.registered.complete (l.registration ∙ ap (λ (o : Op). o.reg) one ∙ sym watcher.registration)

      go : LeftBy (op ∷ os) r.endpoint r.id (Watched w.path w.token w.accept) → ⊥
      go l = which (there_or_first op os l.op l.there)
        where
          which : (l.op ≡ op) ⊎ Contains os l.op → ⊥
          which (inl same_op) = (watched_by l.op.stamp l.op.what w.path w.token w.accept l.trace).other (subst (λ (o : Op). IsRegister o.what) (sym same_op) register)
          which (inr there) = here (record { op = l.op; there = there; endpoint = l.endpoint; registration = l.registration; trace = l.trace })

pub registers_end_the_former : RegistersEndTheFormer
registers_end_the_former os well old new op f of register own former complete same now = (
  λ r x. no_former os well old new op f of register own former complete same r ((s.shown now r).1 x.0).registered.complete x.1,
  λ path token accept h x t. (
      let found = (s.live now x.0.endpoint x.1).1 (x.0, refl, t.lives) in
      no_watch os well old new op f of register own former complete same path token accept h now found.0 x.1 found.2 t.token_is
      ),
)
  where
    s : ShowTheSame (left_by (op ∷ os)) (shown_in new.table.state)
    s = shows os well old new op f of register own former complete same
