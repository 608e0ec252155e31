-- What the look-ups find in a state is what each set of marks says that the state tells of.
use Rattle.std.proofs.Common.{◌≡◌, ℕ, Bool, true, false, cond, List, [], ◌∷◌, Option, Some, None, refl, sym, ap, subst, ◌∙◌}
use Rattle.std.specs.Prelude.{◌↔◌, Contains}
use Rattle.std.specs.FinMap.{get}
use Rattle.std.specs.List.Sorted.{IsStrictlySortedBy}
use Rattle.std.specs.Cmp.{tied_itself}
use Rattle.std.specs.Ordering.{is_eq, is_gt, is_lt, ordering_reverse, ordering_then}
use Rattle.std.specs.declared.cmp.Ordering.{Ordering}
use Rattle.std.specs.declared.cmp.Ordering.TheVariants.{Less, Equal, Greater}
use Rattle.lw_stamp.specs.declared.stamp.Stamp.{Stamp}
use Rattle.lw_stamp.specs.Order.{AtMost, IsGreatest}
use Rattle.lw_stamp.specs.StampOrder.{stamp_cmp}
use Rattle.lw_stamp.specs.TextOrder.{text_cmp}
use Rattle.lw_stamp.proofs.StampLemmas.{stamp_order}
use Rattle.lw_join.specs.Entries.{get as entry_of}
use Rattle.lw_join.specs.inner.Facets.{OptionTells}
use Rattle.lw_join.specs.GreaterLaws.{at_most_antisymm}
use Rattle.lw_join.specs.Lww.{write_cmp}
use Rattle.lw_join.specs.LwwLaws.{write_order}
use Rattle.lw_join.specs.Parts.{entries_of}
use Rattle.lw_join.specs.declared.once.Once.{Once}
use Rattle.lw_join.specs.declared.or_gone.OrGone.{OrGone}
use Rattle.lw_join.specs.declared.or_gone.OrGone.TheVariants.{Here, Gone}
use Rattle.lw_join.proofs.FacetLemmas.{greatest_one}
use Rattle.lw_reg.specs.declared.addr.Addr.{Addr}
use Rattle.lw_reg.specs.declared.base.Base.{Base}
use Rattle.lw_reg.specs.declared.binding.Binding.{Binding}
use Rattle.lw_reg.specs.declared.body.Body.{Body}
use Rattle.lw_reg.specs.declared.path.Path.{Path}
use Rattle.lw_reg.specs.declared.slot.Slot.{Slot}
use Rattle.lw_reg.specs.declared.watch.Watch.{Watch}
use Rattle.lw_stamp.specs.declared.moment.Moment.{Moment}
use Rattle.lw_reg.specs.Body.{Watching}
use Rattle.lw_reg.specs.Marks.{Trace, Mark, Marks, Has as HasMark, NamesAll, among}
use Rattle.lw_reg.specs.Marks.Trace.{Named, AddressAt}
use Rattle.lw_reg.specs.OrderLaws.{text_order, addr_order}
use Rattle.lw_reg.specs.Orders.{addr_cmp, path_cmp}
use Rattle.lw_reg.specs.Attribute.{values_of}
use Rattle.lw_reg.specs.Reading.{registration_of, registered_in, lasting, in_time, timely, view_in, is_late, stamp_of, address_of, IsRemoved, watch_of, token_then, tokens_in, watches_of, has_token, is_above, live_watch, shown_in}
use Rattle.lw_reg.specs.Registration.{Registration}
use Rattle.lw_reg.specs.Showing.{IsWrite, IsShown, IsExpired, IsLive, ShownOf, LivesOf, IsAbove, WatchWith, WatchAfter, IsFirstWatch}
use Rattle.lw_reg.specs.Slot.{slot_at, observed}
use Rattle.lw_reg.specs.State.{State, IsStateOf}
use Rattle.lw_reg.proofs.Contracts.{token_decides, above_decides, watches_rise}
use Rattle.lw_reg.proofs.FirstWatch.{HasWatch, one_watching}
use Rattle.lw_reg.proofs.Members.{first_there, more_there}
use Rattle.lw_reg.proofs.Readings.{one_current}
use Rattle.lw_reg.proofs.Same.{state_self, state_names}
use Rattle.lw_reg.proofs.ShownLemmas.{shown_reads, expired_reads, lives_reads, live_reads}
use Rattle.lw_reg.proofs.States.{state_is}
use Rattle.lw_reg.proofs.Tells.{SlotTells, Tells, Holds, ToldTells, state_tells}
use Rattle.lw_table.specs.declared.key.Key.{Key}
use Rattle.lw_table.specs.declared.key.Key.TheVariants.{Id, Address, Token}
use Rattle.lw_table.specs.Answers.{IsAfter, IsFirstAnswer, IsShownAfter, FirstAfter}
use Rattle.lw_table.specs.inner.Found.{view_with, both_of, stamp_of_write, view_at, watch_at, watch_with, holder_at, holder_with, expired_at, expired_with, named, if_after, first_of, LeastFound, view_cmp, watch_cmp, holder_cmp, holder_of, with_watch}
use Rattle.lw_table.specs.Keys.{OptionHasKey}
use Rattle.lw_table.specs.LookUps.{ById, IsHolder, ByAddress, HasToken, ByToken, WatchOfIdAfter, IsExpiredAfter, named_by, ExpiredAfter}
use Rattle.lw_due.specs.Due.{is_after}
use Rattle.lw_table.specs.Table.{IsKept}
use Rattle.lw_table.proofs.FirstLemmas.{IsFirstFit, first_fits, least_fits}

some_is : {A : Type 0} (v w : A) → Some v ≡ Some w → v ≡ w
some_is v w e = cc

both_some : {A B : Type 0} (a : Option A) (b : Option B) (x : A × B) → both_of a b ≡ Some x → (a ≡ Some x.0) × (b ≡ Some x.1)
both_some None b x h = absurd cc
both_some (Some a) None x h = absurd cc
both_some (Some a) (Some b) x h = let same = some_is (a, b) x h in (ap (λ w. Some w.0) same, ap (λ w. Some w.1) same)

-- ---- what is shown of a slot is what it keeps
parts_kept : (e : List ℕ) (r : Stamp) (ob : Option Base) (oa : Option (Stamp × Addr)) (os : Option (Stamp × Moment)) (ol : Option (Stamp × ℕ)) (oi : Option (Stamp × Binding)) (om : Option (Stamp × Option (List ℕ))) (oo : Option (Stamp × List ℕ)) (oc : List (List ℕ × List ℕ)) (v : Registration)
    → registration_of e r ob oa os ol oi om oo oc ≡ Some v → (r ≡ v.id) × ((at : Stamp) × (oa ≡ Some (at, v.address)))
parts_kept e r (Some b) (Some a) (Some s) (Some l) (Some i) (Some m) (Some o) oc v h =
    let same = some_is _ v h in
    (ap (λ (w : Registration). w.id) same, (a.0, ap (λ (w : Registration). Some (a.0, w.address)) same))
parts_kept e r _ _ _ _ _ _ _ _ v h = absurd cc

timely_is : (now : ℕ) (o : Option Registration) (v : Registration) → timely now o ≡ Some v → o ≡ Some v
timely_is now None v h = absurd cc
timely_is now (Some w) v h = go (in_time now w) h
  where
    go : (b : Bool) → cond b (Some w) None ≡ Some v → Some w ≡ Some v
    go true k = k
    go false k = absurd cc

pub record IsKeptAs (slot : Slot) (v : Registration) : Type 0 where
  pub id : stamp_of slot ≡ v.id
  pub kept : ¬ IsRemoved slot
  pub at : Stamp
  pub address : address_of slot ≡ Some (at, v.address)

pub registered_keeps : (e : List ℕ) (slot : Slot) (v : Registration) → registered_in e slot ≡ Some v → IsKeptAs slot v
registered_keeps e slot v = go slot.registration.stamp slot.registration.value
  where
    go : (r : Stamp) (x : OrGone Body) → registered_in e (slot_at r x) ≡ Some v → IsKeptAs (slot_at r x) v
    go r Gone h = absurd cc
    go r (Here b) h =
        let p = parts_kept e r b.base.value b.address.write (lasting b.ended.value b.seen.write) b.lifetime.write b.binding.write b.sms.write b.objects.write (values_of (entries_of b.maps.left)) v h in
        record { id = p.0; kept = λ gone. cc; at = p.1.0; address = p.1.1 }

pub view_keeps : (now : ℕ) (e : List ℕ) (slot : Slot) (v : Registration) → view_in now e slot ≡ Some v → IsKeptAs slot v
view_keeps now e slot v h = registered_keeps e slot v (timely_is now (registered_in e slot) v h)

-- the address of a slot is the write that counts
address_told : (P : Stamp × Trace → Type 0) (slot : Slot) → SlotTells P slot → (w : Stamp × Addr) → address_of slot ≡ Some w
    → IsGreatest (write_cmp addr_cmp) (λ v. P (stamp_of slot, AddressAt v.0 v.1)) w
address_told P slot told w = go slot.registration.value told.told
  where
    go : (x : OrGone Body) → ToldTells (λ k. P (slot.registration.stamp, k)) x → address_of (slot_at slot.registration.stamp x) ≡ Some w
        → IsGreatest (write_cmp addr_cmp) (λ v. P (slot.registration.stamp, AddressAt v.0 v.1)) w
    go Gone g h = absurd cc
    go (Here b) g h = subst (OptionTells (IsGreatest (write_cmp addr_cmp)) (λ v. P (slot.registration.stamp, AddressAt v.0 v.1))) h g.1.address

-- a watch that was not cancelled is among the tokens
has_watch_token : (es : List (Path × Watching)) (w : Watch) → HasWatch es w → Contains (tokens_in es) w.token
has_watch_token [] w h = absurd cc
has_watch_token (p ∷ ps) w h = go (is_eq (path_cmp w.path p.0)) h (has_watch_token ps w)
  where
    here : (t : Stamp) (x : OrGone (Once ℕ)) → ◌≡◌ {A = Option Watching} (Some (record { stamp = t; value = x })) (Some (observed w.token w.accept)) → Contains (token_then (watch_of (p.0, record { stamp = t; value = x })) (tokens_in ps)) w.token
    here t Gone h = absurd (let bad : ◌≡◌ {A = OrGone (Once ℕ)} Gone (Here (record { value = w.accept })) = (one_watching t w.token Gone (Here (record { value = w.accept })) h).1 in cc)
    here t (Here a) h = first_there t (tokens_in ps) w.token (sym (one_watching t w.token (Here a) (Here (record { value = w.accept })) h).0)

    later : (o : Option Watch) → Contains (tokens_in ps) w.token → Contains (token_then o (tokens_in ps)) w.token
    later None c = c
    later (Some v) c = more_there v.token (tokens_in ps) w.token c

    go : (b : Bool) → cond b (Some p.1) (entry_of path_cmp ps w.path) ≡ Some (observed w.token w.accept) → (HasWatch ps w → Contains (tokens_in ps) w.token) → Contains (tokens_in (p ∷ ps)) w.token
    go true h more = here p.1.stamp p.1.value h
    go false h more = later (watch_of p) (more h)

one_id : (o : Option Slot) (a b : Stamp) → OptionHasKey o (Id a) → OptionHasKey o (Id b) → a ≡ b
one_id None a b h k = absurd h
one_id (Some slot) a b h k = sym h.1 ∙ k.1

shown_id : (now : ℕ) (e : List ℕ) (o : Option Slot) (r : Registration) → view_with now e o ≡ Some r → OptionHasKey o (Id r.id)
shown_id now e None r h = absurd cc
shown_id now e (Some slot) r h = let k = view_keeps now e slot r h in (k.kept, k.id)

pub shown_kept : (now : ℕ) (e : List ℕ) (o : Option Slot) (r : Registration) → view_with now e o ≡ Some r → IsKept o
shown_kept now e None r h = absurd cc
shown_kept now e (Some slot) r h = (view_keeps now e slot r h).kept

pub after_test : (after : Option (List ℕ)) (e : List ℕ) → (is_after after e ≡ true) ↔ IsAfter after e
after_test None e = (λ h. tt, λ h. refl)
after_test (Some a) e = (less (text_cmp a e), λ h. ap is_lt h)
  where
    less : (r : Ordering) → is_lt r ≡ true → r ≡ Less
    less Less h = refl
    less Equal h = absurd cc
    less Greater h = absurd cc

if_after_some : {A : Type 0} (after : Option (List ℕ)) (f : List ℕ → Option A) (e : List ℕ) (a : A) → if_after after f e ≡ Some a → IsAfter after e × (f e ≡ Some a)
if_after_some after f e a = go (is_after after e) refl
  where
    go : (b : Bool) → is_after after e ≡ b → cond b (f e) None ≡ Some a → IsAfter after e × (f e ≡ Some a)
    go true above h = ((after_test after e).0 above, h)
    go false above h = absurd cc

some_if_after : {A : Type 0} (after : Option (List ℕ)) (f : List ℕ → Option A) (e : List ℕ) (o : Option A) → IsAfter after e → f e ≡ o → if_after after f e ≡ o
some_if_after after f e o above h = ap (λ b. cond b (f e) None) ((after_test after e).1 above) ∙ h

-- ---- a set that a state tells of
module _ (M : Marks) (names : NamesAll M) (state : State) (tells : Tells (Holds M) state) (now : ℕ) where
  slot_told : (e : List ℕ) (slot : Slot) → get state e ≡ Some slot → SlotTells (λ y. HasMark M e y.0 y.1) slot
  slot_told e slot h = subst (OptionTells SlotTells (λ y. HasMark M e y.0 y.1)) h (tells e)

  unnamed : (e : List ℕ) → get state e ≡ None → (r : Stamp) → HasMark M e r Named → ⊥
  unnamed e h r named = subst (OptionTells SlotTells (λ y. HasMark M e y.0 y.1)) h (tells e) (r, Named) named

  shown_named : (e : List ℕ) (r : Registration) → r.endpoint ≡ e → IsShown M now r → HasMark M e r.id Named
  shown_named e r same s = subst (λ k. HasMark M k r.id Named) same s.registered.complete.current.member

  -- what is shown of an endpoint
  pub view_reads : (e : List ℕ) (r : Registration) → (view_at now state e ≡ Some r) ↔ ((r.endpoint ≡ e) × IsShown M now r)
  view_reads e r = go (get state e) refl
    where
      go : (o : Option Slot) → get state e ≡ o → (view_with now e o ≡ Some r) ↔ ((r.endpoint ≡ e) × IsShown M now r)
      go None h = (λ found. absurd cc, λ s. absurd (unnamed e h r.id (shown_named e r s.0 s.1)))
      go (Some slot) h = shown_reads M e (names e) slot (slot_told e slot h) now r

  pub by_endpoint : (e : List ℕ) (o : Option Registration) → o ≡ view_at now state e → ShownOf M now e o
  by_endpoint e None h = λ r s. (let bad : None ≡ Some r = h ∙ (view_reads e r).1 s in cc)
  by_endpoint e (Some r) h = (view_reads e r).0 (sym h)

  abbrev At : Registration → List ℕ
  At r = r.endpoint

  -- ---- what has expired
  expired_reads_at : (e : List ℕ) (x : List ℕ × Stamp) → expired_at now state e ≡ Some x → (x.0 ≡ e) × ((r : Registration) × IsExpired M now r × (x ≡ named_by r))
  expired_reads_at e x = go (get state e) refl
    where
      late : (slot : Slot) → get state e ≡ Some slot → (b : Bool) → is_late now (registered_in [] slot) ≡ b → named e (cond b (Some (stamp_of slot)) None) ≡ Some x → (x.0 ≡ e) × ((r : Registration) × IsExpired M now r × (x ≡ named_by r))
      late slot h false is found = absurd cc
      late slot h true is found =
          let same : (e, stamp_of slot) ≡ x = some_is (e, stamp_of slot) x found in
          let told = slot_told e slot h in
          let expired = (expired_reads M e (names e) slot told now).0 is in
          let id : stamp_of slot ≡ expired.0.id = one_current M e (names e) (slot.registration.stamp, slot.registration.value) expired.0.id told (subst (λ k. IsGreatest stamp_cmp (λ s. HasMark M k s Named) expired.0.id) expired.1 expired.2.registered.complete.current) in
          (sym (ap (λ w. w.0) same), (expired.0, expired.2, sym same ∙ (λ i. (sym expired.1 i, id i))))

      go : (o : Option Slot) → get state e ≡ o → named e (expired_with now o) ≡ Some x → (x.0 ≡ e) × ((r : Registration) × IsExpired M now r × (x ≡ named_by r))
      go None h found = absurd cc
      go (Some slot) h found = late slot h (is_late now (registered_in [] slot)) refl found

  expired_found : (r : Registration) → IsExpired M now r → (x : List ℕ × Stamp) × (expired_at now state r.endpoint ≡ Some x)
  expired_found r expired = go (get state r.endpoint) refl
    where
      go : (o : Option Slot) → get state r.endpoint ≡ o → (x : List ℕ × Stamp) × (named r.endpoint (expired_with now o) ≡ Some x)
      go None h = absurd (unnamed r.endpoint h r.id expired.registered.complete.current.member)
      go (Some slot) h =
          let late = (expired_reads M r.endpoint (names r.endpoint) slot (slot_told r.endpoint slot h) now).1 (r, refl, expired) in
          ((r.endpoint, stamp_of slot), ap (λ b. named r.endpoint (cond b (Some (stamp_of slot)) None)) late)

  pub expired_none : ((e : List ℕ) → expired_at now state e ≡ None) → ExpiredAfter M now None None
  expired_none none = λ r fits. (let found = expired_found r fits.1 in let bad : None ≡ Some found.0 = sym (none r.endpoint) ∙ found.1 in cc)

  -- the least where one is found
  pub expired_first : (e : List ℕ) (id : Stamp) → expired_at now state e ≡ Some (e, id) → ((n : List ℕ) → text_cmp n e ≡ Less → expired_at now state n ≡ None) → ExpiredAfter M now None (Some (e, id))
  expired_first e id found less =
      let s = expired_reads_at e (e, id) found in
      (s.1.0, record { fits = (tt, s.1.1); first = λ other fits. subst (λ k. AtMost text_cmp k other.endpoint) (ap (λ w. w.0) s.1.2) (least other fits.1) }, s.1.2)
    where
      least : (other : Registration) → IsExpired M now other → AtMost text_cmp e other.endpoint
      least other expired = go (text_cmp e other.endpoint) refl
        where
          go : (o : Ordering) → text_cmp e other.endpoint ≡ o → is_gt o ≡ false
          go Less h = refl
          go Equal h = refl
          go Greater h =
              let none = less other.endpoint (text_order.total.antisymm other.endpoint e ∙ ap ordering_reverse h) in
              let there = expired_found other expired in
              absurd (let bad : None ≡ Some there.0 = sym none ∙ there.1 in cc)

  -- ---- the first above
  module _ (kept : List (List ℕ)) (rise : IsStrictlySortedBy text_cmp kept) (kept_are : (e : List ℕ) → Contains kept e ↔ IsKept (get state e)) (after : Option (List ℕ)) where
    pub first_after : (o : Option Registration) → o ≡ first_of (if_after after (view_at now state)) kept → FirstAfter M now after o
    first_after o is = go o (first_fits At Fits Fits (if_after after (view_at now state)) kept rise sound whole o is)
      where
        Fits : Registration → Type 0
        Fits = IsShownAfter M now after

        sound : (e : List ℕ) (r : Registration) → Contains kept e → if_after after (view_at now state) e ≡ Some r → (r.endpoint ≡ e) × Fits r
        sound e r c h =
            let p = if_after_some after (view_at now state) e r h in
            let s = (view_reads e r).0 p.1 in
            (s.0, (subst (IsAfter after) (sym s.0) p.0, s.1))

        whole : (r : Registration) → Fits r → Contains kept r.endpoint × ((b : Registration) × (if_after after (view_at now state) r.endpoint ≡ Some b))
        whole r fits =
            let found = (view_reads r.endpoint r).1 (refl, fits.1) in
            ((kept_are r.endpoint).1 (shown_kept now r.endpoint (get state r.endpoint) r found), (r, some_if_after after (view_at now state) r.endpoint (Some r) fits.0 found))

        go : (o : Option Registration) → IsFirstFit At Fits Fits o → IsFirstAnswer Fits o
        go None h = h
        go (Some r) h = record { fits = h.0; first = h.1 }

  module _ (due : List (List ℕ)) (rise : IsStrictlySortedBy text_cmp due) (due_are : (e : List ℕ) (x : List ℕ × Stamp) → expired_at now state e ≡ Some x → Contains due e) (after : Option (List ℕ)) where
    pub expired_after : (o : Option (List ℕ × Stamp)) → o ≡ first_of (if_after after (expired_at now state)) due → ExpiredAfter M now after o
    expired_after o is = go o (first_fits (λ x. x.0) Fits Fits (if_after after (expired_at now state)) due rise sound whole o is)
      where
        Fits : List ℕ × Stamp → Type 0
        Fits x = (r : Registration) × IsExpiredAfter M now after r × (x ≡ named_by r)

        sound : (e : List ℕ) (x : List ℕ × Stamp) → Contains due e → if_after after (expired_at now state) e ≡ Some x → (x.0 ≡ e) × Fits x
        sound e x c h =
            let p = if_after_some after (expired_at now state) e x h in
            let s = expired_reads_at e x p.1 in
            (s.0, (s.1.0, (subst (IsAfter after) (sym s.0 ∙ ap (λ w. w.0) s.1.2) p.0, s.1.1), s.1.2))

        whole_of : (r : Registration) → IsExpiredAfter M now after r → Contains due r.endpoint × ((b : List ℕ × Stamp) × (if_after after (expired_at now state) r.endpoint ≡ Some b))
        whole_of r fits =
            let found = expired_found r fits.1 in
            (due_are r.endpoint found.0 found.1, (found.0, some_if_after after (expired_at now state) r.endpoint (Some found.0) fits.0 found.1))

        whole : (x : List ℕ × Stamp) → Fits x → Contains due x.0 × ((b : List ℕ × Stamp) × (if_after after (expired_at now state) x.0 ≡ Some b))
        whole x fits = subst (λ k. Contains due k × ((b : List ℕ × Stamp) × (if_after after (expired_at now state) k ≡ Some b))) (sym (ap (λ w. w.0) fits.2)) (whole_of fits.0 fits.1)

        go : (o : Option (List ℕ × Stamp)) → IsFirstFit (λ x. x.0) Fits Fits o → ExpiredAfter M now after o
        go None h = λ r fits. h (named_by r) (r, fits, refl)
        go (Some x) h = (h.0.0, record { fits = h.0.1; first = λ other fits. subst (λ k. AtMost text_cmp k other.endpoint) (ap (λ w. w.0) h.0.2) (h.1 (named_by other) (other, fits, refl)) }, h.0.2)

  -- ---- by key
  module _ (D : Key → List ℕ → Type 0) (keys_are : (k : Key) (e : List ℕ) → D k e ↔ OptionHasKey (get state e) k) where
    pub by_id : (id : Stamp) (o : Option Registration) → LeastFound view_cmp (view_at now state) (D (Id id)) o → ById M now id o
    by_id id o is = go o (least_fits At Fits Fits (view_at now state) (D (Id id)) sound whole o is)
      where
        Fits : Registration → Type 0
        Fits r = IsShown M now r × (r.id ≡ id)

        sound : (e : List ℕ) (r : Registration) → D (Id id) e → view_at now state e ≡ Some r → (r.endpoint ≡ e) × Fits r
        sound e r c found =
            let s = (view_reads e r).0 found in
            (s.0, (s.1, one_id (get state e) r.id id (shown_id now e (get state e) r found) ((keys_are (Id id) e).0 c)))

        whole : (r : Registration) → Fits r → D (Id id) r.endpoint × ((b : Registration) × (view_at now state r.endpoint ≡ Some b))
        whole r fits =
            let found = (view_reads r.endpoint r).1 (refl, fits.0) in
            ((keys_are (Id id) r.endpoint).1 (subst (λ k. OptionHasKey (get state r.endpoint) (Id k)) fits.1 (shown_id now r.endpoint (get state r.endpoint) r found)), (r, found))

        go : (o : Option Registration) → IsFirstFit At Fits Fits o → ById M now id o
        go None h = h
        go (Some r) h = record { fits = h.0; first = h.1 }

    -- ---- by token
    module _ (token : Stamp) where
      abbrev Seen : List ℕ → Option (Registration × Watch)
      Seen = watch_at (has_token token) now state

      live_at : (e : List ℕ) (slot : Slot) → get state e ≡ Some slot → WatchWith M now e token (live_watch (has_token token) now slot)
      live_at e slot h = live_reads M e (names e) slot (slot_told e slot h) now (has_token token) (λ w. w.token ≡ token) (token_decides slot now token) (watches_rise slot now)

      -- what is found with the token, and that its path is the least
      abbrev Best : Registration × Watch → Type 0
      Best x = HasToken M now token x × ((w : Watch) → HasToken M now token (x.0, w) → AtMost path_cmp x.1.path w.path)

      seen_sound : (e : List ℕ) (x : Registration × Watch) → Seen e ≡ Some x → (x.0.endpoint ≡ e) × Best x
      seen_sound e x = go (get state e) refl
        where
          go : (o : Option Slot) → get state e ≡ o → watch_with (has_token token) now e o ≡ Some x → (x.0.endpoint ≡ e) × Best x
          go None h found = absurd cc
          go (Some slot) h found =
              let p = both_some (view_in now e slot) (live_watch (has_token token) now slot) x found in
              let shown = (view_reads e x.0).0 (ap (view_with now e) h ∙ p.0) in
              let first : IsFirstWatch M now e (λ w. w.token ≡ token) x.1 = subst (WatchWith M now e token) p.1 (live_at e slot h) in
              let same : first.lives.0 ≡ x.0 = some_is first.lives.0 x.0 (sym ((view_reads e first.lives.0).1 (first.lives.1, first.lives.2.shown)) ∙ ap (view_with now e) h ∙ p.0) in (
                shown.0,
                (
                  record { lives = subst (λ r. IsLive M now r x.1) same first.lives.2; token_is = first.fits },
                  λ w has. first.first w (x.0, shown.0, has.lives) has.token_is,
                ),
              )

      seen_whole : (y : Registration × Watch) → HasToken M now token y → D (Token token) y.0.endpoint × ((b : Registration × Watch) × (Seen y.0.endpoint ≡ Some b))
      seen_whole y has = go (get state y.0.endpoint) refl
        where
          e : List ℕ
          e = y.0.endpoint

          lives : LivesOf M now e y.1
          lives = (y.0, refl, has.lives)

          shown : view_at now state e ≡ Some y.0
          shown = (view_reads e y.0).1 (refl, has.lives.shown)

          watch : (slot : Slot) → get state e ≡ Some slot → (o : Option Watch) → WatchWith M now e token o → live_watch (has_token token) now slot ≡ o → (b : Registration × Watch) × (both_of (view_in now e slot) (live_watch (has_token token) now slot) ≡ Some b)
          watch slot h None none is = absurd (none y.1 lives has.token_is)
          watch slot h (Some w) first is = ((y.0, w), (λ i. both_of ((sym (ap (view_with now e) h) ∙ shown) i) (is i)))

          go : (o : Option Slot) → get state e ≡ o → D (Token token) e × ((b : Registration × Watch) × (Seen e ≡ Some b))
          go None h = absurd (unnamed e h y.0.id has.lives.shown.registered.complete.current.member)
          go (Some slot) h =
              let there = ((lives_reads M e (names e) slot (slot_told e slot h) now y.1).0 lives).1 in
              let key : OptionHasKey (get state e) (Token token) = subst (λ (o : Option Slot). OptionHasKey o (Token token)) (sym h) (subst (Contains (tokens_in (watches_of slot))) has.token_is (has_watch_token (watches_of slot) y.1 there)) in
              let found = watch slot h (live_watch (has_token token) now slot) (live_at e slot h) refl in
              ((keys_are (Token token) e).1 key, (found.0, ap (watch_with (has_token token) now e) h ∙ found.1))

      pub by_token : (o : Option (Registration × Watch)) → LeastFound watch_cmp Seen (D (Token token)) o → ByToken M now token o
      by_token o is = go o (least_fits (λ x. x.0.endpoint) (HasToken M now token) Best Seen (D (Token token)) (λ e x d found. seen_sound e x found) seen_whole o is)
        where
          go : (o : Option (Registration × Watch)) → IsFirstFit (λ x. x.0.endpoint) (HasToken M now token) Best o → ByToken M now token o
          go None h = h
          go (Some x) h = record { fits = h.0.0; first = h.1; first_path = h.0.1 }

    -- ---- by address
    module _ (address : Addr) where
      abbrev Holder : List ℕ → Option (Stamp × Registration)
      Holder = holder_at now state

      write_some : (o : Option (Stamp × Addr)) (at : Stamp) → stamp_of_write o ≡ Some at → (a : Addr) × (o ≡ Some (at, a))
      write_some None at h = absurd cc
      write_some (Some w) at h = (w.1, ap (λ s. Some (s, w.1)) (some_is w.0 at h))

      one_address : (o : Option (Stamp × Addr)) (s t : Stamp) (a b : Addr) → o ≡ Some (s, a) → o ≡ Some (t, b) → (s ≡ t) × (a ≡ b)
      one_address o s t a b h k = let same = some_is (s, a) (t, b) (sym h ∙ k) in (ap (λ w. w.0) same, ap (λ w. w.1) same)

      -- the write of the address of what a slot shows
      write_is : (e : List ℕ) (slot : Slot) → get state e ≡ Some slot → (r : Registration) → r.endpoint ≡ e → stamp_of slot ≡ r.id → (w : Stamp × Addr) → address_of slot ≡ Some w → IsWrite addr_cmp AddressAt M r.endpoint r.id w
      write_is e slot h r same id w is =
          subst (λ (x : List ℕ × Stamp). IsWrite addr_cmp AddressAt M x.0 x.1 w) (λ i. (sym same i, id i)) (address_told (λ y. HasMark M e y.0 y.1) slot (slot_told e slot h) w is)

      holder_sound : (e : List ℕ) (x : Stamp × Registration) → D (Address address) e → Holder e ≡ Some x → (x.1.endpoint ≡ e) × IsHolder M now address x.0 x.1
      holder_sound e x c = go (get state e) refl ((keys_are (Address address) e).0 c)
        where
          go : (o : Option Slot) → get state e ≡ o → OptionHasKey o (Address address) → holder_with now e o ≡ Some x → (x.1.endpoint ≡ e) × IsHolder M now address x.0 x.1
          go None h key found = absurd key
          go (Some slot) h key found =
              let p = both_some (stamp_of_write (address_of slot)) (view_in now e slot) x found in
              let shown = (view_reads e x.1).0 (ap (view_with now e) h ∙ p.1) in
              let keeps = view_keeps now e slot x.1 p.1 in
              let written = write_some (address_of slot) x.0 p.0 in
              let held = (one_address (address_of slot) keeps.at key.0 x.1.address address keeps.address key.1).1 in
              let at = (one_address (address_of slot) x.0 keeps.at written.0 x.1.address written.1 keeps.address).1 in (
                shown.0,
                record {
                  shown = shown.1;
                  held = held;
                  written = write_is e slot h x.1 shown.0 keeps.id (x.0, address) (written.1 ∙ ap (λ a. Some (x.0, a)) (at ∙ held));
                },
              )

      holder_whole : (s : Stamp) (r : Registration) → IsHolder M now address s r → D (Address address) r.endpoint × (Holder r.endpoint ≡ Some (s, r))
      holder_whole s r holds = go (get state r.endpoint) refl
        where
          e : List ℕ
          e = r.endpoint

          shown : view_at now state e ≡ Some r
          shown = (view_reads e r).1 (refl, holds.shown)

          go : (o : Option Slot) → get state e ≡ o → D (Address address) e × (Holder e ≡ Some (s, r))
          go None h = absurd (unnamed e h r.id holds.shown.registered.complete.current.member)
          go (Some slot) h =
              let view : view_in now e slot ≡ Some r = sym (ap (view_with now e) h) ∙ shown in
              let keeps = view_keeps now e slot r view in
              let is : address_of slot ≡ Some (keeps.at, address) = keeps.address ∙ ap (λ a. Some (keeps.at, a)) holds.held in
              let same : (keeps.at, address) ≡ (s, address) = greatest_one (write_order addr_order) (λ w. HasMark M e r.id (AddressAt w.0 w.1)) (keeps.at, address) (s, address) (write_is e slot h r refl keeps.id (keeps.at, address) is) holds.written in
              let key : OptionHasKey (get state e) (Address address) = subst (λ (o : Option Slot). OptionHasKey o (Address address)) (sym h) (keeps.at, is) in (
                (keys_are (Address address) e).1 key,
                ap (holder_with now e) h ∙ (λ i. both_of (stamp_of_write (is i)) (view i)) ∙ ap (λ w. Some (w.0, r)) same,
              )

      -- what is at most was not written later
      written_before : (x y : Stamp × Registration) → AtMost holder_cmp x y → AtMost stamp_cmp y.0 x.0
      written_before x y = go (stamp_cmp y.0 x.0)
        where
          go : (r : Ordering) → is_gt (ordering_then r (view_cmp x.1 y.1)) ≡ false → is_gt r ≡ false
          go Less h = refl
          go Equal h = refl
          go Greater h = h

      -- and where both were written at once, it is at most by its endpoint
      written_at_once : (x y : Stamp × Registration) → AtMost holder_cmp x y → y.0 ≡ x.0 → AtMost view_cmp x.1 y.1
      written_at_once x y h same = subst (λ r. is_gt (ordering_then r (view_cmp x.1 y.1)) ≡ false) (subst (λ s. stamp_cmp s x.0 ≡ Equal) (sym same) (tied_itself stamp_order.total x.0)) h

      pub by_address : (o : Option (Stamp × Registration)) → LeastFound holder_cmp Holder (D (Address address)) o → ByAddress M now address (holder_of o)
      by_address None h = λ s r holds. let w = holder_whole s r holds in h r.endpoint (s, r) w.0 w.1
      by_address (Some x) h = record {
        at = x.0;
        holds = (holder_sound h.at x h.there h.found).1;
        latest = λ t other holds. let w = holder_whole t other holds in written_before x (t, other) (h.least other.endpoint (t, other) w.0 w.1);
        first = λ other holds. let w = holder_whole x.0 other holds in written_at_once x (x.0, other) (h.least other.endpoint (x.0, other) w.0 w.1) refl;
      }

  -- ---- the watches of a registration
  module _ (id : Stamp) (after : Option Path) where
    after_at : (e : List ℕ) (slot : Slot) → get state e ≡ Some slot → WatchAfter M now e after (live_watch (is_above after) now slot)
    after_at e slot h = live_reads M e (names e) slot (slot_told e slot h) now (is_above after) (λ w. IsAbove after w.path) (above_decides slot now after) (watches_rise slot now)

    -- there is one registration with the identifier at most
    one_by_id : (r s : Registration) → ById M now id (Some r) → ById M now id (Some s) → r.endpoint ≡ s.endpoint
    one_by_id r s g h = at_most_antisymm text_order r.endpoint s.endpoint (g.first s h.fits) (h.first r g.fits)

    watch_of_id : (r : Registration) → ById M now id (Some r) → (slot : Slot) → get state r.endpoint ≡ Some slot → (o : Option Watch) → o ≡ live_watch (is_above after) now slot → WatchOfIdAfter M now id after (with_watch r o)
    watch_of_id r g slot h None is = λ s k. subst (λ e. WatchAfter M now e after None) (one_by_id r s g k) (subst (WatchAfter M now r.endpoint after) (sym is) (after_at r.endpoint slot h))
    watch_of_id r g slot h (Some w) is = (g, subst (WatchAfter M now r.endpoint after) (sym is) (after_at r.endpoint slot h))

    id_has_slot : (r : Registration) → ById M now id (Some r) → get state r.endpoint ≡ None → ⊥
    id_has_slot r g h = unnamed r.endpoint h r.id g.fits.0.registered.complete.current.member

    pub watch_of_shown : (r : Registration) → ById M now id (Some r) → (o : Option (Registration × Watch))
        → ((slot : Slot) → get state r.endpoint ≡ Some slot → o ≡ with_watch r (live_watch (is_above after) now slot)) → WatchOfIdAfter M now id after o
    watch_of_shown r g o is = go (get state r.endpoint) refl
      where
        go : (s : Option Slot) → get state r.endpoint ≡ s → WatchOfIdAfter M now id after o
        go None h = absurd (id_has_slot r g h)
        go (Some slot) h = subst (WatchOfIdAfter M now id after) (sym (is slot h)) (watch_of_id r g slot h (live_watch (is_above after) now slot) refl)

-- ---- the two kinds of sets
-- a state tells of the marks that can be read from it, and of each set that it is of
pub read_tells : (s : State) → Tells (Holds (shown_in s)) s
read_tells = state_self

pub read_names : (s : State) → NamesAll (shown_in s)
read_names = state_names

pub marks_tell : (ms : List Mark) → NamesAll (among ms) → (s : State) → IsStateOf ms s → Tells (Holds (among ms)) s
marks_tell ms p s h = subst (Tells (Holds (among ms))) (sym (state_is ms s h)) (state_tells ms p)
