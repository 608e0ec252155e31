-- What the functions of a slot answer is what the relations say.
use Rattle.std.proofs.Common.{◌≡◌, ℕ, Bool, true, List, [], Option, Some, None, sym, refl, ap, subst}
use Rattle.std.specs.Prelude.{◌↔◌, ◌&&◌, nat_eq, IsTrue}
use Rattle.std.proofs.Common.{arith}
use Rattle.std.proofs.lemmas.Bool.{and_parts, eqb-true}
use Rattle.std.proofs.lemmas.Bool.Decides.{nat_tests}
use Rattle.std.specs.Ordering.{is_lt}
use Rattle.lw_stamp.specs.declared.stamp.Stamp.{Stamp}
use Rattle.lw_stamp.proofs.StampLemmas.{same_stamp}
use Rattle.lw_join.specs.Entries.{Rises}
use Rattle.lw_join.specs.EntriesLaws.{is_Less}
use Rattle.lw_join.specs.declared.or_gone.OrGone.{OrGone}
use Rattle.lw_join.specs.declared.or_gone.OrGone.TheVariants.{Here, Gone}
use Rattle.lw_reg.specs.declared.body.Body.{Body}
use Rattle.lw_reg.specs.declared.path.Path.{Path}
use Rattle.lw_reg.specs.declared.slot.Slot.{Slot}
use Rattle.lw_reg.specs.declared.watch.Watch.{Watch}
use Rattle.lw_reg.specs.Marks.{Mark, among}
use Rattle.lw_reg.specs.Orders.{path_cmp}
use Rattle.lw_reg.specs.Reading.{registered_in, view_in, is_late, has_token, is_above, live_watch, watches_of, shown_by, IsSlotOf}
use Rattle.lw_reg.specs.Registration.{Registration}
use Rattle.lw_reg.specs.Showing.{ShownOf, HasExpired, IsAbove, WatchWith, WatchAfter}
use Rattle.lw_reg.specs.Slot.{slot_at}
use Rattle.lw_reg.proofs.ShownLemmas.{shown_of, expired_reads, live_reads}
use Rattle.lw_reg.proofs.SlotMarks.{slot_self, shown_names}
use Rattle.lw_reg.proofs.States.{slot_tells}

module _ (slot : Slot) (now : ℕ) where
  pub view_read : (e : List ℕ) (o : Option Registration) → o ≡ view_in now e slot → ShownOf (shown_by e slot) now e o
  view_read e o h = subst (ShownOf (shown_by e slot) now e) (sym h) (shown_of (shown_by e slot) e (shown_names e slot) slot (slot_self e slot) now)

  pub view_marks : (e : List ℕ) (o : Option Registration) → o ≡ view_in now e slot → (ms : List Mark) → IsSlotOf ms e slot → ShownOf (among ms) now e o
  view_marks e o h ms s = subst (ShownOf (among ms) now e) (sym h) (shown_of (among ms) e (s.0 e) slot (slot_tells ms e slot s) now)

  pub late_read : (r : Bool) → r ≡ is_late now (registered_in [] slot) → (e : List ℕ) → IsTrue r ↔ HasExpired (shown_by e slot) now e
  late_read r h e = subst (λ b. IsTrue b ↔ HasExpired (shown_by e slot) now e) (sym h) (expired_reads (shown_by e slot) e (shown_names e slot) slot (slot_self e slot) now)

  pub late_marks : (r : Bool) → r ≡ is_late now (registered_in [] slot) → (ms : List Mark) (e : List ℕ) → IsSlotOf ms e slot → IsTrue r ↔ HasExpired (among ms) now e
  late_marks r h ms e s = subst (λ b. IsTrue b ↔ HasExpired (among ms) now e) (sym h) (expired_reads (among ms) e (s.0 e) slot (slot_tells ms e slot s) now)

  -- ---- watches
  pub watches_rise : Rises path_cmp (watches_of slot)
  watches_rise = go slot.registration.value
    where
      go : (x : OrGone Body) → Rises path_cmp (watches_of (slot_at slot.registration.stamp x))
      go Gone = tt
      go (Here b) = b.maps.right.rises

  pub token_decides : (token : Stamp) (w : Watch) → (has_token token w ≡ true) ↔ (w.token ≡ token)
  token_decides token w = (λ h. let p = and_parts (nat_eq w.token.counter token.counter) (nat_eq w.token.node token.node) h in same_stamp w.token token (eqb-true _ _ p.0) (eqb-true _ _ p.1), λ e. alike w.token e)
    where
      alike : (t : Stamp) → t ≡ token → (nat_eq t.counter token.counter && nat_eq t.node token.node) ≡ true
      alike t e = both (ap (λ (s : Stamp). s.counter) e) (ap (λ (s : Stamp). s.node) e)
        where
          both : t.counter ≡ token.counter → t.node ≡ token.node → (nat_eq t.counter token.counter && nat_eq t.node token.node) ≡ true
          both h k = grind (arith, nat_tests)

  pub above_decides : (after : Option Path) (w : Watch) → (is_above after w ≡ true) ↔ IsAbove after w.path
  above_decides None w = (λ h. tt, λ h. refl)
  above_decides (Some after) w = (λ h. is_Less (path_cmp after w.path) h, λ h. ap is_lt h)

  pub watch_read : (token : Stamp) (o : Option Watch) → o ≡ live_watch (has_token token) now slot → (e : List ℕ) → WatchWith (shown_by e slot) now e token o
  watch_read token o h e = subst (WatchWith (shown_by e slot) now e token) (sym h) (live_reads (shown_by e slot) e (shown_names e slot) slot (slot_self e slot) now (has_token token) (λ w. w.token ≡ token) (token_decides token) watches_rise)

  pub watch_marks : (token : Stamp) (o : Option Watch) → o ≡ live_watch (has_token token) now slot → (ms : List Mark) (e : List ℕ) → IsSlotOf ms e slot → WatchWith (among ms) now e token o
  watch_marks token o h ms e s = subst (WatchWith (among ms) now e token) (sym h) (live_reads (among ms) e (s.0 e) slot (slot_tells ms e slot s) now (has_token token) (λ w. w.token ≡ token) (token_decides token) watches_rise)

  pub after_read : (after : Option Path) (o : Option Watch) → o ≡ live_watch (is_above after) now slot → (e : List ℕ) → WatchAfter (shown_by e slot) now e after o
  after_read after o h e = subst (WatchAfter (shown_by e slot) now e after) (sym h) (live_reads (shown_by e slot) e (shown_names e slot) slot (slot_self e slot) now (is_above after) (λ w. IsAbove after w.path) (above_decides after) watches_rise)

  pub after_marks : (after : Option Path) (o : Option Watch) → o ≡ live_watch (is_above after) now slot → (ms : List Mark) (e : List ℕ) → IsSlotOf ms e slot → WatchAfter (among ms) now e after o
  after_marks after o h ms e s = subst (WatchAfter (among ms) now e after) (sym h) (live_reads (among ms) e (s.0 e) slot (slot_tells ms e slot s) now (is_above after) (λ w. IsAbove after w.path) (above_decides after) watches_rise)
