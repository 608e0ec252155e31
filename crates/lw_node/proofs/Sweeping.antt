-- What a sweep means, over each set that a state tells of.
use Rattle.std.proofs.Common.{◌≡◌, ◌∙◌, ℕ, ◌+◌, List, Option, Some, None, Ok, Err, inl, inr, refl, ap, subst}
use Rattle.std.specs.Prelude.{max}
use Rattle.std.specs.Option.{option_map}
use Rattle.lw_stamp.specs.declared.moment.Moment.{Moment}
use Rattle.lw_stamp.specs.declared.stamp.Stamp.{Stamp}
use Rattle.lw_stamp.specs.Order.{IsGreatest}
use Rattle.lw_join.specs.inner.Facets.{OptionTells}
use Rattle.lw_join.specs.Lww.{write_cmp}
use Rattle.lw_join.specs.LwwLaws.{write_order}
use Rattle.lw_join.specs.declared.or_gone.OrGone.{OrGone}
use Rattle.lw_join.specs.declared.or_gone.OrGone.TheVariants.{Here, Gone}
use Rattle.lw_join.proofs.FacetLemmas.{greatest_one}
use Rattle.lw_reg.specs.declared.body.Body.{Body}
use Rattle.lw_reg.specs.declared.op.Op.{Op}
use Rattle.lw_reg.specs.declared.op.What.TheVariants.{Expire}
use Rattle.lw_reg.specs.declared.slot.Slot.{Slot}
use Rattle.lw_reg.specs.Marks.{Trace, Marks, Has, NamesAll}
use Rattle.lw_reg.specs.Marks.Trace.{SeenAt}
use Rattle.lw_reg.specs.OrderLaws.{moment_order}
use Rattle.lw_reg.specs.Orders.{moment_cmp}
use Rattle.lw_reg.specs.Reading.{seen_of, shown_in, stamp_of}
use Rattle.lw_reg.specs.Registration.{Registration}
use Rattle.lw_reg.specs.Showing.{IsWrite}
use Rattle.lw_reg.specs.Slot.{slot_at}
use Rattle.lw_reg.proofs.Tells.{SlotTells, Tells, Holds, ToldTells}
use Rattle.lw_table.specs.Lifts.{Lifts, LiftsFirst}
use Rattle.lw_table.specs.LookUps.{ExpiredAfter, IsExpiredAfter, named_by}
use Rattle.lw_table.specs.Table.{TableContent}
use Rattle.lw_table.proofs.LookUpLemmas.{read_names, read_tells}
use Rattle.lw_node.specs.Calls.{Sweeps, issuer_at}
use Rattle.lw_node.specs.Effects.{Issuer, IsAtEnd, IsNext, Expires, SweepMeans}
use Rattle.lw_node.specs.Effects.Refused.{ClockEnd}
use Rattle.lw_node.specs.Node.{NodeContent, HasEndpoints}
use Rattle.lw_node.specs.Within.{FitsClock}
use Rattle.lw_node.proofs.Issuing.{joined_marks, still_node}
use Rattle.lw_node.proofs.NextOperation.{sweep_next}

-- the moment of a slot is the write that counts
seen_told : (P : Stamp × Trace → Type 0) (slot : Slot) → SlotTells P slot → (w : Stamp × Moment) → seen_of slot ≡ Some w → IsGreatest (write_cmp moment_cmp) (λ v. P (stamp_of slot, SeenAt v.0 v.1)) w
seen_told P slot told w = go slot.registration.value told.told
  where
    go : (x : OrGone Body) → ToldTells (λ k. P (slot.registration.stamp, k)) x → seen_of (slot_at slot.registration.stamp x) ≡ Some w → IsGreatest (write_cmp moment_cmp) (λ v. P (slot.registration.stamp, SeenAt v.0 v.1)) w
    go Gone g h = absurd cc
    go (Here b) g h = subst (OptionTells (IsGreatest (write_cmp moment_cmp)) (λ v. P (slot.registration.stamp, SeenAt v.0 v.1))) h g.1.seen

-- the operation of the registration of the endpoint that ends
abbrev pub ending_op : Stamp → List ℕ → Stamp → Stamp → Op
ending_op stamp e id upto = record { stamp = stamp; endpoint = e; reg = id; what = Expire upto }

-- ---- what is meant over a set that a state tells of
module _ (place : Issuer) (M : Marks) where
  -- what has expired, by a look-up: nothing
  pub nothing_means : {A : Type 0} (of : A → List ℕ × Stamp) (o : Option A) → ExpiredAfter M place.now None (option_map of o) → o ≡ None → SweepMeans place M (Ok None)
  nothing_means of o found is = (None, subst (λ x. ExpiredAfter M place.now None (option_map of x)) is found, refl)

  -- something, at the end of the clock
  pub end_means : {A : Type 0} (of : A → List ℕ × Stamp) (o : Option A) → ExpiredAfter M place.now None (option_map of o) → (a : A) → o ≡ Some a → IsAtEnd place → SweepMeans place M (Err ClockEnd)
  end_means of o found a is end =
      let some = subst (λ x. ExpiredAfter M place.now None (option_map of x)) is found in
      (Some some.0, some.1, inl (end, refl))

  module _ (old new : TableContent) (names : NamesAll M) (tells : Tells (Holds M) old.state) (stamp : Stamp) (next : IsNext place stamp) (e : List ℕ) (id : Stamp) (lifts : Lifts old e id new) where
    -- the moment at which it was seen last
    seen_at : IsWrite moment_cmp SeenAt M e id lifts.seen
    seen_at = subst (λ (r : Stamp). IsWrite moment_cmp SeenAt M e r lifts.seen) lifts.id_is
        (seen_told (λ y. Has M e y.0 y.1) lifts.slot (subst (OptionTells SlotTells (λ y. Has M e y.0 y.1)) lifts.is (tells e)) lifts.seen lifts.seen_is)

    expires : (r : Registration) → (e, id) ≡ named_by r → IsExpiredAfter M place.now None r → Expires M r (ending_op stamp e id lifts.seen.0)
    expires r is fits =
        let complete = fits.1.registered.complete in
        let at : IsWrite moment_cmp SeenAt M r.endpoint r.id lifts.seen = subst (λ (x : List ℕ × Stamp). IsWrite moment_cmp SeenAt M x.0 x.1 lifts.seen) is seen_at in
        let same : lifts.seen ≡ (complete.seen.0, r.seen) = greatest_one (write_order moment_order) (λ w. Has M r.endpoint r.id (SeenAt w.0 w.1)) lifts.seen (complete.seen.0, r.seen) at complete.seen.1 in
        record {
          about = record { endpoint = ap (λ x. x.0) is; registration = ap (λ x. x.1) is };
          upto = lifts.seen.0;
          seen = subst (λ (w : Moment). IsWrite moment_cmp SeenAt M r.endpoint r.id (lifts.seen.0, w)) (ap (λ w. w.1) same) at;
          what = refl;
        }

    -- the first that has expired ends
    ending_means : ExpiredAfter M place.now None (Some (e, id)) → SweepMeans place M (Ok (Some (ending_op stamp e id lifts.seen.0)))
    ending_means some = (Some some.0, some.1, inr (ending_op stamp e id lifts.seen.0, next, expires some.0 some.2 some.1.fits, refl))

-- ---- what a node is then
module _ (old new : NodeContent) (now : ℕ) (M : Marks) (stamp : Stamp) (id : Stamp) (lifted : LiftsFirst M now old.table (Some id) new.table) where
  abbrev pub lifted_op : Op
  lifted_op = ending_op stamp lifted.0 id lifted.2.seen.0

  pub lift_means : NamesAll M → Tells (Holds M) old.table.state → IsNext (issuer_at old now) stamp → SweepMeans (issuer_at old now) M (Ok (Some lifted_op))
  lift_means names tells next = ending_means (issuer_at old now) M old.table new.table names tells stamp next lifted.0 id lifted.2 lifted.1

  pub lift_swept : NamesAll M → Tells (Holds M) old.table.state → IsNext (issuer_at old now) stamp → new.number ≡ old.number → new.clock ≡ old.clock + 1 → Sweeps old M now (Ok (Some id)) new
  lift_swept names tells next number clock = (
    lifted_op,
    lift_means names tells next,
    refl,
    record { number = number; clock = clock; state = lifted.2.state ∙ joined_marks old.table.state lifted_op; count = lifted.2.count },
  )

-- the invariant holds
pub lift_fits : (old new : NodeContent) (now : ℕ) (stamp id : Stamp) → LiftsFirst (shown_in old.table.state) now old.table (Some id) new.table → IsNext (issuer_at old now) stamp → HasEndpoints old.table.state × FitsClock old.clock old.table.state → new.clock ≡ max old.clock stamp.counter
    → HasEndpoints new.table.state × FitsClock new.clock new.table.state
lift_fits old new now stamp id lifted next holds raised =
    let op = lifted_op old new now (shown_in old.table.state) stamp id lifted in
    let means = lift_means old new now (shown_in old.table.state) stamp id lifted (read_names old.table.state) (read_tells old.table.state) next in
    still_node old.clock new.clock old.table.state new.table.state op stamp.counter (sweep_next (issuer_at old now) old.table.state holds.1 op means) lifted.2.named holds.0 holds.1 lifted.2.state raised refl
