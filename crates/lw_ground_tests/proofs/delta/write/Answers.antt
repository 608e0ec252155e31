use Rattle.std.proofs.Common.{ℕ, List, [], ◌∷◌, ◌++◌, None, take, sym, ap, ◌∙◌, subst}
use Rattle.lw_stamp.specs.TextOrder.{text_cmp}
use Rattle.lw_reg.specs.declared.slot.Slot.{Slot}
use Rattle.lw_delta.specs.Order.{IsAbove}
use Rattle.lw_delta.specs.Writable.{IsBegun, StampsWithin, last_endpoint}
use Rattle.lw_delta.proofs.BegunLemmas.{begun_once}
use Rattle.lw_delta.proofs.Fitting.{follow_at, take_step}
use Rattle.lw_ground_tests.proofs.delta.write.Goals as goal

pub slot-requires-clause-above : goal.slot-requires-clause-above
slot-requires-clause-above c =
    let x = c.entry-item.result in
    let front = take c.loop-entry.entry-index c.args.slots.now in
    let f = follow_at c.args.clock None c.args.slots.now c.loop-entry.entry-index x c.requires.follow c.loop-entry-test.true c.entry-item.is in
    λ slots h. subst (λ (e : List ℕ). IsAbove text_cmp (last_endpoint slots) e) (sym c.as_str.ensures.value)
    (subst (λ (xs : List (List ℕ × Slot)). IsAbove text_cmp (last_endpoint xs) x.0) (begun_once c.loop-entry.writer front slots c.loop-entry.invariant.begun h) f.0.above)

pub slot-requires-clause-within : goal.slot-requires-clause-within
slot-requires-clause-within c =
    let x = c.entry-item.result in
    let f = follow_at c.args.clock None c.args.slots.now c.loop-entry.entry-index x c.requires.follow c.loop-entry-test.true c.entry-item.is in
    subst (λ (k : ℕ). StampsWithin k x.1) (sym c.loop-entry.invariant.clock) f.0.stamps

pub loop-entry-preserved : goal.loop-entry-preserved
loop-entry-preserved c =
    let x = c.entry-item.result in
    let front = take c.loop-entry.entry-index c.args.slots.now in
    let f = follow_at c.args.clock None c.args.slots.now c.loop-entry.entry-index x c.requires.follow c.loop-entry-test.true c.entry-item.is in
    record {
      begun = subst (λ ys. IsBegun c.slot.new.self ys) (ap (λ (e : List ℕ). front ++ (e, x.1) ∷ []) c.as_str.ensures.value ∙ sym f.1 ∙ take_step c.args.slots.now c.loop-entry.entry-index) (c.in_ok-slot.ensures.begun front c.loop-entry.invariant.begun);
      clock = c.slot.ensures.clock ∙ c.loop-entry.invariant.clock;
    }
