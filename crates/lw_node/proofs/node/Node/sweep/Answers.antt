use Rattle.std.proofs.Common.{◌∙◌, Option, None, Some, Ok, sym, ap, subst, refl}
use Rattle.std.specs.Prelude.{Result}
use Rattle.std.specs.Option.{option_map}
use Rattle.lw_stamp.specs.Clock.{counter_of}
use Rattle.lw_stamp.specs.Moment.{ms_of}
use Rattle.lw_stamp.specs.declared.stamp.Stamp.{Stamp}
use Rattle.lw_reg.specs.Marks.{among}
use Rattle.lw_reg.specs.Reading.{shown_in}
use Rattle.lw_table.specs.LookUps.{ExpiredAfter}
use Rattle.lw_table.proofs.LookUpLemmas.{marks_tell, read_names, read_tells}
use Rattle.lw_call.specs.declared.clock_end.ClockEnd.{ClockEnd as NoStamp}
use Rattle.lw_node.specs.Calls.{Sweeps, issuer_at}
use Rattle.lw_node.specs.Effects.{IsNext}
use Rattle.lw_node.specs.Node.{NodeContent, Known, IsKnown, Knows, Leaves, marks_in}
use Rattle.lw_node.specs.Node.Known.{Shown, Told}
use Rattle.lw_node.proofs.Commanding.{found_at}
use Rattle.lw_node.proofs.Issuing.{next_clock}
use Rattle.lw_node.proofs.Outcomes.{swept_none, swept_end}
use Rattle.lw_node.proofs.Sweeping.{end_means, nothing_means, lift_swept, lift_fits}
use Rattle.lw_node.proofs.node.Node.sweep.Goals.{in-Some-expired_after, in-None}
use Rattle.lw_node.proofs.node.Node.sweep.Goals as goal

-- at the end of the clock
swept_at_end : (c : goal.Joined-expired_after) (known : Known) → IsKnown c.args.self.now.table.state known → Sweeps c.args.self.now (marks_in c.args.self.now.table.state known) (ms_of c.args.now) c.match-expired_after.result c.args.self.now
swept_at_end c known is =
    let now = ms_of c.args.now in
    let node = c.args.self.now in
    let M = marks_in node.table.state known in
    let found = found_at (λ M. ExpiredAfter M now None (option_map (λ x. (x.0.now, x.1)) c.expired_after.result)) c.self.inside.table.state node (ap (λ (n : NodeContent). n.table.state) c.self.view_is) c.expired_after.ensures.read c.expired_after.ensures.marks known is in
    elim c.match-expired_after.branch [
      | in-Some-expired_after w ↦ subst (λ (r : Result (Option Stamp) NoStamp). Sweeps node M now r node) (sym w.result-is) (end_means (issuer_at node now) M (λ x. (x.0.now, x.1)) c.expired_after.result found w.in-Some-expired_after.field-0 w.in-Some-expired_after.is (c.in_default.ensures.end.0 refl), refl)
      | in-None w ↦ subst (λ (r : Result (Option Stamp) NoStamp). Sweeps node M now r node) (sym w.result-is) (nothing_means (issuer_at node now) M (λ x. (x.0.now, x.1)) c.expired_after.result found w.in-None.is, refl)
    ]

pub returns-in_default-clause-read : goal.returns-in_default-clause-read
returns-in_default-clause-read c = swept_at_end c Shown tt

pub returns-in_default-clause-marks : goal.returns-in_default-clause-marks
returns-in_default-clause-marks c = λ ms knows. swept_at_end c (Told ms) knows

pub returns-in_default-clause-none : goal.returns-in_default-clause-none
returns-in_default-clause-none c = swept_none (issuer_at c.args.self.now (ms_of c.args.now)) (shown_in c.args.self.now.table.state) (λ operation. Leaves c.args.self.now operation c.args.self.now) c.match-expired_after.result (swept_at_end c Shown tt)

pub returns-in_default-clause-clock_end : goal.returns-in_default-clause-clock_end
returns-in_default-clause-clock_end c = swept_end (issuer_at c.args.self.now (ms_of c.args.now)) (shown_in c.args.self.now.table.state) (λ operation. Leaves c.args.self.now operation c.args.self.now) c.match-expired_after.result (swept_at_end c Shown tt)

pub invariant_of-self-2 : goal.invariant_of-self-2
invariant_of-self-2 c =
    let old : NodeContent = record { number = c.self.inside.number; clock = counter_of c.self.inside.clock; table = c.self.inside.table } in
    let new : NodeContent = record { number = c.self.inside.number; clock = counter_of c.raise.new.self; table = c.lift_first.new.self } in
    let stamp = c.in-Some.stamp in
    let next : IsNext (issuer_at old (ms_of c.args.now)) stamp = subst (λ (n : NodeContent). IsNext (issuer_at n (ms_of c.args.now)) stamp) (sym c.self.view_is) (record { counter = c.in-Some.ensures.stamp.0; node = c.in-Some.ensures.stamp.1 }) in
    lift_fits old new (ms_of c.args.now) stamp c.in-Some-lift_first.id c.in-Some-lift_first.ensures.read next c.self.invariant c.raise.ensures

pub returns-clause-read : goal.returns-clause-read
returns-clause-read c =
    let now = ms_of c.args.now in
    let old : NodeContent = record { number = c.self.inside.number; clock = counter_of c.self.inside.clock; table = c.self.inside.table } in
    let new : NodeContent = record { number = c.self.inside.number; clock = counter_of c.raise.new.self; table = c.lift_first.new.self } in
    let stamp = c.in-Some.stamp in
    let next : IsNext (issuer_at old now) stamp = subst (λ (n : NodeContent). IsNext (issuer_at n now) stamp) (sym c.self.view_is) (record { counter = c.in-Some.ensures.stamp.0; node = c.in-Some.ensures.stamp.1 }) in
    subst (λ (n : NodeContent). Sweeps n (shown_in n.table.state) now (Ok (Some c.in-Some-lift_first.id)) new) c.self.view_is
    (lift_swept old new now (shown_in old.table.state) stamp c.in-Some-lift_first.id c.in-Some-lift_first.ensures.read (read_names old.table.state) (read_tells old.table.state) next refl (c.raise.ensures ∙ next_clock old.clock stamp.counter next.counter))

pub returns-clause-marks : goal.returns-clause-marks
returns-clause-marks c = λ ms knows.
    let now = ms_of c.args.now in
    let old : NodeContent = record { number = c.self.inside.number; clock = counter_of c.self.inside.clock; table = c.self.inside.table } in
    let new : NodeContent = record { number = c.self.inside.number; clock = counter_of c.raise.new.self; table = c.lift_first.new.self } in
    let stamp = c.in-Some.stamp in
    let next : IsNext (issuer_at old now) stamp = subst (λ (n : NodeContent). IsNext (issuer_at n now) stamp) (sym c.self.view_is) (record { counter = c.in-Some.ensures.stamp.0; node = c.in-Some.ensures.stamp.1 }) in
    let known : Knows old ms = subst (λ (n : NodeContent). Knows n ms) (sym c.self.view_is) knows in
    subst (λ (n : NodeContent). Sweeps n (among ms) now (Ok (Some c.in-Some-lift_first.id)) new) c.self.view_is
    (lift_swept old new now (among ms) stamp c.in-Some-lift_first.id (c.in-Some-lift_first.ensures.marks ms known.0 known.1) known.0 (marks_tell ms known.0 old.table.state known.1) next refl (c.raise.ensures ∙ next_clock old.clock stamp.counter next.counter))

pub returns-clause-none : goal.returns-clause-none
returns-clause-none c =
    swept_none (issuer_at c.args.self.now (ms_of c.args.now)) (shown_in c.args.self.now.table.state) (λ operation. Leaves c.args.self.now operation (record { number = c.self.inside.number; clock = counter_of c.raise.new.self; table = c.lift_first.new.self })) (Ok (Some c.in-Some-lift_first.id)) (returns-clause-read c)
