use Rattle.std.proofs.Common.{sym, subst}
use Rattle.lw_node.specs.Exchange.{IsDeltaSince}
use Rattle.uses.proofs.Counts.{merge_counts}
use Rattle.uses.proofs.Merges.{passed_clock, passed_state}
use Rattle.uses.proofs.meeting.pass.Goals as goal

pub returns-in-Ok-clause-clock : goal.returns-in-Ok-clause-clock
returns-in-Ok-clause-clock c =
    passed_clock c.args.node.now c.args.other.now c.merge.new.self c.deref.result.now c.in-Ok.field-0 (subst (IsDeltaSince c.args.node.now 0) (sym c.deref.ensures.value) c.in_ok-delta.ensures) c.in-Ok.ensures.merges

pub returns-in-Ok-clause-state : goal.returns-in-Ok-clause-state
returns-in-Ok-clause-state c =
    passed_state c.args.node.now c.args.other.now c.merge.new.self c.deref.result.now c.in-Ok.field-0 (subst (IsDeltaSince c.args.node.now 0) (sym c.deref.ensures.value) c.in_ok-delta.ensures) c.in-Ok.ensures.merges

pub returns-in-Ok-clause-counted : goal.returns-in-Ok-clause-counted
returns-in-Ok-clause-counted c = merge_counts c.args.other.now c.merge.new.self c.deref.result.now c.merge.result c.merge.ensures.merges

pub returns-clause-counted : goal.returns-clause-counted
returns-clause-counted c = merge_counts c.args.other.now c.merge.new.self c.deref.result.now c.merge.result c.merge.ensures.merges
