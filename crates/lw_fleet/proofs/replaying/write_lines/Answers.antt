use Rattle.lw_fleet.specs.Replay.{lines_text}
use Rattle.lw_fleet.proofs.OneLemmas.{on_err}
use Rattle.lw_fleet.proofs.ReplayLemmas.{appends_kept, front_whole, lines_front, lines_on, lines_whole}
use Rattle.lw_fleet.proofs.replaying.write_lines.Goals as goal

pub loop-outcome-preserved : goal.loop-outcome-preserved
loop-outcome-preserved g c =
    lines_on _ _ _ c.args.world.now.messages c.args.outcomes.now c.loop-outcome.outcome-index c.outcome-item.result c.loop-outcome-test.true c.outcome-item.is c.loop-outcome.invariant c.in_ok-write_line.ensures.whole

pub returns-in_err-write_line-clause-front : goal.returns-in_err-write_line-clause-front
returns-in_err-write_line-clause-front g c = on_err c.from_residual.result _
    (lines_front _ _ _ c.args.world.now.messages c.args.outcomes.now c.loop-outcome.outcome-index c.outcome-item.result c.loop-outcome-test.true c.outcome-item.is c.loop-outcome.invariant c.in_err-write_line.ensures.front)

pub returns-clause-front : goal.returns-clause-front
returns-clause-front g c =
    let text = lines_text c.args.world.now.messages c.args.outcomes.now in
    let written = lines_whole _ _ c.args.world.now.messages c.args.outcomes.now c.loop-outcome.outcome-index c.loop-outcome-test.false c.loop-outcome.invariant in
    on_err c.flush.result _ (front_whole _ _ text (appends_kept _ _ _ text written c.flush.ensures.same))
