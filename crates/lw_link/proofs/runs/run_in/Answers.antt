use Rattle.std.proofs.Common.{sym, ◌∙◌, arith}
use Rattle.lw_link.specs.inner.Runs.{keeps}
use Rattle.lw_link.proofs.Passed.{each_more}
use Rattle.lw_link.proofs.runs.run_in.Goals as goal

pub loop-count-preserved : goal.loop-count-preserved
loop-count-preserved c = (
  omega (arith, c.loop-count-test.true),
  each_more (keeps c.args.state) c.args.bytes.now c.loop-count.count c.loop-count-test.true (sym c.is_kept.ensures ∙ c.if-is_kept.true) c.loop-count.invariant.1,
)
