use Rattle.std.proofs.Common.{sym, ◌∙◌}
use Rattle.lw_request.specs.Options.{values_of}
use Rattle.lw_request.proofs.Paths.{entry_is}
use Rattle.lw_request.proofs.path.entry_of.Goals as goal

pub returns : goal.returns
returns c =
    entry_is (values_of 11 c.args.options.now) c.in_ok-first.first.now c.in_ok-segment.segment.now c.ne.result c.value_at-else-ne.result (sym c.in_ok-first.ensures) (sym c.in_ok-segment.ensures)
    c.ne.ensures c.if-ne.false c.value_at-else-ne.ensures (sym c.is_some.ensures ∙ c.if-is_some.false)
