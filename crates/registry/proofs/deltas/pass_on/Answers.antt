use Rattle.std.proofs.Common.{sym, subst}
use Rattle.lw_node.specs.Exchange.{IsDeltaSince}
use Rattle.registry.proofs.deltas.pass_on.Goals as goal

pub returns-in-Ok : goal.returns-in-Ok
returns-in-Ok c = record {
  delta = c.deref.result.now;
  is_delta = subst (IsDeltaSince c.args.node.now c.args.since) (sym c.deref.ensures.value) c.in_ok-delta.ensures;
  count = c.in-Ok.field-0;
  merges = c.in-Ok.ensures.merges;
  next_is = c.change.ensures;
}
