use Rattle.std.proofs.Common.{Some, sym, subst}
use Rattle.lw_table.specs.inner.KeyChanges.{HasKeyChanges}
use Rattle.lw_table.proofs.MoveLemmas.{others_then}
use Rattle.lw_table.proofs.moves.move_row.Goals as goal

pub try_move-moved-requires-clause-keys : goal.try_move-moved-requires-clause-keys
try_move-moved-requires-clause-keys c = subst (λ ks. HasKeyChanges (Some c.args.row.now.slot) c.args.slot ks) (sym c.deref.ensures.value) c.in_ok-keys.ensures

pub returns-clause-others : goal.returns-clause-others
returns-clause-others c = others_then c.args.endpoint.now c.args.place c.args.filed.now c.try_move-moved.new.filed c.remove_stale.new.self c.try_move-moved.ensures.others c.remove_stale.ensures.others
