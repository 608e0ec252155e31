use Rattle.std.proofs.Common.{sym, ◌∙◌}
use Rattle.lw_stamp.specs.Order.{IsExactOrder}
use Rattle.lw_join.proofs.Edits.{put_there, put_absent}
use Rattle.lw_join.proofs.Lookups.{get_absent}
use Rattle.lw_join.proofs.in_place.put_entry.Goals as goal

pub returns-in-Ok-clause-items : goal.returns-in-Ok-clause-items
returns-in-Ok-clause-items g c =
    let order : IsExactOrder g.K.Ord.cmp = record { total = g.met.K.Ord.total; exact = g.met.K.Exact.exact } in
    let at = rw c.deref.ensures.value at c.in-Ok.ensures.found in
    let put = put_there order g.J.Join.join c.args.key c.args.value c.args.into.now.items c.in-Ok.i c.index_mut.result.now c.requires.rises at c.index_mut.ensures.value in
    rw c.join_calm.ensures (sym put)

pub returns-in-Err-clause-items : goal.returns-in-Err-clause-items
returns-in-Err-clause-items g c =
    let order : IsExactOrder g.K.Ord.cmp = record { total = g.met.K.Ord.total; exact = g.met.K.Exact.exact } in
    let gap = rw c.deref.ensures.value at c.in-Err.ensures.absent in
    let absent = get_absent order c.args.key c.args.into.now.items c.in-Err.i gap in
    let inserted = c.insert.ensures.succeeds (c.requires.room absent) in
    let put = put_absent order g.J.Join.join c.args.key c.args.value c.args.into.now.items c.in-Err.i gap in
    c.insert.ensures.items ∙ rw inserted (sym put)
