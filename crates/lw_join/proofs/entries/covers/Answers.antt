use Rattle.std.proofs.lemmas.Bool.{false≢true}
use Rattle.lw_stamp.specs.Order.{IsExactOrder}
use Rattle.lw_join.proofs.Lookups.{get_there, get_absent}
use Rattle.lw_join.proofs.entries.covers.Goals as goal

pub returns-in-Ok : goal.returns-in-Ok
returns-in-Ok g c =
    let order : IsExactOrder g.K.Ord.cmp = record { total = g.met.K.Ord.total; exact = g.met.K.Exact.exact } in
    let there = get_there order c.args.key.now c.args.entries.now c.in-Ok.i c.index-entries-i.result c.requires c.in-Ok.ensures.found in
    rw there c.le.ensures

pub returns-in-Err : goal.returns-in-Err
returns-in-Err g c =
    let order : IsExactOrder g.K.Ord.cmp = record { total = g.met.K.Ord.total; exact = g.met.K.Exact.exact } in
    let absent = get_absent order c.args.key.now c.args.entries.now c.in-Err.field-0 c.in-Err.ensures.absent in
    rw absent (λ h. absurd (false≢true h), λ h. absurd h)
