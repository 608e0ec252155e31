use Rattle.std.proofs.Common.{rules}
use Rattle.std.proofs.lemmas.Fn.{always_returns_same}
use Rattle.lw_stamp.specs.Order.{IsExactOrder}
use Rattle.lw_join.proofs.Search.{searched}
use Rattle.lw_join.proofs.Edits.{found_or_not}
use Rattle.lw_join.proofs.entries.find.Goals as goal

pub returns : goal.returns
returns g c =
    let order : IsExactOrder g.K.Ord.cmp = record { total = g.met.K.Ord.total; exact = g.met.K.Exact.exact } in
    let facts = c.binary_search_by.ensures in
    let by_key = facts.position (λ e. g.K.Ord.cmp e.0 c.args.key.now) (always_returns_same _ _ _ (λ a r f called. search rules)) in
    let place = searched order c.args.entries.now c.args.key.now c.requires c.binary_search_by.result facts.bound by_key in
    record { found = place.found; absent = place.absent; missing = found_or_not order c.args.entries.now c.args.key.now c.binary_search_by.result c.requires place.found place.absent }
