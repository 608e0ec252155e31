use Rattle.std.proofs.Common.{rules}
use Rattle.std.proofs.lemmas.Fn.{always_returns_same}
use Rattle.lw_join.proofs.Search.{searched}
use Rattle.lw_reg.specs.OrderLaws.{path_order}
use Rattle.lw_reg.specs.Orders.{path_cmp}
use Rattle.lw_reg.proofs.watches.find.Goals as goal

pub returns : goal.returns
returns c =
    let facts = c.binary_search_by.ensures in
    let by_path = facts.position (λ e. path_cmp e.0 c.args.path.now) (always_returns_same _ _ _ (λ a r f called. search rules)) in
    let place = searched path_order c.args.entries.now c.args.path.now c.requires c.binary_search_by.result facts.bound by_path in
    record { found = place.found; absent = place.absent }
