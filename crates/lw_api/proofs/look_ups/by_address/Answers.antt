use Rattle.lw_stamp.specs.Moment.{ms_of}
use Rattle.lw_table.specs.LookUps.{ByAddress}
use Rattle.lw_table.proofs.SinceLemmas.{if_slots}
use Rattle.lw_api.proofs.Knowing.{of_known}
use Rattle.lw_api.proofs.look_ups.by_address.Goals as goal

pub returns : goal.returns
returns c =
    let shown = c.by_address.result in
    if_slots _ _ (λ text is. record {
      shown = shown;
      answer = of_known c.args.node.now.table.state (λ M. ByAddress M (ms_of c.args.now) c.args.address shown) c.by_address.ensures.read c.by_address.ensures.marks;
      text_is = is;
    }) c.told.result c.told.ensures
