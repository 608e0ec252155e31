use Rattle.lw_stamp.specs.Moment.{ms_of}
use Rattle.lw_reg.specs.Showing.{ShownOf}
use Rattle.lw_table.proofs.SinceLemmas.{if_slots}
use Rattle.lw_api.proofs.Knowing.{of_known}
use Rattle.lw_api.proofs.look_ups.registration.Goals as goal

pub returns : goal.returns
returns c =
    let shown = c.by_endpoint.result in
    if_slots _ _ (λ text is. record {
      shown = shown;
      answer = of_known c.args.node.now.table.state (λ M. ShownOf M (ms_of c.args.now) c.args.endpoint.now shown) c.by_endpoint.ensures.read c.by_endpoint.ensures.marks;
      text_is = is;
    }) c.told.result c.told.ensures
