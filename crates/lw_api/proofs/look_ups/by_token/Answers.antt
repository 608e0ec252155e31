use Rattle.lw_stamp.specs.Moment.{ms_of}
use Rattle.lw_table.specs.LookUps.{ByToken}
use Rattle.lw_table.proofs.SinceLemmas.{if_slots}
use Rattle.lw_api.proofs.Knowing.{of_known}
use Rattle.lw_api.proofs.look_ups.by_token.Goals as goal

pub returns : goal.returns
returns c =
    let found = c.by_token.result in
    if_slots _ _ (λ text is. record {
      found = found;
      answer = of_known c.args.node.now.table.state (λ M. ByToken M (ms_of c.args.now) c.args.token found) c.by_token.ensures.read c.by_token.ensures.marks;
      text_is = is;
    }) c.watched.result c.watched.ensures
