use Rattle.lw_metrics.specs.Families.{held_families, sent_families}
use Rattle.lw_metrics.proofs.TextLemmas.{two_parts}
use Rattle.lw_metrics.proofs.text.put_requests.Goals as goal

pub returns : goal.returns
returns c =
    let requests = c.args.requests.now in
    two_parts _ _ _ (sent_families requests) (held_families requests) c.in_ok-put_sent.ensures c.in_ok-put_held.ensures
