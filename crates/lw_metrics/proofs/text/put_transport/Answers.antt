use Rattle.lw_metrics.specs.Families.{answered_families, fault_families}
use Rattle.lw_metrics.proofs.TextLemmas.{two_parts}
use Rattle.lw_metrics.proofs.text.put_transport.Goals as goal

pub returns : goal.returns
returns c =
    let measures = c.args.measures.now in
    two_parts _ _ _ (fault_families measures.io_counters) (answered_families measures) c.in_ok-put_faults.ensures c.in_ok-put_answered.ensures
