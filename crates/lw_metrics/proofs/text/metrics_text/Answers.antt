use Rattle.std.proofs.Common.{◌++◌}
use Rattle.lw_metrics.specs.Families.{start_families, node_families, datagram_families, further_families, request_families, failure_families, log_counter_families, log_families, transport_families}
use Rattle.lw_metrics.proofs.TextLemmas.{eight_parts, two_parts}
use Rattle.lw_metrics.proofs.text.metrics_text.Goals as goal

pub returns : goal.returns
returns c =
    let measures = c.args.measures.now in
    let log = log_families measures in
    let transport = transport_families measures in
    eight_parts _ _ _ _ _ _ _ _ _
    (start_families measures) (node_families measures.node) (datagram_families measures.tally) (further_families measures.tally) (request_families measures.requests)
    (failure_families measures) (log_counter_families measures.io_counters.log) (log ++ transport)
    c.new-text.ensures.bytes c.in_ok-put_start.ensures c.in_ok-put_node.ensures c.in_ok-put_datagrams.ensures c.in_ok-put_further.ensures c.in_ok-put_requests.ensures c.in_ok-put_failures.ensures c.in_ok-put_log_counters.ensures
    (two_parts _ _ _ log transport c.in_ok-put_log.ensures c.in_ok-put_transport.ensures)
