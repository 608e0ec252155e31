use Rattle.std.proofs.Common.{◌%◌, get_or, drop, arith}
use Rattle.lw_coap.specs.Grammar.{kind_number}
use Rattle.lw_coap.proofs.Bytes.{header_at}
use Rattle.lw_coap.proofs.header.peek_header.Goals as goal

pub returns-clause-header : goal.returns-clause-header
returns-clause-header c =
    let bytes = c.args.bytes.now in
    (get_or bytes 0 0 % 16, drop 4 bytes, header_at bytes 1 (kind_number c.kind_in.result) c.from_be_bytes-mid.result (λ i. omega (arith, c.type_inv.bytes i)) c.in-len4-up.len_at_least (omega arith) c.kind_in.ensures (omega arith))
