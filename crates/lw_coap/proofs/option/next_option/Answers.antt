use Rattle.std.proofs.Common.{◌-◌, length, get_or, take, drop, arith, inl, inr}
use Rattle.lw_coap.specs.Faults.{BeginsOption}
use Rattle.lw_coap.proofs.Bytes.{first_one}
use Rattle.lw_coap.proofs.OptionAt.{cut_delta, cut_length, begins, found}
use Rattle.lw_coap.proofs.option.next_option.Goals as goal

pub returns-in_default-extended-clause-fault : goal.returns-in_default-extended-clause-fault
returns-in_default-extended-clause-fault c =
    let bytes = c.args.bytes.now in
    let cut = c.in_default-extended.ensures.none in
    inl (cut_delta bytes (get_or bytes 0 0) (take (length bytes - 1) (drop 1 bytes)) cut.0 (omega (arith, c.type_inv.bytes 0)) (first_one bytes c.in-len1-up.len_at_least) c.if-length_nibble-eq15.false cut.1 cut.2)

pub returns-in_default-extended-2-clause-fault : goal.returns-in_default-extended-2-clause-fault
returns-in_default-extended-2-clause-fault c =
    let bytes = c.args.bytes.now in
    let delta = c.in-Some.ensures.some in
    let cut = c.in_default-extended-2.ensures.none in
    inl (cut_length bytes (get_or bytes 0 0) (take (length bytes - 1) (drop 1 bytes)) delta.0 c.in-Some.rest.now c.in-Some.delta cut.0 (first_one bytes c.in-len1-up.len_at_least) delta.1 delta.2 cut.1 cut.2)

pub returns-in_default-try_from-clause-fault : goal.returns-in_default-try_from-clause-fault
returns-in_default-try_from-clause-fault c =
    let bytes = c.args.bytes.now in
    let delta = c.in-Some.ensures.some in
    let len = c.in-Some-extended.ensures.some in
    let head : BeginsOption bytes c.in-Some.delta c.in-Some-extended.len c.in-Some-extended.rest.now = begins bytes (get_or bytes 0 0) (take (length bytes - 1) (drop 1 bytes)) delta.0 c.in-Some.rest.now len.0 c.in-Some-extended.rest.now c.in-Some.delta c.in-Some-extended.len (first_one bytes c.in-len1-up.len_at_least) delta.1 delta.2 len.1 len.2 in
    inr (c.in-Some.delta, c.in-Some-extended.len, c.in-Some-extended.rest.now, head, omega (arith, c.in_default-try_from.ensures))

pub returns-then-rest-len-clause-fault : goal.returns-then-rest-len-clause-fault
returns-then-rest-len-clause-fault c =
    let bytes = c.args.bytes.now in
    let delta = c.in-Some.ensures.some in
    let len = c.in-Some-extended.ensures.some in
    let head : BeginsOption bytes c.in-Some.delta c.in-Some-extended.len c.in-Some-extended.rest.now = begins bytes (get_or bytes 0 0) (take (length bytes - 1) (drop 1 bytes)) delta.0 c.in-Some.rest.now len.0 c.in-Some-extended.rest.now c.in-Some.delta c.in-Some-extended.len (first_one bytes c.in-len1-up.len_at_least) delta.1 delta.2 len.1 len.2 in
    inr (c.in-Some.delta, c.in-Some-extended.len, c.in-Some-extended.rest.now, head, omega (arith, c.in-Ok.ensures), omega arith)

pub returns-clause-found : goal.returns-clause-found
returns-clause-found c =
    let bytes = c.args.bytes.now in
    let delta = c.in-Some.ensures.some in
    let len = c.in-Some-extended.ensures.some in
    let head : BeginsOption bytes c.in-Some.delta c.in-Some-extended.len c.in-Some-extended.rest.now = begins bytes (get_or bytes 0 0) (take (length bytes - 1) (drop 1 bytes)) delta.0 c.in-Some.rest.now len.0 c.in-Some-extended.rest.now c.in-Some.delta c.in-Some-extended.len (first_one bytes c.in-len1-up.len_at_least) delta.1 delta.2 len.1 len.2 in
    rw (c.split_at.ensures.front, c.split_at.ensures.back) (found bytes c.args.before c.in-Some.delta c.in-Some-extended.len c.in-Ok.number c.in-Some-extended.rest.now head (omega arith) (omega (arith, c.in-Ok.ensures)) (omega (arith, c.in-Ok.ensures)))
