use Rattle.std.proofs.Common.{◌-◌, List, ℕ, length, take, drop}
use Rattle.std.proofs.lemmas.List.{take_rest}
use Rattle.lw_link.proofs.Passed.{link_at}
use Rattle.lw_link.proofs.runs.link_in.Goals as goal

pub returns-then-rest-count-eq62 : goal.returns-then-rest-count-eq62
returns-then-rest-count-eq62 c =
    let bytes = c.args.bytes.now in
    let rest : List ℕ = take (length bytes - 2) (drop 2 bytes) in
    link_at bytes rest c.run_in-count.result c.if-bytes-lt3.false c.if-bytes-ne44.false c.if-bytes-ne60.false (take_rest bytes 2) c.if-count-rest.true c.if-rest-count-eq62.true c.run_in-count.ensures.kept
