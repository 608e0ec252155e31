use Rattle.std.proofs.lemmas.Result.{err_from_is_err_and}
use Rattle.lw_delta.proofs.Answering.{walked_spelled}
use Rattle.lw_delta.proofs.checking.walked_clock.Goals as goal

pub returns-in_err-walked : goal.returns-in_err-walked
returns-in_err-walked c =
    let p = err_from_is_err_and c.from_residual.result c.from_residual.ensures.1 in
    rw (p.1, p.2) c.in_err-walked.ensures.fault

pub returns : goal.returns
returns c = let w = c.in_ok-walked.ensures.found in (w.ss, walked_spelled c.args.bytes.now c.in_ok-walked.walked w)
