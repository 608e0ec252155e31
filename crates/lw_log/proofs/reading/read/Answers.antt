use Rattle.std.proofs.Common.{inl, inr, arith}
use Rattle.lw_log.specs.Entries.{body_content}
use Rattle.lw_log.specs.EntryFaults.{IsFault, kind_in, body_in}
use Rattle.lw_log.specs.inner.Reading.{IsBodyOf}
use Rattle.lw_log.proofs.Entries.{read_entry_is, raised}
use Rattle.lw_log.proofs.reading.read.Goals as goal

pub returns-in_err-head-clause-fault : goal.returns-in_err-head-clause-fault
returns-in_err-head-clause-fault c = raised (IsFault c.args.bytes.now) c.from_residual.result c.from_residual.ensures.1 (inl c.in_err-head.ensures.fault)

pub returns-in_err-body-clause-fault : goal.returns-in_err-body-clause-fault
returns-in_err-body-clause-fault c =
    let h = c.in_ok-head.ensures.found in
    let bytes = c.args.bytes.now in
    raised (IsFault bytes) c.from_residual-in_err-body.result c.from_residual-in_err-body.ensures.1 (inr (h.whole, rw (← h.kind, ← h.body) c.in_err-body.ensures.fault))

pub returns-clause-found : goal.returns-clause-found
returns-clause-found c =
    let h = c.in_ok-head.ensures.found in
    let bytes = c.args.bytes.now in
    let body : IsBodyOf (kind_in bytes) (body_in bytes) (body_content c.in_ok-body.body) = rw (← h.kind, ← h.body) c.in_ok-body.ensures.found in
    read_entry_is bytes _ (λ i. omega (arith, c.type_inv.bytes i)) h.whole h.fleet h.number h.fits.0 h.tag h.fits.1 h.sequence h.fits.2 body
