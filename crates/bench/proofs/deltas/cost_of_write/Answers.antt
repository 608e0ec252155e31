use Rattle.std.proofs.Common.{◌<◌, ◌^◌, None, sym, subst}
use Rattle.lw_delta.specs.Delta.{DeltaContent}
use Rattle.lw_delta.specs.Writable.{AllFollow}
use Rattle.lw_delta.proofs.Fitting.{spelled_fits}
use Rattle.bench.proofs.deltas.cost_of_write.Goals as goal

pub write-requires : goal.write-requires
write-requires g c =
    let P : DeltaContent → Type 0 = λ d. (d.clock < 2 ^ 48) × AllFollow d.clock None d.slots in
    let h = subst P (sym c.delta.view_is) (spelled_fits c.args.bytes.now c.in_ok-delta.delta c.in_ok-delta.ensures.found) in
    record { in_range = h.0; follow = rw c.deref.ensures.value h.1 }
