use Rattle.std.proofs.Common.{ℕ, ◌<◌, ◌^◌, None, sym, subst}
use Rattle.lw_delta.specs.Delta.{DeltaContent}
use Rattle.lw_delta.specs.Writable.{AllFollow}
use Rattle.lw_delta.proofs.Fitting.{spelled_fits}
use Rattle.lw_ground_tests.proofs.delta.rewritten.Goals as goal

pub write-requires : goal.write-requires
write-requires c =
    let P : DeltaContent → Type 0 = λ d. (d.clock < 2 ^ 48) × AllFollow d.clock None d.slots in
    let h = subst P (sym c.delta.view_is) (spelled_fits c.args.bytes.now c.in-Ok.delta c.in-Ok.ensures.found) in
    record { in_range = h.0; follow = rw c.deref.ensures.value h.1 }
