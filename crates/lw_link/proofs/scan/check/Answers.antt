use Rattle.std.proofs.Common.{◌≡◌, ◌<◌, List, ℕ, subst, arith, chars, length, true, ap}
use Rattle.lw_link.specs.declared.style.Style.TheVariants.{Any}
use Rattle.lw_link.specs.declared.state.State.TheVariants.{Start}
use Rattle.lw_link.specs.inner.Machine.{read_on, Leaves}
use Rattle.lw_link.proofs.Sound.{whole_are}
use Rattle.lw_link.proofs.Places.{place_is, not_spelled}
use Rattle.lw_link.proofs.scan.check.Goals as goal

pub returns-in-Ok-2-clause-fault : goal.returns-in-Ok-2-clause-fault
returns-in-Ok-2-clause-fault c =
    let cs = chars c.args.bytes.now in
    let u = c.in-Ok.ensures.cases in
    let whole : (read_on Any Start cs).whole ≡ true = subst (λ (x : List ℕ). (read_on Any Start (chars x)).whole ≡ true) u.0 c.in-Ok-2.ensures.whole in
    let many : 256 < length (read_on Any Start cs).links = omega (arith, c.if-links-le-MAX_LINKS.false, c.in-Ok-scan.ensures.links, ap (λ (x : List ℕ). length (read_on Any Start (chars x)).links) u.0) in
    ((read_on Any Start cs).links, (u.1, whole_are Any cs Start whole), many)

pub returns-in-Err-clause-fault : goal.returns-in-Err-clause-fault
returns-in-Err-clause-fault c =
    let bytes = c.args.bytes.now in
    let u = c.in-Ok.ensures.cases in
    let leaves : Leaves Any (chars bytes) c.in-Err.place = subst (λ (x : List ℕ). Leaves Any (chars x) c.in-Err.place) u.0 c.in-Err.ensures.place in
    (u.1, not_spelled bytes c.in-Err.place leaves, place_is bytes c.in-Err.place u.1 leaves)
