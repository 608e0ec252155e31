use Rattle.std.proofs.Common.{sym, subst}
use Rattle.lw_held.specs.Agree.{IsFirstBreak, IsFineIn}
use Rattle.lw_held.proofs.Agreement.{Meet, meet_breaks, fine_breaks}
use Rattle.lw_held.proofs.agreeing.first_failing.Goals as goal

pub returns : goal.returns
returns c =
    let node = c.args.node in
    let volumes = c.args.volumes.now in
    let held = c.args.held.now in
    let passes = c.args.passes.now in
    let numbered = c.first_stray_of_all.ensures.numbered in
    let parts = subst (IsFirstBreak (Meet node volumes held passes c.requires.distinct numbered)) (sym c.lesser-parts.ensures)
    (meet_breaks node volumes held passes c.requires.distinct numbered _ _ c.first_stray_of_all.ensures.least c.first_untold_of_all.ensures) in
    subst (λ o. IsFirstBreak (IsFineIn node volumes held passes) o) (sym c.lesser.ensures)
    (fine_breaks node volumes held passes c.requires.distinct numbered _ _ parts c.first_unlaid.ensures)
