use Rattle.std.proofs.Common.{refl, sym, subst, ◌+◌}
use Rattle.std.proofs.lemmas.Option.{slice_get_read}
use Rattle.lw_held.specs.Agree.{IsFirstBreak}
use Rattle.lw_held.specs.inner.Looks.{AllToldBelow}
use Rattle.lw_held.proofs.Agreement.{told_all, told_first, told_more}
use Rattle.lw_held.proofs.agreeing.first_untold_of_all.Goals as goal

pub loop-volume-init : goal.loop-volume-init
loop-volume-init c = told_first _ _ c.args.held.now _ _ _ c.first.ensures.value c.journal.ensures.value _ c.first_untold-least.ensures

pub loop-volume-preserved : goal.loop-volume-preserved
loop-volume-preserved c =
    let item = slice_get_read _ _ _ _ refl c.loop-volume-test.true c.volume-item.is in
    subst (IsFirstBreak (AllToldBelow c.args.node c.args.volumes.now c.args.held.now c.args.passes.now (c.loop-volume.volume-index + 1))) (sym c.lesser-least.ensures)
    (told_more _ _ _ _ _ c.volume-item.result item _ _ c.loop-volume.invariant c.first_untold_in.ensures)

pub returns : goal.returns
returns c = told_all _ _ _ _ _ _ c.loop-volume-test.false c.loop-volume.auto.volume-index-end c.loop-volume.invariant
