use Rattle.std.proofs.Common.{refl, sym, subst, arith, ◌<◌, ◌+◌, length}
use Rattle.std.proofs.lemmas.Option.{slice_get_read, slice_get_within}
use Rattle.lw_held.specs.Agree.{IsFirstBreak}
use Rattle.lw_held.specs.inner.Looks.{AllFitBelow}
use Rattle.lw_held.proofs.Agreement.{all_more, all_of, numbered_more}
use Rattle.lw_held.proofs.agreeing.first_stray_of_all.Goals as goal

pub loop-pass-preserved : goal.loop-pass-preserved
loop-pass-preserved c =
    let item = slice_get_read _ _ _ _ refl c.loop-pass-test.true c.pass-item.is in
    record {
      least = subst (λ o. IsFirstBreak (AllFitBelow c.args.node c.args.volumes.now c.args.held.now c.args.passes.now (c.loop-pass.pass-index + 1)) o) (sym c.lesser-least.ensures) (all_more _ _ _ _ _ c.pass-item.result item _ _ c.loop-pass.invariant.least c.first_stray.ensures);
      numbered = numbered_more _ _ c.pass-item.result item c.lawful.ensures c.loop-pass.invariant.numbered;
    }

pub returns-clause-least : goal.returns-clause-least
returns-clause-least c = all_of _ _ _ _ _ _ c.loop-pass-test.false c.loop-pass.auto.pass-index-end c.loop-pass.invariant.least

pub returns-clause-numbered : goal.returns-clause-numbered
returns-clause-numbered c = λ i x at.
    let l : i < length c.args.passes.now = slice_get_within c.args.passes.now i x at in
    c.loop-pass.invariant.numbered i x (omega arith) at
