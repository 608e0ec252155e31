use Rattle.std.proofs.Common.{refl, arith}
use Rattle.std.proofs.lemmas.Option.{slice_get-get_or}
use Rattle.lw_crew.proofs.Claiming.{all_true, each_true, may_be_told, none_yet, one_more}
use Rattle.lw_crew.proofs.checking.first_untrue.Goals as goal

pub loop-place-init : goal.loop-place-init
loop-place-init c = none_yet _ _ _ _ _

pub loop-place-preserved : goal.loop-place-preserved
loop-place-preserved c = one_more _ _ _ _ _ _ _ _ _ c.requires.next c.requires.passes (slice_get-get_or _ _ _ c.loop-place-test.true) (c.if-not-is_told.ensures.told refl) c.loop-place.invariant

pub returns-clause-all : goal.returns-clause-all
returns-clause-all c = all_true _ _ _ _ _ _ _ c.loop-place-test.false c.loop-place.invariant

pub returns-clause-each : goal.returns-clause-each
returns-clause-each c = each_true _ _ _ _ _ _ _ _ c.loop-place-test.false c.loop-place.invariant

pub returns-then-not-is_told-clause-untrue : goal.returns-then-not-is_told-clause-untrue
returns-then-not-is_told-clause-untrue c = (
  _,
  slice_get-get_or _ _ _ c.loop-place-test.true,
  each_true _ _ _ _ _ _ _ _ (omega arith) c.loop-place.invariant,
  λ is. c.if-not-is_told.ensures.refused (λ e. cc) (may_be_told _ _ _ _ _ _ _ _ c.loop-place.invariant is),
)
