use Rattle.lw_path.proofs.NumberLemmas.{step_none}
use Rattle.lw_path.proofs.steps.StepPart.read.Goals as goal

pub returns-then-number-gt-MAX_NUMBER-clause-none : goal.returns-then-number-gt-MAX_NUMBER-clause-none
returns-then-number-gt-MAX_NUMBER-clause-none c =
    λ value is. step_none _ _ c.in_ok-number.ensures.found c.if-number-gt-MAX_NUMBER.true value.0 is
