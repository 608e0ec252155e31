use Rattle.lw_path.proofs.PathLemmas.{steps_none}
use Rattle.lw_path.proofs.reading.steps.Goals as goal

pub returns-in_err-a-clause-none : goal.returns-in_err-a-clause-none
returns-in_err-a-clause-none c = steps_none _ _
    (λ x s. c.in_default.ensures.none (record { 0 = x }) s)
    (λ x y s. c.in_default-read.ensures.none (record { 0 = record { 0 = x }; 1 = record { 0 = y } }) (record { parted = s.0; first_is = s.1; others_are = s.2 }))
    (λ x y z s. c.in_default-read-2.ensures.none
    (record { 0 = record { 0 = x }; 1 = record { 0 = record { 0 = y }; 1 = record { 0 = z } } })
    (record { parted = s.0; first_is = s.1; others_are = record { parted = s.2.0; first_is = s.2.1; others_are = s.2.2 } }))
    (λ x y z w s. c.in_err-a.ensures.none
    (record { 0 = record { 0 = x }; 1 = record { 0 = record { 0 = y }; 1 = record { 0 = record { 0 = z }; 1 = record { 0 = w } } } })
    (record { parted = s.0; first_is = s.1; others_are = record { parted = s.2.0; first_is = s.2.1; others_are = record { parted = s.2.2.0; first_is = s.2.2.1; others_are = s.2.2.2 } } }))
