use Rattle.lw_due.proofs.WhereLemmas.{names_rise, first_is_next, none_is_left}
use Rattle.lw_due.proofs.laws.the_first_is_the_next.Goals as goal

pub returns-clause-rise : goal.returns-clause-rise
returns-clause-rise c = names_rise

pub returns-clause-next : goal.returns-clause-next
returns-clause-next c = first_is_next

pub returns-clause-none : goal.returns-clause-none
returns-clause-none c = none_is_left
