use Rattle.std.proofs.Common.{refl, rules, arith}
use Rattle.lw_stamp.proofs.moment.Moment.new.Goals as goal

pub returns-clause-in_range : goal.returns-clause-in_range
returns-clause-in_range c = (λ _. omega arith, λ _. refl)

pub returns-clause-value : goal.returns-clause-value
returns-clause-value c = search rules
