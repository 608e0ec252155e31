use Rattle.lw_link.proofs.Decided.{read_or_fault}
use Rattle.lw_link.proofs.Outcomes.{apart, one_fault}
use Rattle.lw_link.proofs.laws.bytes_spell_a_list_or_have_a_fault.Goals as goal

pub returns-clause-some : goal.returns-clause-some
returns-clause-some c = read_or_fault

pub returns-clause-apart : goal.returns-clause-apart
returns-clause-apart c = apart

pub returns-clause-one : goal.returns-clause-one
returns-clause-one c = one_fault
