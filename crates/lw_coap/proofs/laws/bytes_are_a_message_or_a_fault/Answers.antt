use Rattle.lw_coap.proofs.Messages.{never_both, one_fault}
use Rattle.lw_coap.proofs.Total.{message_or_fault}
use Rattle.lw_coap.proofs.laws.bytes_are_a_message_or_a_fault.Goals as goal

pub returns-clause-some : goal.returns-clause-some
returns-clause-some c = message_or_fault

pub returns-clause-apart : goal.returns-clause-apart
returns-clause-apart c = never_both

pub returns-clause-one : goal.returns-clause-one
returns-clause-one c = one_fault
