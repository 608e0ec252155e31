use Rattle.std.proofs.Common.{rules}
use Rattle.lw_reg.proofs.sms_number.SmsNumber.as_str.Goals as goal

pub returns-clause-value : goal.returns-clause-value
returns-clause-value c = search rules
