use Rattle.std.proofs.Common.{length, refl, ap, arith}
use Rattle.lw_reg.proofs.sms_number.SmsNumber.new.Goals as goal

pub returns-clause-accepted : goal.returns-clause-accepted
returns-clause-accepted c = (λ h. omega (arith, ap length c.as_str.ensures), λ within. refl)
