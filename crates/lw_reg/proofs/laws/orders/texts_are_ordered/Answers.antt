use Rattle.std.proofs.Common.{refl}
use Rattle.lw_reg.specs.OrderLaws.{text_order}
use Rattle.lw_reg.proofs.laws.orders.texts_are_ordered.Goals as goal

pub returns-clause-endpoints : goal.returns-clause-endpoints
returns-clause-endpoints c a b = refl

pub returns-clause-sms_numbers : goal.returns-clause-sms_numbers
returns-clause-sms_numbers c a b = refl

pub returns-clause-total : goal.returns-clause-total
returns-clause-total c = text_order
