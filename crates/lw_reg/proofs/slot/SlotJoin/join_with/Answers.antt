use Rattle.std.proofs.Common.{ap}
use Rattle.std.proofs.lemmas.Result.{on_ok_weaker, on_err_weaker}
use Rattle.lw_reg.specs.declared.slot.Slot.{Slot}
use Rattle.lw_reg.proofs.slot.SlotJoin.join_with.Goals as goal

pub returns-clause-ok : goal.returns-clause-ok
returns-clause-ok c = on_ok_weaker c.join_with.result (λ joined. ap {B = Slot} (λ r. record { registration = r }) joined) c.join_with.ensures.ok

pub returns-clause-err : goal.returns-clause-err
returns-clause-err c = on_err_weaker c.join_with.result (λ kept. ap {B = Slot} (λ r. record { registration = r }) kept) c.join_with.ensures.err

pub returns-clause-never_refused : goal.returns-clause-never_refused
returns-clause-never_refused c = c.join_with.ensures.never_refused
