use Rattle.lw_reg.proofs.EndLemmas.{lifted}
use Rattle.lw_reg.proofs.body.Body.lift.Goals as goal

pub returns-in-Some-clause-lifted : goal.returns-in-Some-clause-lifted
returns-in-Some-clause-lifted c = λ at v seen.
    lifted c.args.self.now c.join_calm.new.self (c.in-Some.upto, c.in-Some.field-0-1) (at, v) c.in-Some.is c.join_calm.ensures seen
