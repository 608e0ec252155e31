use Rattle.lw_request.proofs.OneMeaning.{one_meaning}
use Rattle.lw_request.proofs.SomeMeaning.{some_meaning}
use Rattle.lw_request.proofs.laws.messages_have_one_meaning.Goals as goal

pub returns-clause-some : goal.returns-clause-some
returns-clause-some c = some_meaning

pub returns-clause-one : goal.returns-clause-one
returns-clause-one c = one_meaning
