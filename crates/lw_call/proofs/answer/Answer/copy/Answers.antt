use Rattle.lw_call.proofs.answer.Answer.copy.Goals as goal

pub returns-in-Changed-clause-found : goal.returns-in-Changed-clause-found
returns-in-Changed-clause-found c = tt
