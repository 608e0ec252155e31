use Rattle.lw_replica.proofs.Beginnings.{uncut_by, uncut_none}
use Rattle.lw_replica.proofs.looking.FirstLook.is_cut.Goals as goal

pub returns-then-self : goal.returns-then-self
returns-then-self c = λ es seen h. uncut_by es (seen.whole c.if-self.true)

pub returns : goal.returns
returns c = λ es seen h. uncut_none c.args.self.now es seen h
