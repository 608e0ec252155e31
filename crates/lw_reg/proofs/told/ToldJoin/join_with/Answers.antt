use Rattle.std.proofs.Common.{◌∙◌, sym, ap}
use Rattle.lw_reg.specs.inner.Repr.{told_in}
use Rattle.lw_reg.proofs.NothingLemmas.{nothing_joined}
use Rattle.lw_reg.proofs.told.ToldJoin.join_with.Goals as goal

pub returns-in-Nothing-clause-ok : goal.returns-in-Nothing-clause-ok
returns-in-Nothing-clause-ok c = nothing_joined c.args.self.now c.args.other (sym c.other.view_is ∙ ap told_in c.in-Nothing.is)
