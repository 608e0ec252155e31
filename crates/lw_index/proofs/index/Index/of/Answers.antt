use Rattle.std.proofs.Common.{rules}
use Rattle.lw_index.proofs.TextLemmas.{nothing_rises}
use Rattle.lw_index.proofs.index.Index.of.Goals as goal

pub returns-in-None-clause-rising : goal.returns-in-None-clause-rising
returns-in-None-clause-rising g c = rw c.none.ensures nothing_rises

pub returns-in-None-clause-endpoints : goal.returns-in-None-clause-endpoints
returns-in-None-clause-endpoints c = search rules
