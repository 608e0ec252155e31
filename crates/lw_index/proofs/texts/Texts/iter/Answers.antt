use Rattle.lw_index.proofs.TextLemmas.{one_rises}
use Rattle.lw_index.proofs.texts.Texts.iter.Goals as goal

pub returns-in-One-clause-rising : goal.returns-in-One-clause-rising
returns-in-One-clause-rising c = rw c.one.ensures (one_rises c.as_str.result.now)
