use Rattle.lw_index.proofs.TextLemmas.{texts_rise}
use Rattle.lw_index.proofs.endpoints.Endpoints.several.Goals as goal

pub returns-clause-rising : goal.returns-clause-rising
returns-clause-rising c = rw c.iter.ensures.rest (texts_rise c.args.endpoints.now.keys c.iter.ensures.ordered)
