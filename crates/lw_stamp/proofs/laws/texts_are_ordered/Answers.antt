use Rattle.lw_stamp.proofs.TextLemmas.{text_order}
use Rattle.lw_stamp.proofs.laws.texts_are_ordered.Goals as goal

pub returns-clause-total : goal.returns-clause-total
returns-clause-total c = text_order
