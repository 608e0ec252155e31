use Rattle.lw_stamp.proofs.TextLemmas.{text_order}
use Rattle.lw_due.proofs.NoteLemmas.{note_of-changed, note_of-changed_other}
use Rattle.lw_due.proofs.laws.an_entry_is_kept.Goals as goal

pub returns-clause-itself : goal.returns-clause-itself
returns-clause-itself c e kept xs = note_of-changed e (λ note. (kept, note.1)) xs

pub returns-clause-others : goal.returns-clause-others
returns-clause-others c n e kept xs other = note_of-changed_other n e (λ note. (kept, note.1)) xs (λ tie. other (text_order.exact n e tie))
