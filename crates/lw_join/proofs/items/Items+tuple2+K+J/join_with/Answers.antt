use Rattle.std.proofs.Common.{◌∙◌}
use Rattle.std.proofs.lemmas.Bool.{false≢true}
use Rattle.lw_join.specs.Entries.{missing}
use Rattle.lw_join.proofs.items.Items+tuple2+K+J.join_with.Goals as goal

pub returns-in_err-room-clause-never_refused : goal.returns-in_err-room-clause-never_refused
returns-in_err-room-clause-never_refused g c = λ none.
    absurd (false≢true (c.in_err-room.ensures.never_refused ((λ i. missing g.K.Ord.cmp (c.self.view_is i) (c.deref.ensures.value i)) ∙ (λ i. missing g.K.Ord.cmp c.args.self.now (c.other.view_is i)) ∙ none)))
