use Rattle.std.proofs.Common.{◌∙◌}
use Rattle.std.proofs.lemmas.Bool.{false≢true}
use Rattle.lw_join.specs.Entries.{missing}
use Rattle.lw_join.proofs.items.Items+tuple2+K+J.join_both.Goals as goal

pub returns-in_err-left_room-clause-never_refused : goal.returns-in_err-left_room-clause-never_refused
returns-in_err-left_room-clause-never_refused g c = λ none _.
    absurd (false≢true (c.in_err-left_room.ensures.never_refused ((λ i. missing g.K.Ord.cmp (c.self.view_is i) (c.deref.ensures.value i)) ∙ (λ i. missing g.K.Ord.cmp c.args.self.now (c.other.view_is i)) ∙ none)))

pub returns-in_err-right_room-clause-never_refused : goal.returns-in_err-right_room-clause-never_refused
returns-in_err-right_room-clause-never_refused g c = λ _ none.
    absurd (false≢true (c.in_err-right_room.ensures.never_refused ((λ i. missing g.L.Ord.cmp (c.right.view_is i) (c.deref-2.ensures.value i)) ∙ (λ i. missing g.L.Ord.cmp c.args.right.now (c.other_right.view_is i)) ∙ none)))
