use Rattle.std.proofs.Common.{◌≡◌, ◌+◌, ◌++◌, ◌∷◌, [], ◌∙◌, ap, refl, subst, sym, map, take}
use Rattle.std.proofs.lemmas.List.{map-append, take_more}
use Rattle.lw_reg.specs.Showing.{ShownOf}
use Rattle.lw_stamp.specs.Moment.{ms_of}
use Rattle.lw_json.specs.declared.changes.Change.{Change}
use Rattle.lw_json.specs.Changes.{change_of}
use Rattle.lw_api.specs.inner.Changes.{moved_of, AreShown}
use Rattle.lw_api.proofs.ChangeLemmas.{shown_more}
use Rattle.lw_api.proofs.Knowing.{of_known}
use Rattle.lw_api.proofs.changes.shown.Goals as goal

pub loop-change-preserved : goal.loop-change-preserved
loop-change-preserved c =
    let node = c.args.node.now in
    let now = ms_of c.args.now in
    let moved = c.args.moved.now in
    let i = c.loop-change.change-index in
    let one = c.change-item.result in
    let change : Change = record { number = one.number; endpoint = one.endpoint; registration = c.by_endpoint.result } in
    let front : take (i + 1) moved ≡ take i moved ++ one ∷ [] = take_more moved i one c.loop-change-test.true ∙ ap (λ r. take i moved ++ r ∷ []) (sym c.change-item.is) in
    subst (λ l. AreShown node now l (map change_of c.push.new.self.items))
    (sym (ap (map moved_of) front ∙ map-append moved_of (take i moved) (one ∷ [])))
    (subst (λ l. AreShown node now (map moved_of (take i moved) ++ moved_of one ∷ []) l)
    (sym (ap (map change_of) c.in_ok-push.ensures.items ∙ map-append change_of c.loop-change.changes.items (change ∷ [])))
    (shown_more node now (map moved_of (take i moved)) (map change_of c.loop-change.changes.items) (moved_of one) (change_of change) c.loop-change.invariant refl
    (of_known node.table.state (λ M. ShownOf M now one.endpoint.now c.by_endpoint.result) c.by_endpoint.ensures.read c.by_endpoint.ensures.marks)))
