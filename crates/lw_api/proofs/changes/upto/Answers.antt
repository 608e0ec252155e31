use Rattle.std.proofs.Common.{◌≡◌, ◌+◌, ◌++◌, ◌∷◌, [], ◌∙◌, ap, sym, map, take}
use Rattle.std.proofs.lemmas.List.{map-append, take_more}
use Rattle.lw_table.specs.Changes.{upto_of}
use Rattle.lw_api.specs.inner.Changes.{moved_of}
use Rattle.lw_api.proofs.ChangeLemmas.{upto_more}
use Rattle.lw_api.proofs.changes.upto.Goals as goal

pub loop-change-preserved : goal.loop-change-preserved
loop-change-preserved c =
    let since = c.args.since in
    let moved = c.args.moved.now in
    let i = c.loop-change.change-index in
    let one = c.change-item.result in
    let front : take (i + 1) moved ≡ take i moved ++ one ∷ [] = take_more moved i one c.loop-change-test.true ∙ ap (λ r. take i moved ++ r ∷ []) (sym c.change-item.is) in
    sym (ap (λ l. upto_of since (map moved_of l)) front ∙ ap (upto_of since) (map-append moved_of (take i moved) (one ∷ []))
    ∙ upto_more since (map moved_of (take i moved)) (moved_of one))
