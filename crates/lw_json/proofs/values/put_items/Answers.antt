use Rattle.std.proofs.Common.{◌≡◌, ◌+◌, ◌++◌, ◌∷◌, ◌∙◌, ap, sym, append_assoc, drop, map}
use Rattle.std.proofs.lemmas.List.{drop_more}
use Rattle.json.specs.Tree.{items_tokens}
use Rattle.serde_json.specs.View.{items_of}
use Rattle.serde_json.specs.Written.{items_outline}
use Rattle.lw_json.specs.inner.Tokens.{data_tokens}
use Rattle.lw_json.proofs.values.put_items.Goals as goal

pub loop-item-preserved : goal.loop-item-preserved
loop-item-preserved g c =
    let items = c.args.items.now in
    let i = c.loop-item.item-index in
    let one = c.item-item.result in
    let old = c.loop-item.out.tokens in
    let put = c.in_ok-put.ensures in
    let rest = items_tokens (items_outline (items_of (map g.T.Print.json (drop (i + 1) items)))) in
    let front : drop i items ≡ one ∷ drop (i + 1) items = drop_more items i one c.loop-item-test.true ∙ ap (λ r. r ∷ drop (i + 1) items) (sym c.item-item.is) in
    record {
      added = ap (λ ts. ts ++ rest) put.ok ∙ append_assoc old (data_tokens (g.T.Print.json one)) rest
          ∙ ap (λ left. old ++ items_tokens (items_outline (items_of (map g.T.Print.json left)))) (sym front) ∙ c.loop-item.invariant.added;
      before = put.before ∙ c.loop-item.invariant.before;
    }
