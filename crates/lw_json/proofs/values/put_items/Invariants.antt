use Rattle.std.proofs.Common.{◌≡◌, ◌++◌, drop, map}
use Rattle.json.specs.Tree.{items_tokens}
use Rattle.serde_json.specs.View.{items_of}
use Rattle.serde_json.specs.Written.{items_outline}
use Rattle.lw_json.proofs.values.put_items.Given as goal

abbrev pub invariant-loop-item : goal.invariant-loop-item
invariant-loop-item g l = record {
  added : l.out.tokens ++ items_tokens (items_outline (items_of (map g.T.Print.json (drop l.item-index l.items)))) ≡ l.fn.out.tokens ++ items_tokens (items_outline (items_of (map g.T.Print.json l.items)));
  before : l.out.before ≡ l.fn.out.before;
}
