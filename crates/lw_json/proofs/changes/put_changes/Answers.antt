use Rattle.std.proofs.lemmas.Simd.{map-map}
use Rattle.lw_json.specs.Changes.{change_of, change_json}
use Rattle.lw_json.proofs.TokenLemmas.{items_as}
use Rattle.lw_json.proofs.changes.put_changes.Goals as goal

pub returns : goal.returns
returns c = rw (map-map change_json change_of c.args.page.now.changes.items) (items_as (λ change. change_json (change_of change)) c.deref.ensures.value c.put_all.ensures)
