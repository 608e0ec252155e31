use Rattle.std.proofs.Common.{◌≡◌, ◌<◌, length, sym, subst, rules}
use Rattle.std.specs.Prelude.{IfSome, vec_len}
use Rattle.std.specs.BTreeMap.{get_by_text}
use Rattle.lw_table.proofs.RowLemmas.{others_within}
use Rattle.lw_table.proofs.rows.Rows.place.Goals as goal

pub returns-clause-within : goal.returns-clause-within
returns-clause-within c =
    let m = c.args.self.now in
    let len : vec_len m.rows ≡ length m.rows.items = search rules in
    let is : c.copied.result ≡ get_by_text m.others c.args.endpoint.now = search rules in
    subst (λ n. IfSome c.copied.result (λ place. place < n)) (sym len) (subst (λ o. IfSome o (λ place. place < length m.rows.items)) (sym is) (others_within m c.requires c.args.endpoint.now))
