use Rattle.std.proofs.Common.{◌≡◌, inr, cond, Some, refl, subst, rules}
use Rattle.std.specs.Prelude.{bytes_eq, string_bytes}
use Rattle.std.specs.BTreeMap.{get_by_text}
use Rattle.std.proofs.lemmas.Map.Text.{btree_map_updates_text}
use Rattle.lw_table.proofs.rows.Rows.file.Goals as goal

pub returns-in_ok-insert-clause-filed : goal.returns-in_ok-insert-clause-filed
returns-in_ok-insert-clause-filed c =
    let m = c.args.self.now in
    let others = c.insert.new.self in
    let named : string_bytes c.in_ok-from_str.field-0 ≡ c.args.endpoint.now = search rules in
    record {
      firsts_rise = c.requires.rows.firsts_rise;
      others_rise = c.insert.ensures.ordered;
      filed = inr (
        record {
          at = λ k. subst (λ x. get_by_text others k ≡ cond (bytes_eq x k) (Some c.args.place) (get_by_text m.others k)) named
              (btree_map_updates_text _ m.others others (Some c.args.place) c.in_ok-insert.ensures.updates k);
        },
        refl,
      );
    }
