use Rattle.std.proofs.Common.{◌≡◌, ◌∷◌, ◌++◌, [], refl, ap, ◌∙◌, subst, rules}
use Rattle.std.specs.Prelude.{string_bytes}
use Rattle.std.specs.BTreeMap.{get_by_text}
use Rattle.std.specs.BTreeMap as tree
use Rattle.std.specs.Ordering.{nat_cmp}
use Rattle.lw_table.specs.Rows.{end_of, first_or, place_of}
use Rattle.lw_table.specs.declared.rows.NamedRow.{NamedRow}
use Rattle.lw_table.specs.declared.rows.Rows.{Rows}
use Rattle.lw_table.specs.inner.Moves.{FilesEither, FilesPlace}
use Rattle.lw_table.proofs.RowLemmas.{no_place, row_is_put}
use Rattle.lw_table.proofs.rows.Rows.insert.Goals as goal

pub file-requires-clause-absent : goal.file-requires-clause-absent
file-requires-clause-absent c =
    let m = c.args.self.now in
    let e = c.as_str.result.now in
    ap (λ xs. first_or xs e (tree.get nat_cmp m.firsts (end_of e)) (get_by_text m.others e)) c.reserve.ensures.items
    ∙ ap (place_of m) c.as_str.ensures.value
    ∙ no_place m c.requires.rows (string_bytes c.args.endpoint) c.requires.absent

pub returns-clause-put : goal.returns-clause-put
returns-clause-put c =
    let m = c.args.self.now in
    let e = string_bytes c.args.endpoint in
    let q = c.as_str.ensures.value in
    let begun : Rows = record m { rows = c.reserve.new.self } in
    let n : Rows = record c.file.new.self { rows = c.push_reserved.new.self } in
    let w : NamedRow = record { endpoint = c.args.endpoint; row = c.args.row } in
    let files : FilesPlace c.as_str.result.now c.args.place begun c.file.new.self = search rules in
    let items : n.rows.items ≡ m.rows.items ++ w ∷ [] = search rules in
    row_is_put m n e w c.requires.rows refl (no_place m c.requires.rows e c.requires.absent) items files.firsts_rise files.others_rise
    (subst (λ k. FilesEither e k m n) c.requires.place (subst (λ k. FilesEither k c.args.place m n) q files.filed))
