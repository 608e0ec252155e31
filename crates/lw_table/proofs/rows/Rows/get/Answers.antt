use Rattle.std.proofs.Common.{◌≡◌, Some, sym, ◌∙◌, ap, rules}
use Rattle.lw_table.specs.Rows.{name_of, place_of}
use Rattle.lw_table.proofs.RowLemmas.{at_place, some_same, there_of, row_there}
use Rattle.lw_table.proofs.rows.Rows.get.Goals as goal

pub returns-clause-named : goal.returns-clause-named
returns-clause-named c =
    let m = c.args.self.now in
    let e = c.args.endpoint.now in
    let is : place_of m e ≡ Some c.in_ok-place.place = search rules in
    let there = at_place m c.requires e c.in_ok-place.place c.index-named.result.now is c.index-named.ensures in
    let own = there_of m c.requires e c.in_ok-place.place is in
    c.as_str.ensures.value ∙ ap name_of (some_same _ own.0 (sym there ∙ own.1)) ∙ own.2

pub returns-clause-row : goal.returns-clause-row
returns-clause-row c =
    let m = c.args.self.now in
    let e = c.args.endpoint.now in
    let is : place_of m e ≡ Some c.in_ok-place.place = search rules in
    sym (row_there m e c.in_ok-place.place c.index-named.result.now is (at_place m c.requires e c.in_ok-place.place c.index-named.result.now is c.index-named.ensures))
