use Rattle.std.proofs.Common.{◌∙◌}
use Rattle.lw_table.proofs.CopyLemmas.{copied_content, copied_table}
use Rattle.lw_table.proofs.table.Table.copy.Goals as goal

pub copies-requires : goal.copies-requires
copies-requires c = c.self.invariant.0

pub invariant_of-result : goal.invariant_of-result
invariant_of-result c =
    let copies = c.in_ok-filed.ensures in
    (copies.are_rows, copied_table c.self.inside.rows c.in_ok-filed.rows c.in_ok-filed.filed copies c.self.inside.filed c.self.inside.change c.self.invariant.0 c.self.invariant.1)

pub returns : goal.returns
returns c = copied_content c.self.inside.rows c.in_ok-filed.rows c.in_ok-filed.filed c.in_ok-filed.ensures c.self.inside.filed c.self.inside.change c.self.invariant.0 c.self.invariant.1 ∙ c.self.view_is
