use Rattle.std.proofs.Common.{subst}
use Rattle.lw_due.specs.Due.{kept_in}
use Rattle.lw_table.specs.Table.{IsTable}
use Rattle.lw_table.specs.Rows.{held_in}
use Rattle.lw_table.proofs.KeptLemmas.{kept_rise, kept_there}
use Rattle.lw_table.proofs.table.Table.registrations.Goals as goal

pub returns : goal.returns
returns c =
    let due = c.self.inside.filed.due in
    let table = subst (IsTable c.self.inside.filed.keys c.self.inside.filed.numbers due (held_in c.self.inside.rows)) c.self.view_is c.self.invariant.1 in
    let rising = c.kept_count.ensures.rising in (
      kept_in due,
      kept_rise due rising,
      λ e. (λ there. (table.kept_are e).0 ((kept_there e due rising).0 there), λ kept. (kept_there e due rising).1 ((table.kept_are e).1 kept)),
      c.kept_count.ensures.count,
    )
