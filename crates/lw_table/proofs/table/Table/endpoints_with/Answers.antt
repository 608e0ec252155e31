use Rattle.std.proofs.Common.{map, subst, sym}
use Rattle.std.specs.FinMap.{get}
use Rattle.std.specs.Prelude.{◌↔◌, Contains}
use Rattle.lw_table.specs.Keys.{OptionHasKey}
use Rattle.lw_table.specs.Rows.{state_in}
use Rattle.lw_table.specs.Table.{TableContent}
use Rattle.lw_table.specs.inner.Rows.{IsFiledUnder}
use Rattle.lw_table.proofs.PlaceLemmas.{keys_under}
use Rattle.lw_table.proofs.table.Table.endpoints_with.Goals as goal

pub returns-clause-members : goal.returns-clause-members
returns-clause-members c = λ e.
    let ordered = c.in_order.ensures.members e in
    let under = c.in_ok-endpoints.ensures e in
    let filed = subst (λ rows. IsFiledUnder rows c.self.inside.filed.keys c.args.key e ↔ OptionHasKey (get (state_in c.self.inside.rows) e) c.args.key) (sym c.deref.ensures.value)
    (keys_under c.self.inside.rows c.self.invariant.0 c.self.inside.filed.keys c.self.invariant.1.keys_are c.args.key e) in
    subst (λ (t : TableContent). Contains (map (λ x. x.now) c.in_order.result.items) e ↔ OptionHasKey (get t.state e) c.args.key) c.self.view_is
    (λ h. filed.0 (under.0 (ordered.0 h)), λ h. ordered.1 (under.1 (filed.1 h)))
