use Rattle.std.proofs.Common.{sym, ap, ◌∙◌}
use Rattle.std.specs.FinMap.{get}
use Rattle.std.specs.Option.{option_map}
use Rattle.lw_table.specs.declared.row.Row.{Row}
use Rattle.lw_table.specs.Table.{TableContent}
use Rattle.lw_table.proofs.TableLemmas.{get-state, slot_is}
use Rattle.lw_table.proofs.table.Table.slot.Goals as goal

pub get-requires : goal.get-requires
get-requires c = c.self.invariant.0

pub returns-in_err-endpoint-clause-slot : goal.returns-in_err-endpoint-clause-slot
returns-in_err-endpoint-clause-slot c =
    let e = c.args.endpoint.now in
    ap (option_map (λ x. x.1.now)) c.from_residual.ensures
    ∙ ap (option_map (λ (row : Row). row.slot)) c.in_err-endpoint.ensures.row
    ∙ slot_is _
    ∙ sym (get-state c.self.inside.rows c.self.invariant.0 e)
    ∙ ap (λ (t : TableContent). get t.state e) c.self.view_is

pub returns-clause-slot : goal.returns-clause-slot
returns-clause-slot c =
    let e = c.args.endpoint.now in
    ap (option_map (λ (row : Row). row.slot)) c.in_ok-endpoint.ensures.row
    ∙ slot_is _
    ∙ sym (get-state c.self.inside.rows c.self.invariant.0 e)
    ∙ ap (λ (t : TableContent). get t.state e) c.self.view_is
