use Rattle.std.proofs.Common.{List, subst, sym}
use Rattle.lw_stamp.specs.Moment.{ms_of}
use Rattle.lw_reg.specs.Marks.{Mark, NamesAll, among}
use Rattle.lw_reg.specs.Reading.{shown_in}
use Rattle.lw_reg.specs.State.{IsStateOf}
use Rattle.lw_table.specs.LookUps.{ByAddress}
use Rattle.lw_table.specs.Rows.{state_in}
use Rattle.lw_table.specs.Table.{TableContent}
use Rattle.lw_table.specs.inner.Found.{holder_of}
use Rattle.lw_table.specs.inner.Rows.{IsFiledUnder}
use Rattle.lw_table.proofs.Answering.{read_by_address, marks_by_address}
use Rattle.lw_table.proofs.PlaceLemmas.{keys_under}
use Rattle.lw_table.proofs.table.Table.by_address.Goals as goal

pub last_holder-requires : goal.last_holder-requires
last_holder-requires c = c.self.invariant.0

pub returns-clause-read : goal.returns-clause-read
returns-clause-read c =
    let rows = c.self.inside.rows in
    let keys = c.self.inside.filed.keys in
    subst (ByAddress (shown_in c.args.self.now.state) (ms_of c.args.now) c.args.address) (sym c.held.ensures)
    (subst (λ (t : TableContent). ByAddress (shown_in t.state) (ms_of c.args.now) c.args.address (holder_of c.last_holder.result)) c.self.view_is
    (read_by_address (state_in rows) (ms_of c.args.now) (IsFiledUnder rows.rows.items keys) (keys_under rows c.self.invariant.0 keys c.self.invariant.1.keys_are) c.args.address c.last_holder.result c.last_holder.ensures))

pub returns-clause-marks : goal.returns-clause-marks
returns-clause-marks c ms p s =
    let rows = c.self.inside.rows in
    let keys = c.self.inside.filed.keys in
    subst (ByAddress (among ms) (ms_of c.args.now) c.args.address) (sym c.held.ensures)
    (subst (λ (t : TableContent). (ms : List Mark) → NamesAll (among ms) → IsStateOf ms t.state → ByAddress (among ms) (ms_of c.args.now) c.args.address (holder_of c.last_holder.result)) c.self.view_is
    (marks_by_address (state_in rows) (ms_of c.args.now) (IsFiledUnder rows.rows.items keys) (keys_under rows c.self.invariant.0 keys c.self.invariant.1.keys_are) c.args.address c.last_holder.result c.last_holder.ensures) ms p s)
