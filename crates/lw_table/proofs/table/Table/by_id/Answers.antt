use Rattle.std.proofs.Common.{List, subst}
use Rattle.lw_stamp.specs.Moment.{ms_of}
use Rattle.lw_reg.specs.Marks.{Mark, NamesAll, among}
use Rattle.lw_reg.specs.Reading.{shown_in}
use Rattle.lw_reg.specs.State.{IsStateOf}
use Rattle.lw_table.specs.LookUps.{ById}
use Rattle.lw_table.specs.Rows.{state_in}
use Rattle.lw_table.specs.Table.{TableContent}
use Rattle.lw_table.specs.inner.Rows.{IsFiledUnder}
use Rattle.lw_table.proofs.Answering.{read_by_id, marks_by_id}
use Rattle.lw_table.proofs.PlaceLemmas.{keys_under}
use Rattle.lw_table.proofs.table.Table.by_id.Goals as goal

pub first_shown-requires : goal.first_shown-requires
first_shown-requires c = c.self.invariant.0

pub returns-clause-read : goal.returns-clause-read
returns-clause-read c =
    let rows = c.self.inside.rows in
    let keys = c.self.inside.filed.keys in
    subst (λ (t : TableContent). ById (shown_in t.state) (ms_of c.args.now) c.args.id c.first_shown.result) c.self.view_is
    (read_by_id (state_in rows) (ms_of c.args.now) (IsFiledUnder rows.rows.items keys) (keys_under rows c.self.invariant.0 keys c.self.invariant.1.keys_are) c.args.id c.first_shown.result c.first_shown.ensures)

pub returns-clause-marks : goal.returns-clause-marks
returns-clause-marks c =
    let rows = c.self.inside.rows in
    let keys = c.self.inside.filed.keys in
    subst (λ (t : TableContent). (ms : List Mark) → NamesAll (among ms) → IsStateOf ms t.state → ById (among ms) (ms_of c.args.now) c.args.id c.first_shown.result) c.self.view_is
    (marks_by_id (state_in rows) (ms_of c.args.now) (IsFiledUnder rows.rows.items keys) (keys_under rows c.self.invariant.0 keys c.self.invariant.1.keys_are) c.args.id c.first_shown.result c.first_shown.ensures)
