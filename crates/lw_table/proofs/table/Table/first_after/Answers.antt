use Rattle.std.proofs.Common.{subst}
use Rattle.lw_stamp.specs.Moment.{ms_of}
use Rattle.lw_table.specs.Answers.{after_text}
use Rattle.lw_table.specs.Table.{IsTable}
use Rattle.lw_table.specs.Rows.{held_in}
use Rattle.lw_table.proofs.Answering as answering
use Rattle.lw_table.proofs.table.Table.first_after.Goals as goal

pub returns-clause-read : goal.returns-clause-read
returns-clause-read c =
    let table = subst (IsTable c.self.inside.filed.keys c.self.inside.filed.numbers c.self.inside.filed.due (held_in c.self.inside.rows)) c.self.view_is c.self.invariant.1 in
    answering.read_first_after c.self.inside.filed.keys c.self.inside.filed.numbers c.self.inside.filed.due c.args.self.now table (ms_of c.args.now) (after_text c.args.after) c.first_shown_after.ensures.rising c.first_shown_after.result c.first_shown_after.ensures.found

pub returns-clause-marks : goal.returns-clause-marks
returns-clause-marks c =
    let table = subst (IsTable c.self.inside.filed.keys c.self.inside.filed.numbers c.self.inside.filed.due (held_in c.self.inside.rows)) c.self.view_is c.self.invariant.1 in
    answering.marks_first_after c.self.inside.filed.keys c.self.inside.filed.numbers c.self.inside.filed.due c.args.self.now table (ms_of c.args.now) (after_text c.args.after) c.first_shown_after.ensures.rising c.first_shown_after.result c.first_shown_after.ensures.found
