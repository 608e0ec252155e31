use Rattle.std.proofs.Common.{subst}
use Rattle.std.specs.Option.{option_map}
use Rattle.lw_stamp.specs.Moment.{ms_of}
use Rattle.lw_table.specs.Answers.{after_text}
use Rattle.lw_table.specs.Table.{IsTable}
use Rattle.lw_table.specs.Rows.{held_in}
use Rattle.lw_table.proofs.Answering as answering
use Rattle.lw_table.proofs.table.Table.expired_after.Goals as goal

pub returns-clause-read : goal.returns-clause-read
returns-clause-read c =
    let table = subst (IsTable c.self.inside.filed.keys c.self.inside.filed.numbers c.self.inside.filed.due (held_in c.self.inside.rows)) c.self.view_is c.self.invariant.1 in
    answering.read_expired_after c.self.inside.filed.keys c.self.inside.filed.numbers c.self.inside.filed.due c.args.self.now table (ms_of c.args.now) (after_text c.args.after) c.first_expired.ensures.rising (option_map (λ x. (x.0.now, x.1)) c.first_expired.result) c.first_expired.ensures.found

pub returns-clause-marks : goal.returns-clause-marks
returns-clause-marks c =
    let table = subst (IsTable c.self.inside.filed.keys c.self.inside.filed.numbers c.self.inside.filed.due (held_in c.self.inside.rows)) c.self.view_is c.self.invariant.1 in
    answering.marks_expired_after c.self.inside.filed.keys c.self.inside.filed.numbers c.self.inside.filed.due c.args.self.now table (ms_of c.args.now) (after_text c.args.after) c.first_expired.ensures.rising (option_map (λ x. (x.0.now, x.1)) c.first_expired.result) c.first_expired.ensures.found
