use Rattle.std.proofs.Common.{subst}
use Rattle.lw_stamp.specs.Moment.{ms_of}
use Rattle.lw_due.specs.Due.{kept_in}
use Rattle.lw_table.specs.Answers.{after_text}
use Rattle.lw_table.specs.Table.{IsTable}
use Rattle.lw_table.specs.inner.Found.{view_at}
use Rattle.lw_table.specs.Rows.{held_in}
use Rattle.lw_table.proofs.Answering as answering
use Rattle.lw_table.proofs.PageLemmas.{moves_on}
use Rattle.lw_table.proofs.SinceLemmas.{if_slots}
use Rattle.lw_table.proofs.table.Table.shown_after.Goals as goal

pub returns-clause-read : goal.returns-clause-read
returns-clause-read c =
    let filed = c.self.inside.filed in
    let table = subst (IsTable filed.keys filed.numbers filed.due (held_in c.self.inside.rows)) c.self.view_is c.self.invariant.1 in
    if_slots _ _ (λ page is. answering.read_kept_page filed.keys filed.numbers filed.due c.args.self.now table (ms_of c.args.now) (after_text c.args.after) c.page_of.ensures.rising (after_text page.next) page.registrations.items is) c.page_of.result c.page_of.ensures.found

pub returns-clause-marks : goal.returns-clause-marks
returns-clause-marks c =
    let filed = c.self.inside.filed in
    let table = subst (IsTable filed.keys filed.numbers filed.due (held_in c.self.inside.rows)) c.self.view_is c.self.invariant.1 in
    λ ms p s. if_slots _ _ (λ page is. answering.marks_kept_page filed.keys filed.numbers filed.due c.args.self.now table (ms_of c.args.now) (after_text c.args.after) c.page_of.ensures.rising (after_text page.next) page.registrations.items is ms p s) c.page_of.result c.page_of.ensures.found

pub returns-clause-further : goal.returns-clause-further
returns-clause-further c =
    if_slots _ _ (λ page is. moves_on (view_at (ms_of c.args.now) c.args.self.now.state) (kept_in c.self.inside.filed.due) (after_text c.args.after) (after_text page.next) page.registrations.items is) c.page_of.result c.page_of.ensures.found
