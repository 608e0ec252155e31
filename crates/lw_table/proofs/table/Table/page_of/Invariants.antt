use Rattle.std.proofs.Common.{◌≤◌, length, max}
use Rattle.std.specs.Prelude.{filter}
use Rattle.lw_stamp.specs.Moment.{ms_of}
use Rattle.lw_due.specs.Due.{is_after, kept_in}
use Rattle.lw_table.specs.Answers.{after_text}
use Rattle.lw_table.specs.inner.Found.{view_at}
use Rattle.lw_table.specs.inner.Pages.{IsSeen}
use Rattle.lw_table.proofs.table.Table.page_of.Given as goal

-- the endpoints up to the last were seen
abbrev pub invariant-loop-endpoint : goal.invariant-loop-endpoint
invariant-loop-endpoint l =
    IsSeen (view_at (ms_of l.now) l.self.state) (filter (is_after (after_text l.after)) (kept_in l.due)) (filter (is_after (after_text l.upto)) (kept_in l.due)) (after_text l.last) l.registrations.items
    × (length l.registrations.items ≤ max 1 l.limit)

abbrev pub decreases-loop-endpoint : goal.decreases-loop-endpoint
decreases-loop-endpoint l = length (filter (is_after (after_text l.upto)) (kept_in l.due))
