use Rattle.std.proofs.Common.{◌≡◌, length}
use Rattle.std.specs.Prelude.{filter}
use Rattle.lw_stamp.specs.Moment.{ms_of}
use Rattle.lw_due.specs.Due.{kept_in, is_after}
use Rattle.lw_table.specs.Answers.{after_text}
use Rattle.lw_table.specs.inner.Found.{view_at, if_after, first_of}
use Rattle.lw_table.proofs.table.Table.first_shown_after.Given as goal

-- the first of those that are left is the first of all
abbrev pub invariant-loop-endpoint : goal.invariant-loop-endpoint
invariant-loop-endpoint l =
    first_of (if_after (after_text l.upto) (view_at (ms_of l.now) l.self.state)) (kept_in l.due) ≡ first_of (if_after (after_text l.after) (view_at (ms_of l.now) l.self.state)) (kept_in l.due)

abbrev pub decreases-loop-endpoint : goal.decreases-loop-endpoint
decreases-loop-endpoint l = length (filter (is_after (after_text l.upto)) (kept_in l.due))
