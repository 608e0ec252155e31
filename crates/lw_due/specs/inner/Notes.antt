-- What is looked for among notes, and what is changed in one.
use Rattle.std.specs.Prelude.{ℕ, ◌+◌, ◌-◌, Bool, true, false, cond, min, Option, Some, None}
use Rattle.lw_due.specs.Due.{Note, is_kept, is_due}
use Rattle.lw_due.specs.declared.knot.Change.{Change}
use Rattle.lw_due.specs.declared.knot.Change.TheVariants.{Lower, Keep}
use Rattle.lw_due.specs.declared.knot.Sought.{Sought}
use Rattle.lw_due.specs.declared.knot.Sought.TheVariants.{Kept, DueBy}

-- whether the note is what is looked for
abbrev pub fits : Sought → Note → Bool
fits Kept = is_kept
fits (DueBy now) = is_due now

-- the note after the change
abbrev pub noted : Change → Note → Note
noted (Lower due) note = (note.0, min note.1 due)
noted (Keep kept) note = (kept, note.1)

-- how many are kept, where so many were, of an endpoint that was kept or not, or is not there
abbrev pub recounted : ℕ → Option Bool → Bool → ℕ
recounted count None kept = count
recounted count (Some false) kept = count + cond kept 1 0
recounted count (Some true) kept = cond kept count (count - 1)
