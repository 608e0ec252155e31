use Rattle.std.proofs.Common.{rules}
use Rattle.lw_api.proofs.changes.changes_answer.Goals as goal
use Rattle.lw_api.proofs.changes.changes_answer.Goals.{in_default-via-in-None+else-since-gt0, in_default-via-in-Some+else-tag-about}

pub returns-in_default : goal.returns-in_default
returns-in_default c = elim c.in_default.branch [
  | in_default-via-in-None+else-since-gt0 w ↦ search rules
  | in_default-via-in-Some+else-tag-about w ↦ search rules
]
