use Rattle.std.proofs.Common.{◌≡◌, drop}
use Rattle.lw_reg.specs.Reading.{first_watch, has_token}
use Rattle.lw_reg.proofs.watches.first_with.Given as goal

abbrev pub invariant-loop-entry : goal.invariant-loop-entry
invariant-loop-entry l = first_watch (has_token l.token) (drop l.entry-index l.entries) ≡ first_watch (has_token l.token) l.entries
