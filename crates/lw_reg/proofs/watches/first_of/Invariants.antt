use Rattle.std.proofs.Common.{◌≡◌, true, drop}
use Rattle.lw_reg.specs.Reading.{first_watch}
use Rattle.lw_reg.proofs.watches.first_of.Given as goal

abbrev pub invariant-loop-entry : goal.invariant-loop-entry
invariant-loop-entry l = first_watch (λ _. true) (drop l.entry-index l.entries) ≡ first_watch (λ _. true) l.entries
