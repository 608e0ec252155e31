use Rattle.std.proofs.Common.{◌≡◌, take}
use Rattle.lw_crew.specs.Jobs.{lengths}
use Rattle.lw_crew.proofs.checking.lengths_of.Given as goal

abbrev pub invariant-loop-pass : goal.invariant-loop-pass
invariant-loop-pass l = l.counts.items ≡ lengths (take l.pass-index l.passes)
