-- So many Sweeps stand behind the calls that were there.
use Rattle.std.proofs.Common.{◌≡◌, ◌++◌, replicate}
use Rattle.lw_call.specs.declared.call.Call.TheVariants.{Sweep}
use Rattle.lw_server.proofs.calling.put_sweeps.Given as goal

abbrev pub invariant-loop-sweep : goal.invariant-loop-sweep
invariant-loop-sweep l = l.calls.items ≡ l.initial.calls.items ++ replicate l._sweep (Sweep l.now)
