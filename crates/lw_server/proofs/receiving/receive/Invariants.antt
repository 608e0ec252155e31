use Rattle.std.proofs.Common.{◌≡◌, vec_len}
use Rattle.lw_server.proofs.receiving.receive.Given as goal

abbrev pub invariant-loop-taken : goal.invariant-loop-taken
invariant-loop-taken g l = vec_len l.batch ≡ l._taken
