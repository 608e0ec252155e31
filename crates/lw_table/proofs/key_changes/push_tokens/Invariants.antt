use Rattle.std.proofs.Common.{◌≡◌, ◌++◌, drop}
use Rattle.lw_table.specs.inner.KeyChanges.{token_keys}
use Rattle.lw_table.proofs.key_changes.push_tokens.Given as goal

abbrev pub invariant-loop-watching : goal.invariant-loop-watching
invariant-loop-watching l = l.keys.items ++ token_keys (drop l.watching-index l.watches) ≡ l.initial.keys.items ++ token_keys l.watches
