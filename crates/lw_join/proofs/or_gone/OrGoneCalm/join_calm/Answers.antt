use Rattle.std.proofs.Common.{rules}
use Rattle.lw_join.proofs.or_gone.OrGoneCalm.join_calm.Goals as goal

pub returns-in-Gone : goal.returns-in-Gone
returns-in-Gone c = search rules
