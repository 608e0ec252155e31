use Rattle.std.proofs.Common.{refl, rules}
use Rattle.lw_route.proofs.NumberLemmas.{no_limit}
use Rattle.lw_route.proofs.numbers.limit.Goals as goal

pub returns-then-not-contains : goal.returns-then-not-contains
returns-then-not-contains c = (refl, no_limit _ _ c.in-Some.ensures.found (search rules))
