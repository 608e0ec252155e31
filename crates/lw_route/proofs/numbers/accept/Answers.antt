use Rattle.std.proofs.Common.{refl, rules}
use Rattle.lw_route.proofs.NumberLemmas.{no_accept}
use Rattle.lw_route.proofs.numbers.accept.Goals as goal

pub returns-in-Err : goal.returns-in-Err
returns-in-Err c = (refl, no_accept _ _ c.in-Some.ensures.found (search rules))
