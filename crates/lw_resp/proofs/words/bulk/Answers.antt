use Rattle.std.proofs.Common.{[], ◌∷◌, refl, arith}
use Rattle.lw_resp.specs.Words.WordContent.{Null}
use Rattle.lw_resp.proofs.WordLemmas.{kind_come}
use Rattle.lw_resp.proofs.words.bulk.Goals as goal

pub returns-in-None : goal.returns-in-None
returns-in-None c = kind_come 36 c.args.behind.now (45 ∷ 49 ∷ 13 ∷ 10 ∷ []) Null tt c.in-None.ensures.cases refl (omega arith)
