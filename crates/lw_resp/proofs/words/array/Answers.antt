use Rattle.std.proofs.Common.{[], ◌∷◌, refl, arith}
use Rattle.lw_resp.specs.Words.WordContent.{NullArray}
use Rattle.lw_resp.proofs.WordLemmas.{kind_come}
use Rattle.lw_resp.proofs.words.array.Goals as goal

pub returns-in-None : goal.returns-in-None
returns-in-None c = kind_come 42 c.args.behind.now (45 ∷ 49 ∷ 13 ∷ 10 ∷ []) NullArray tt c.in-None.ensures.cases refl (omega arith)
