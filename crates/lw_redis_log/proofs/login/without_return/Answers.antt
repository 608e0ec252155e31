use Rattle.std.proofs.Common.{[], ◌∷◌, Some, None}
use Rattle.std.proofs.lemmas.Bool.Decides.{Decides-eqb}
use Rattle.std.proofs.lemmas.Slice.Eq.{strip_suffix_is}
use Rattle.lw_redis_log.proofs.LoginLemmas.{returned_some, returned_none}
use Rattle.lw_redis_log.proofs.login.without_return.Goals as goal

pub returns-in-Some : goal.returns-in-Some
returns-in-Some c =
    returned_some c.args.line.now c.in-Some.part.now
    (strip_suffix_is Decides-eqb c.args.line.now (13 ∷ []) (Some c.in-Some.part) c.in-Some.ensures.cases)

pub returns-in-None : goal.returns-in-None
returns-in-None c =
    returned_none c.args.line.now (strip_suffix_is Decides-eqb c.args.line.now (13 ∷ []) None c.in-None.ensures.cases)
