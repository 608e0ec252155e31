use Rattle.std.proofs.Common.{[], ◌∷◌, Some, None}
use Rattle.std.proofs.lemmas.Bool.Decides.{Decides-eqb}
use Rattle.std.proofs.lemmas.Slice.Eq.{strip_suffix_is}
use Rattle.lw_redis_log.proofs.LoginLemmas.{last_some, last_none}
use Rattle.lw_redis_log.proofs.login.last_line.Goals as goal

pub returns-in-Some : goal.returns-in-Some
returns-in-Some c =
    last_some c.args.bytes.now c.in-Some.line.now c.without_return.result.now
    (strip_suffix_is Decides-eqb c.args.bytes.now (10 ∷ []) (Some c.in-Some.line) c.in-Some.ensures.cases) c.without_return.ensures

pub returns-in-None : goal.returns-in-None
returns-in-None c =
    last_none c.args.bytes.now (strip_suffix_is Decides-eqb c.args.bytes.now (10 ∷ []) None c.in-None.ensures.cases)
