use Rattle.lw_redis_log.proofs.Beginnings.{begins_with}
use Rattle.lw_redis_log.proofs.settings.begins_with.Goals as goal

pub returns : goal.returns
returns c = begins_with c.args.part.now c.args.text.now c.starts_with.result c.starts_with.ensures.value
