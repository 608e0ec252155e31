use Rattle.std.proofs.Common.{codes}
use Rattle.lw_redis_log.proofs.Beginnings.{begins_with}
use Rattle.lw_redis_log.proofs.errors.is_crowded.Goals as goal

pub returns : goal.returns
returns c = begins_with (codes "ERR max number of clients") c.args.text.now c.starts_with.result c.starts_with.ensures.value
