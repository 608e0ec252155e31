use Rattle.std.proofs.Common.{refl}
use Rattle.lw_redis_log.proofs.LoginLemmas.{first_feed, feed_within}
use Rattle.lw_redis_log.proofs.login.line_to.Goals as goal

pub returns : goal.returns
returns c = first_feed c.args.bytes.now c.split_at.result.0.now c.split_at.result.1.now _ c.args.place c.requires c.split_at.ensures.front c.split_at.ensures.back refl
