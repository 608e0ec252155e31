use Rattle.std.proofs.Common.{subst}
use Rattle.lw_call.specs.Contents.{OutgoingContent}
use Rattle.uses.specs.Following.{TakesAll}
use Rattle.uses.proofs.following.follow.Goals as goal

pub returns : goal.returns
returns c = (
  c.observe.new.self,
  c.in_ok-request.ensures.read,
  subst (λ (o : OutgoingContent). TakesAll o.token c.observe.new.self c.args.datagrams.now c.in_ok-notices.notices.items c.notices_of.new.node) c.request.view_is c.in_ok-notices.ensures,
)
