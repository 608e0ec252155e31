use Rattle.std.proofs.Common.{sym, ◌∙◌, option_copied}
use Rattle.lw_route.proofs.RouteLemmas.{posted, deleted}
use Rattle.lw_route.proofs.route.route_at.Goals as goal

pub returns-in-Post-GetAndPost-clause-route : goal.returns-in-Post-GetAndPost-clause-route
returns-in-Post-GetAndPost-clause-route c =
    posted c.args.commands c.args.method c.args.resource c.args.segment.now (option_copied c.args.query) c.observation.result (sym c.allowed-allowed.ensures ∙ c.in-Post-GetAndPost.is-1) c.in-Post-GetAndPost.is-0 c.observation.ensures

pub returns-in-Delete-GetAndDelete-clause-route : goal.returns-in-Delete-GetAndDelete-clause-route
returns-in-Delete-GetAndDelete-clause-route c =
    deleted c.args.commands c.args.method c.args.resource c.args.segment.now (option_copied c.args.query) c.cancellation.result (sym c.allowed-allowed.ensures ∙ c.in-Delete-GetAndDelete.is-1) c.in-Delete-GetAndDelete.is-0 c.cancellation.ensures
