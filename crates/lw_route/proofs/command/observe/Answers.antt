use Rattle.std.proofs.Common.{option_copied}
use Rattle.lw_route.specs.declared.error.RouteError.TheVariants as error
use Rattle.lw_route.specs.Answers.{Reads}
use Rattle.lw_route.specs.Decoding.{IsShort}
use Rattle.lw_route.specs.Routes.{Observes}
use Rattle.lw_route.proofs.StepLemmas.{then_goes}
use Rattle.lw_route.proofs.command.observe.Goals as goal

pub returns : goal.returns
returns c =
    then_goes (Reads IsShort error.Endpoint c.args.segment.now) (λ endpoint. Observes endpoint (option_copied c.args.query)) c.in_ok-endpoint.endpoint c.observe_at.result c.in_ok-endpoint.ensures c.observe_at.ensures
