use Rattle.std.proofs.Common.{option_copied}
use Rattle.lw_route.specs.declared.error.RouteError.TheVariants as error
use Rattle.lw_route.specs.declared.parameters.Form.TheVariants as Forms
use Rattle.lw_route.specs.declared.api_query.ApiQuery.TheVariants as api_query
use Rattle.lw_route.specs.Answers.{Reads}
use Rattle.lw_route.specs.Targets.{IsId, Given}
use Rattle.lw_route.proofs.StepLemmas.{then_goes}
use Rattle.lw_route.proofs.api_query.by_id.Goals as goal

pub returns : goal.returns
returns c =
    then_goes (Reads IsId error.Id c.args.segment.now) (λ id. Given Forms.Nothing (option_copied c.args.query) (λ parameters. api_query.ById id)) c.in_ok-id.id c.alone.result c.in_ok-id.ensures c.alone.ensures.given
