use Rattle.lw_route.specs.declared.error.RouteError.TheVariants as error
use Rattle.lw_route.specs.Answers.{Reads}
use Rattle.lw_route.specs.Decoding.{IsPathEncoded}
use Rattle.std.proofs.Common.{Some}
use Rattle.lw_route.proofs.PartLemmas.{given_once}
use Rattle.lw_route.proofs.parameters.Parameters.with_path.Goals as goal

pub returns : goal.returns
returns c =
    given_once c.args.self.path c.is_some.result (Reads IsPathEncoded error.Path c.args.value.now) (λ path. record c.args.self { path = Some path }) c.in_ok-path.field-0 c.is_some.ensures c.if-is_some.false c.in_ok-path.ensures
