use Rattle.std.proofs.Common.{refl, inl}
use Rattle.lw_route.specs.declared.error.RouteError.TheVariants as error
use Rattle.lw_route.proofs.RouteLemmas.{needed}
use Rattle.lw_route.proofs.command.observe_at.Goals as goal

pub returns : goal.returns
returns c =
    inl (c.in_ok-given.given, c.in_ok-given.ensures.given, inl (c.in_ok-path.path, needed c.in_ok-given.given.path error.Path c.in_ok-path.path c.in_ok-path.ensures.ok_part, refl))
