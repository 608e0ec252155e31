use Rattle.std.proofs.Common.{refl, inl}
use Rattle.lw_route.proofs.route.observation.Goals as goal

pub returns : goal.returns
returns c = inl (c.in_ok-command.command, c.in_ok-command.ensures, refl)
