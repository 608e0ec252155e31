use Rattle.std.proofs.Common.{ap, ◌∙◌}
use Rattle.clap.specs.Simple.{app_of_fields}
use Rattle.lw_fleet.specs.CommandLine.{replay_app}
use Rattle.lw_fleet.proofs.command.replay_command.Goals as goal

pub returns-clause-app : goal.returns-clause-app
unfolding replay_app
returns-clause-app c = ap app_of_fields c.about.ensures ∙ c.new.ensures.app
