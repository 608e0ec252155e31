use Rattle.std.proofs.Common.{ap, ◌∙◌}
use Rattle.std.proofs.lemmas.Result.{IfOk-weaker}
use Rattle.lw_fleet.specs.CommandLine.{run_app, with_http_options, with_redis_options}
use Rattle.lw_fleet.proofs.run_options.run_command.Goals as goal

pub returns-clause-app : goal.returns-clause-app
unfolding run_app
returns-clause-app c =
    IfOk-weaker c.add_http_options.result _ _
    (λ added is. is ∙ ap with_http_options (c.in_ok-add_redis_options.ensures.app ∙ ap with_redis_options c.in_ok-command_over_udp.ensures.app))
    c.add_http_options.ensures.app
