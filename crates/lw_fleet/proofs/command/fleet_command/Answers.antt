use Rattle.std.proofs.Common.{ap, ap₂, codes, ◌≡◌, ◌∙◌}
use Rattle.std.proofs.lemmas.Result.{IfOk-weaker}
use Rattle.clap.specs.Words.{app_of, new_app, with_subcommand, App}
use Rattle.clap.specs.Simple.{app_of_fields}
use Rattle.lw_fleet.specs.CommandLine.{fleet_app, one_app, replay_app, serve_app, with_version}
use Rattle.lw_fleet.proofs.command.fleet_command.Goals as goal

pub returns : goal.returns
unfolding fleet_app
returns c =
    let top_is : app_of c.about.result ≡ with_version (new_app (codes "fleet")) = ap app_of_fields c.about.ensures ∙ ap app_of_fields c.version.ensures ∙ ap with_version c.new.ensures.app in
    let one_is : app_of c.in_ok-subcommand.field-0 ≡ with_subcommand (with_version (new_app (codes "fleet"))) one_app.top =
    c.in_ok-subcommand.ensures.shape c.in_ok-one_command.ensures.local ∙ ap₂ with_subcommand top_is (ap (λ (a : App). a.top) c.in_ok-one_command.ensures.app) in
    let two_is : app_of c.in_ok-subcommand-2.field-0 ≡ with_subcommand (with_subcommand (with_version (new_app (codes "fleet"))) one_app.top) replay_app.top =
    c.in_ok-subcommand-2.ensures.shape c.replay_command.ensures.local ∙ ap₂ with_subcommand one_is (ap (λ (a : App). a.top) c.replay_command.ensures.app) in
    let three_is : app_of c.in_ok-subcommand-3.field-0 ≡ with_subcommand (with_subcommand (with_subcommand (with_version (new_app (codes "fleet"))) one_app.top) replay_app.top) serve_app.top =
    c.in_ok-subcommand-3.ensures.shape c.in_ok-serve_command.ensures.local ∙ ap₂ with_subcommand two_is (ap (λ (a : App). a.top) c.in_ok-serve_command.ensures.app) in
    IfOk-weaker c.subcommand-4.result _ _
    (λ command added. added.shape c.in_ok-run_command.ensures.local ∙ ap₂ with_subcommand three_is (ap (λ (a : App). a.top) c.in_ok-run_command.ensures.app)) c.subcommand-4.ensures
