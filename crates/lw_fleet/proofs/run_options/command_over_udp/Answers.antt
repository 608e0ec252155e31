use Rattle.std.proofs.Common.{ap, ap₂, codes, ◌≡◌, ◌∙◌}
use Rattle.clap.specs.Words.{app_of, new_app, with_rule}
use Rattle.clap.specs.Simple.{app_of_fields}
use Rattle.clap.specs.declared.builder.command.Command.{Command}
use Rattle.clap.specs.declared.builder.command.Command.TheOpen.{Command-F}
use Rattle.std.proofs.lemmas.Result.{IfOk-weaker}
use Rattle.lw_fleet.specs.CommandLine.{udp_app}
use Rattle.lw_fleet.proofs.CommandLemmas.{no_globals}
use Rattle.lw_fleet.proofs.run_options.command_over_udp.Goals as goal

pub returns-clause-app : goal.returns-clause-app
unfolding udp_app
returns-clause-app c =
    let new_is : app_of c.about.result ≡ new_app (codes "run") = ap app_of_fields c.about.ensures ∙ c.new.ensures.app in
    IfOk-weaker c.arg-5.result _ _
    (λ command added. added.shape c.option-4.ensures.local
    ∙ ap₂ with_rule (c.in_ok-arg-4.ensures.shape c.flag.ensures.local
    ∙ ap₂ with_rule (c.in_ok-arg-3.ensures.shape c.option-3.ensures.local
    ∙ ap₂ with_rule (c.in_ok-arg-2.ensures.shape c.option-2.ensures.local
    ∙ ap₂ with_rule (c.in_ok-arg.ensures.shape c.option.ensures.local ∙ ap₂ with_rule new_is c.option.ensures.rule) c.option-2.ensures.rule) c.option-3.ensures.rule) c.flag.ensures.rule) c.option-4.ensures.rule) c.arg-5.ensures

pub returns-clause-local : goal.returns-clause-local
returns-clause-local c =
    IfOk-weaker c.arg-5.result _ _
    (λ command added. no_globals _ _ _ added.globals
    (no_globals _ _ _ c.in_ok-arg-4.ensures.globals
    (no_globals _ _ _ c.in_ok-arg-3.ensures.globals
    (no_globals _ _ _ c.in_ok-arg-2.ensures.globals
    (no_globals _ _ _ c.in_ok-arg.ensures.globals (ap (λ (f : Command-F Command). f.has_globals) c.about.ensures ∙ c.new.ensures.local) c.option.ensures.local) c.option-2.ensures.local) c.option-3.ensures.local) c.flag.ensures.local) c.option-4.ensures.local) c.arg-5.ensures
