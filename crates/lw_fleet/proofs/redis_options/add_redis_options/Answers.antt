use Rattle.std.proofs.Common.{ap₂, refl, ◌∙◌}
use Rattle.std.proofs.lemmas.Result.{IfOk-weaker}
use Rattle.clap.specs.Words.{with_rule}
use Rattle.lw_fleet.proofs.CommandLemmas.{no_globals}
use Rattle.lw_fleet.proofs.redis_options.add_redis_options.Goals as goal

pub returns-clause-app : goal.returns-clause-app
returns-clause-app c =
    IfOk-weaker c.arg-5.result _ _
    (λ command added. added.shape c.flag.ensures.local
    ∙ ap₂ with_rule (c.in_ok-arg-4.ensures.shape c.option-4.ensures.local
    ∙ ap₂ with_rule (c.in_ok-arg-3.ensures.shape c.option-3.ensures.local
    ∙ ap₂ with_rule (c.in_ok-arg-2.ensures.shape c.option-2.ensures.local
    ∙ ap₂ with_rule (c.in_ok-arg.ensures.shape c.option.ensures.local ∙ ap₂ with_rule refl c.option.ensures.rule) c.option-2.ensures.rule) c.option-3.ensures.rule) c.option-4.ensures.rule) c.flag.ensures.rule) c.arg-5.ensures

pub returns-clause-local : goal.returns-clause-local
returns-clause-local c =
    IfOk-weaker c.arg-5.result _ _
    (λ command added none. no_globals _ _ _ added.globals
    (no_globals _ _ _ c.in_ok-arg-4.ensures.globals
    (no_globals _ _ _ c.in_ok-arg-3.ensures.globals
    (no_globals _ _ _ c.in_ok-arg-2.ensures.globals
    (no_globals _ _ _ c.in_ok-arg.ensures.globals none c.option.ensures.local) c.option-2.ensures.local) c.option-3.ensures.local) c.option-4.ensures.local) c.flag.ensures.local) c.arg-5.ensures
