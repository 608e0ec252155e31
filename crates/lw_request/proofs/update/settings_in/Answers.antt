use Rattle.std.proofs.Common.{ℕ, List, Option, refl, subst, ◌∙◌, option_copied}
use Rattle.lw_request.specs.Options.{values_of}
use Rattle.lw_request.specs.Queries.{IsGiven, IsLifetime, IsOfUpdate}
use Rattle.lw_request.specs.Queries.Parameter.{Lt, B, Sms}
use Rattle.lw_request.proofs.QueryLemmas.{on_err_as, if_ok_all, bad_settings}
use Rattle.lw_request.proofs.update.settings_in.Goals as goal

pub returns-clause-ok : goal.returns-clause-ok
returns-clause-ok c =
    let given = c.in_ok-parameters_of.ensures.given in
    if_ok_all _ _ _ _ c.settings_of.result
    (λ s lifetime binding sms. record {
      lifetime_is = subst (λ (o : Option (List ℕ)). IsGiven IsLifetime o s.lifetime) (given Lt) lifetime;
      binding_is = binding ∙ given B;
      sms_is = sms ∙ given Sms;
    })
    c.settings_of.ensures.lifetime c.settings_of.ensures.binding c.settings_of.ensures.sms

pub returns-clause-err : goal.returns-clause-err
returns-clause-err c =
    let given = c.in_ok-parameters_of.ensures.given in
    let found = c.in_ok-parameters_of.field-0 in
    on_err_as _ _ c.settings_of.result
    (bad_settings IsOfUpdate (values_of 15 c.args.options.now) (option_copied found.lifetime) (option_copied found.binding) refl refl (given Lt) (given B))
    c.settings_of.ensures.err
