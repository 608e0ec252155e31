use Rattle.std.proofs.Common.{◌≡◌, false, ap, sym, ◌∙◌, inr}
use Rattle.std.proofs.lemmas.Bool.{both_ways}
use Rattle.lw_coap.specs.Message.{MessageContent}
use Rattle.lw_request.specs.Options.{has_proxy, has_unrecognised}
use Rattle.lw_request.specs.Steps.{steps, path_steps}
use Rattle.lw_request.specs.Meaning.{MeansBy}
use Rattle.lw_request.proofs.Meanings.{understands_as}
use Rattle.lw_request.proofs.understanding.understand_request.Goals as goal

pub returns : goal.returns
returns c =
    let m = c.args.request.now in
    let proxy : has_proxy m.options ≡ false = sym (ap has_proxy (ap (λ (m : MessageContent). m.options) c.request.view_is)) ∙ sym c.has_proxy.ensures ∙ c.if-has_proxy.false in
    let recognised : has_unrecognised m.options ≡ false = sym (ap has_unrecognised (ap (λ (m : MessageContent). m.options) c.request.view_is)) ∙ sym c.has_unrecognised.ensures ∙ c.if-has_unrecognised.false in
    understands_as (MeansBy path_steps m) (MeansBy steps m) c.understand_recognised.result
    (λ asked h. inr (both_ways (has_proxy m.options) proxy, inr (both_ways (has_unrecognised m.options) recognised, h))) c.understand_recognised.ensures
