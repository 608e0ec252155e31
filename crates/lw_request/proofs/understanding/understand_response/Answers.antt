use Rattle.std.proofs.Common.{◌≡◌, false, refl, ap, sym, ◌∙◌, inr}
use Rattle.std.proofs.lemmas.Bool.{both_ways}
use Rattle.lw_coap.specs.Message.{MessageContent}
use Rattle.lw_request.specs.declared.asked.Asked.TheVariants.{Report}
use Rattle.lw_request.specs.Options.{has_critical}
use Rattle.lw_request.specs.Report.{report_of}
use Rattle.lw_request.specs.Meaning.{ResponseMeans}
use Rattle.lw_request.proofs.Meanings.{understands_error}
use Rattle.lw_request.proofs.understanding.understand_response.Goals as goal

pub returns-in_err-of : goal.returns-in_err-of
returns-in_err-of c =
    let m = c.args.message.now in
    let none : has_critical m.options ≡ false = sym (ap has_critical (ap (λ (m : MessageContent). m.options) c.message.view_is)) ∙ sym c.has_critical.ensures ∙ c.if-has_critical.false in
    understands_error (ResponseMeans m) c.from_residual.result (Report (report_of m)) c.from_residual.ensures.0 (inr (both_ways (has_critical m.options) none, refl)) tt
