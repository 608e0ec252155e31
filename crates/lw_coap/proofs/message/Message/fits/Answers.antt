use Rattle.std.proofs.Common.{◌≡◌, arith, sym, ap, subst, ◌∙◌, eq-eqb}
use Rattle.std.proofs.lemmas.Bool.{eqb-true}
use Rattle.lw_coap.specs.Message.{MessageContent}
use Rattle.lw_coap.specs.Fits.{Fits, AreRising, printed_length}
use Rattle.lw_coap.proofs.Fitting.{fits_with, not_zero}
use Rattle.lw_coap.proofs.message.Message.fits.Goals as goal

pub returns-then-self-ne0 : goal.returns-then-self-ne0
returns-then-self-ne0 c =
    let i = c.self.inside in
    let m : MessageContent = record { kind = i.kind; code = i.code; mid = i.mid; token = i.token.items; options = i.options.items; payload = i.payload.items } in
    let rising : AreRising 0 m.options = subst (λ (x : MessageContent). AreRising 0 x.options) (sym c.self.view_is) c.in-Some.ensures.rising in
    let size : printed_length m ≡ c.in-Some.len = ap printed_length c.self.view_is ∙ sym c.in-Some.ensures.value in
    let fits : Fits m = fits_with m c.in-Some.len (omega (arith, i.token.ok)) (omega arith) (omega arith) rising size c.in-Some.ensures.within (λ e. absurd (c.if-self-ne0.true e)) in
    rw (← c.self.view_is) ((λ _. fits), (λ _. not_zero i.code c.if-self-ne0.true))

pub returns-else-self-ne0 : goal.returns-else-self-ne0
returns-else-self-ne0 c =
    let i = c.self.inside in
    let m : MessageContent = record { kind = i.kind; code = i.code; mid = i.mid; token = i.token.items; options = i.options.items; payload = i.payload.items } in
    let rising : AreRising 0 m.options = subst (λ (x : MessageContent). AreRising 0 x.options) (sym c.self.view_is) c.in-Some.ensures.rising in
    let size : printed_length m ≡ c.in-Some.len = ap printed_length c.self.view_is ∙ sym c.in-Some.ensures.value in
    let fits : c.in-Some.len ≡ 4 → Fits m = λ e. fits_with m c.in-Some.len (omega (arith, i.token.ok)) (omega arith) (omega arith) rising size c.in-Some.ensures.within (λ _. e) in
    rw (← c.self.view_is) ((λ t. fits (eqb-true c.in-Some.len 4 t)), (λ f. eq-eqb c.in-Some.len 4 (sym size ∙ f.empty c.if-self-ne0.false)))
