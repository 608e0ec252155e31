use Rattle.std.proofs.Common.{◌≡◌, ◌<◌, ◌≤◌, List, length, ap, sym, subst, arith}
use Rattle.lw_coap.specs.Fits.{AreRising, options_length}
use Rattle.lw_coap.specs.Message.{OptionContent, MessageContent}
use Rattle.lw_messaging.proofs.AnswerLemmas.{parts_fit}
use Rattle.lw_messaging.proofs.block_answers.answer.Goals as goal

pub encode_lent-requires : goal.encode_lent-requires
encode_lent-requires c =
    let token : length c.request.inside.token.items ≤ 8 = subst (λ (m : MessageContent). length m.token ≤ 8)
    (sym c.request.view_is) c.requires.request.token in
    let mid : c.request.inside.mid < 65536 = subst (λ (m : MessageContent). m.mid < 65536) (sym c.request.view_is)
    c.requires.request.mid in
    let lent : length c.deref.result.now ≡ length c.request.inside.token.items = ap length c.deref.ensures.value in
    parts_fit _ _ _ _ _ (omega (arith, token, lent)) mid c.requires.code (omega arith)
    (subst (AreRising 0) (sym c.lent.ensures) c.requires.rising)
    (subst (λ (options : List OptionContent). options_length 0 options ≤ 64) (sym c.lent.ensures) c.requires.short)
