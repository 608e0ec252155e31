use Rattle.std.proofs.Common.{◌≡◌, ◌+◌, ◌≤◌, List, length, sym, subst}
use Rattle.std.specs.Prelude.{sum_by}
use Rattle.lw_stamp.specs.Moment.{ms_of}
use Rattle.lw_coap.specs.Message.{MessageContent}
use Rattle.lw_messaging.specs.Kept.{BodyContent, options_weight, weight_of, others, AreBounded}
use Rattle.lw_messaging.proofs.BodyLemmas.{weight_bounded, others_bounded}
use Rattle.lw_messaging.proofs.taking.take_part.Goals as goal

pub new-requires : goal.new-requires
new-requires c =
    subst (λ (m : MessageContent). options_weight m.options + length m.payload ≤ 4194304) (sym c.whole.view_is)
    (weight_bounded c.args.whole c.requires.fits.within)

pub keep-requires-clause-bytes : goal.keep-requires-clause-bytes
keep-requires-clause-bytes c =
    let was : AreBounded c.reserve.new.self.items =
    subst (λ (l : List BodyContent). AreBounded l) (sym c.reserve.ensures.items) c.requires.bounded in
    let left = others_bounded (ms_of c.args.arrival.now) c.args.arrival.from c.deref.result.now
    c.reserve.new.self.items was in
    subst (λ (l : List BodyContent). sum_by weight_of l ≤ 4194304) (sym c.forget.ensures.left) left.bytes

pub keep-requires-clause-one : goal.keep-requires-clause-one
keep-requires-clause-one c =
    let weight : options_weight c.whole.inside.options.items + length c.whole.inside.payload.items ≤ 4194304 =
    subst (λ (m : MessageContent). options_weight m.options + length m.payload ≤ 4194304) (sym c.whole.view_is)
    (weight_bounded c.args.whole c.requires.fits.within) in
    subst (λ (b : BodyContent). weight_of b ≤ 4194304) (sym c.new.ensures) weight
