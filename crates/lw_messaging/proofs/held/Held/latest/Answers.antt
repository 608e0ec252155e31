use Rattle.std.specs.Prelude.{slice_get}
use Rattle.std.proofs.Common.{sym, ap, ◌∙◌}
use Rattle.std.specs.Option.{option_copied}
use Rattle.lw_messaging.specs.Header.{message_id}
use Rattle.lw_messaging.specs.Replies.{latest_of}
use Rattle.lw_messaging.specs.inner.Held.{value_at}
use Rattle.lw_messaging.proofs.HeldLemmas.{latest-none, latest-some, lent}
use Rattle.lw_messaging.proofs.held.Held.latest.Goals as goal

pub returns-in_err-number : goal.returns-in_err-number
returns-in_err-number c =
    let id = message_id c.args.bytes.now in
    let at = ap (λ k. value_at c.self.inside.numbers.entries (c.args.from, k)) (sym c.message_id.ensures) ∙ sym c.in_err-number.ensures.value in
    let none = latest-none _ c.self.inside.first c.self.inside.exchanges.items c.args.from id c.self.invariant.numbered at in
    ap option_copied c.from_residual.ensures ∙ sym none ∙ ap (latest_of c.args.from id) c.self.view_is

pub returns : goal.returns
returns c =
    let id = message_id c.args.bytes.now in
    let at = ap (λ k. value_at c.self.inside.numbers.entries (c.args.from, k)) (sym c.message_id.ensures) ∙ sym c.in_ok-number.ensures.value in
    let some = latest-some _ c.self.inside.first _ c.self.inside.exchanges.items c.args.from id c.self.invariant.numbered at in
    lent c.self.inside.exchanges.items _ _ c.get-2.result c.self.inside.exchanges.ok.0 c.get-2.ensures.variant c.get-2.ensures.lookup
    ∙ ap (slice_get c.self.inside.exchanges.items) c.saturating_sub.ensures ∙ some ∙ ap (latest_of c.args.from id) c.self.view_is
