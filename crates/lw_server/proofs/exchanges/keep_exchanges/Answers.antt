use Rattle.std.proofs.Common.{sym, ◌∙◌, true, false, ◌≡◌, refl}
use Rattle.lw_server.proofs.Keeping.{ends, keep_step, next_is, none_left, of_err, of_ok, stays_so}
use Rattle.lw_server.proofs.exchanges.keep_exchanges.Goals as goal

pub loop-datagram-preserved : goal.loop-datagram-preserved
loop-datagram-preserved c =
    let first = next_is c.args.handled.now c.loop-datagram.datagram-index c.datagram-item.result c.loop-datagram-test.true c.datagram-item.is in
    let fine = sym c.is_err.ensures.value ∙ c.if-is_err.false in
    keep_step _ _ _ _ _ _ _ _ first (of_ok _ fine c.keep_exchange.ensures.kept) c.loop-datagram.invariant

pub returns-then-is_err : goal.returns-then-is_err
returns-then-is_err c =
    let fails = sym c.is_err.ensures.value ∙ c.if-is_err.true in
    let way = stays_so _ _ _ _ _ (of_err _ fails c.keep_exchange.ensures.unchanged) c.loop-datagram.invariant in
    ends _ _ _ _ _ _ way refl (λ (h : false ≡ true). absurd (cc))

pub returns : goal.returns
returns c =
    ends _ _ _ _ _ _ c.loop-datagram.invariant refl (λ h. none_left _ _ _ c.loop-datagram-test.false)
