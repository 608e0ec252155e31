use Rattle.std.proofs.Common.{ap, sym, ◌∙◌, subst, refl, ◌<◌, ◌≤◌, ℕ, slice_index_or, option_map}
use Rattle.lw_server.specs.Numbering.{counters_behind, numbered_reply}
use Rattle.lw_server.proofs.Numbers.{numbering_begins, numbering_ends, numbering_goes_on}
use Rattle.lw_server.proofs.numbering.number_each.Goals as goal

pub loop-datagram-init : goal.loop-datagram-init
loop-datagram-init c = numbering_begins _ _ _

pub loop-datagram-preserved : goal.loop-datagram-preserved
loop-datagram-preserved c =
    let old = slice_index_or c.loop-datagram.handled c.loop-datagram.datagram-index c.datagram-item.result in
    let less = subst (λ (n : ℕ). c.loop-datagram.datagram-index < n) (sym c.loop-datagram.auto.handled) c.loop-datagram-test.true in
    let reply = ap (λ r. option_map (λ v. v.items) r) c.take-reply.ensures.value in
    numbering_goes_on _ _ _ _ _ _ _ _ old _ c.datagram-item.result less refl refl
    (record {
      from = refl;
      bytes = refl;
      lacks_block = refl;
      reply = c.numbered.ensures.reply ∙ ap (numbered_reply c.args.now c.loop-datagram.ids old.from) reply;
    })
    (c.numbered.ensures.ids ∙ ap (counters_behind c.args.now c.loop-datagram.ids old.from) reply)
    c.loop-datagram.invariant

pub returns : goal.returns
returns c = numbering_ends _ _ _ _ _ _ (subst (λ (n : ℕ). n ≤ c.loop-datagram.datagram-index) (sym c.loop-datagram.auto.handled) c.loop-datagram-test.false) c.loop-datagram.invariant
