use Rattle.std.proofs.Common.{◌∙◌, ap, map, refl, subst, List}
use Rattle.std.specs.List.{list_any}
use Rattle.lw_server.specs.declared.blocks.Handled.{Handled}
use Rattle.lw_server.specs.Blocks.{lacks_block}
use Rattle.lw_server.specs.Exchanges.{exchanges_of, Keeps}
use Rattle.lw_server.specs.Turns.{sent}
use Rattle.lw_server.proofs.Numbers.{numbered_in, without_message_id_in}
use Rattle.lw_server.proofs.Sorting.{on_err}
use Rattle.lw_server.proofs.Turns.{all_sent, goes_all, goes_nowhere, goes_on_by, is_turn, keeps_still, more_duplicates, stays_from, tally_stays, writes_none, writes_none_from}
use Rattle.lw_server.proofs.server.Server.take.Goals as goal

pub returns-in_err-fresh-clause-own : goal.returns-in_err-fresh-clause-own
returns-in_err-fresh-clause-own g c = writes_none _

pub returns-in_err-fresh-clause-bodies : goal.returns-in_err-fresh-clause-bodies
returns-in_err-fresh-clause-bodies g c = on_err _ (goes_nowhere _ _ _)

pub returns-in_err-sorted-clause-own : goal.returns-in_err-sorted-clause-own
returns-in_err-sorted-clause-own g c = writes_none_from _ _ c.self.view_is

pub returns-in_err-sorted-clause-stays : goal.returns-in_err-sorted-clause-stays
returns-in_err-sorted-clause-stays g c = stays_from _ _ _ c.self.view_is (record { clock = refl; latest = refl; steady = refl }) refl refl refl refl refl refl refl refl refl

pub returns-in_err-sorted-clause-bodies : goal.returns-in_err-sorted-clause-bodies
returns-in_err-sorted-clause-bodies g c =
    on_err _ (goes_on_by _ _ c.args.batch.items _ _ c.self.view_is c.in_ok-fresh.ensures.fresh c.in_err-sorted.ensures.memory)

pub returns-in_err-handled-clause-bodies : goal.returns-in_err-handled-clause-bodies
returns-in_err-handled-clause-bodies g c =
    on_err _ (goes_on_by _ _ c.args.batch.items _ _ c.self.view_is c.in_ok-fresh.ensures.fresh (goes_all _ _ _ _ _ _ c.in_ok-sorted.ensures.sorted))

pub returns-in_err-handled-clause-uncounted : goal.returns-in_err-handled-clause-uncounted
returns-in_err-handled-clause-uncounted g c = on_err _ (tally_stays _ _ _ c.self.view_is c.in_err-handled.ensures.uncounted)

pub returns-in_err-handled-clause-kept : goal.returns-in_err-handled-clause-kept
returns-in_err-handled-clause-kept g c = on_err _ (keeps_still _ _ _ c.self.view_is refl refl refl refl refl refl)

pub returns-in_err-handled-clause-stays : goal.returns-in_err-handled-clause-stays
returns-in_err-handled-clause-stays g c = stays_from _ _ _ c.self.view_is (record { clock = refl; latest = refl; steady = refl }) refl refl refl refl refl refl refl refl refl

pub returns-clause-stays : goal.returns-clause-stays
returns-clause-stays g c = stays_from _ _ _ c.self.view_is (record { clock = refl; latest = refl; steady = refl }) refl refl refl refl refl refl refl refl refl

pub returns-clause-turn : goal.returns-clause-turn
returns-clause-turn g c =
    let steady = c.self.inside.steady in
    let fresh = c.in_ok-fresh.fresh.items in
    let more = more_duplicates _ _ _ _ _ c.args.batch.items fresh c.saturating_add-self-inside.ensures c.saturating_sub-again.ensures
    (c.len-count.ensures ∙ c.args.batch.ok.0) (c.len.ensures ∙ c.in_ok-fresh.fresh.ok.0) in
    let sends = all_sent _ _ _ _ _ c.put_sends.ensures (ap (map sent) c.in_ok-handled.ensures.sends ∙ c.in_ok-fresh.ensures.sent) (ap (map sent) c.new-sends.ensures.items) in
    let keeps = subst (λ (hs : List Handled). Keeps c.self.inside.kept (exchanges_of steady hs) c.keep_exchanges-is_all_kept.new.kept c.keep_exchanges-is_all_kept.result) c.deref.ensures.value c.keep_exchanges-is_all_kept.ensures in
    let numbers = numbered_in steady _ _ _ _ _ _ c.deref_mut.ensures.value c.in_ok-handled.handled.ok.0 c.number_replies-self-inside.auto.handled c.number_replies-self-inside.ensures.numbered in
    let without_message_id = without_message_id_in _ _ _ _ _ _ c.deref_mut.ensures.value c.in_ok-handled.handled.ok.0 c.number_replies-self-inside.auto.handled c.number_replies-self-inside.ensures.count in
    let lacks = c.any_lacks_block-lacks_block.ensures ∙ ap (list_any lacks_block) c.deref-2.ensures.value in
    is_turn _ _ _ _ _ _ _ _ _ _ _ _ c.self.view_is c.moment_before-before.ensures c.in_ok-fresh.ensures.fresh c.in_ok-sorted.ensures.sorted
    c.in_ok-handled.ensures.executed numbers without_message_id sends keeps lacks c.with_unkept-self-inside.ensures more c.with_blocks-blocks.ensures
