use Rattle.std.proofs.Common.{◌≡◌, ◌+◌, length, None, Some, option_copied, sym, subst, ap, ◌∙◌}
use Rattle.std.proofs.lemmas.List.{length_push}
use Rattle.lw_stamp.specs.Moment.{ms_of}
use Rattle.lw_reg.specs.Marks.{among}
use Rattle.lw_reg.specs.Reading.{shown_in}
use Rattle.lw_node.specs.Node.{marks_in}
use Rattle.lw_table.specs.LookUps.{WatchOfIdAfter}
use Rattle.lw_api.specs.Answers.{AreWatchesAfter, last_path}
use Rattle.lw_api.proofs.Knowing.{of_known}
use Rattle.lw_api.proofs.WatchLemmas.{watches_more}
use Rattle.lw_api.proofs.observing.page_of.Goals as goal

pub returns-in-None-clause-none : goal.returns-in-None-clause-none
returns-in-None-clause-none c = λ empty.
    let state = c.args.node.now.table.state in
    let now = ms_of c.args.now in
    let cursor : option_copied c.as_ref.result ≡ c.args.after = c.as_ref.ensures.value ∙ c.last_path.ensures ∙ ap (last_path c.args.after) c.deref.ensures.value ∙ ap (last_path c.args.after) empty in
    of_known state (λ M. WatchOfIdAfter M now c.args.id c.args.after None)
    (subst (λ o. WatchOfIdAfter (shown_in state) now c.args.id o None) cursor c.in-None.ensures.read)
    (λ ms known. subst (λ o. WatchOfIdAfter (among ms) now c.args.id o None) cursor (c.in-None.ensures.marks ms known))

pub loop-watch-preserved : goal.loop-watch-preserved
loop-watch-preserved c =
    let state = c.args.node.now.table.state in
    let now = ms_of c.args.now in
    let items = c.loop-watch.page.items in
    let watch = c.in-Some.watch in
    let last = last_path c.args.after items in
    let cursor : option_copied c.as_ref.result ≡ last = c.as_ref.ensures.value ∙ c.last_path.ensures ∙ ap (last_path c.args.after) c.deref.ensures.value in
    let follows = of_known state (λ M. WatchOfIdAfter M now c.args.id last (Some watch))
    (subst (λ o. WatchOfIdAfter (shown_in state) now c.args.id o (Some watch)) cursor c.in-Some.ensures.read)
    (λ ms known. subst (λ o. WatchOfIdAfter (among ms) now c.args.id o (Some watch)) cursor (c.in-Some.ensures.marks ms known)) in (
      ap length c.in_ok-push-in-Some.ensures.items ∙ length_push items watch ∙ ap (λ n. n + 1) c.loop-watch.invariant.0,
      λ known is. subst (AreWatchesAfter (marks_in state known) now c.args.id c.args.after) (sym c.in_ok-push-in-Some.ensures.items)
          (watches_more (marks_in state known) now c.args.id c.args.after items watch (c.loop-watch.invariant.1 known is) (follows known is)),
    )
