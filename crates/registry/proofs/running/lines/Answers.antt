use Rattle.std.proofs.Common.{◌==◌, length, rules, tests}
use Rattle.std.proofs.lemmas.Iterator.Consumers.{YieldsList-at}
use Rattle.std.proofs.lemmas.Iterator.Splits.{YieldsList-from_slice_split}
use Rattle.std.proofs.lemmas.List.{length_push}
use Rattle.registry.specs.Run.{lines_of}
use Rattle.registry.proofs.RunLemmas.{kept_more, kept_all, turn_by, end_by}
use Rattle.registry.proofs.running.lines.Goals as goal

pub loop-line-preserved : goal.loop-line-preserved
loop-line-preserved c =
    let turn = turn_by c.loop-line.yielded _ c.loop-line.yielded_by _ _ c.in-Some.line c.in-Some.is c.next.ensures.steps
    (YieldsList-at c.into_iter-line-iterator.ensures.into_iter_gives (YieldsList-from_slice_split _ (λ byte. byte == 10) c.args.input.now c.split-line-items.ensures.rest c.split-line-items.ensures.done c.split-line-items.ensures.closure (λ x r q k. search (rules, tests)))) in
    kept_more (lines_of c.args.input.now) _ _ (length c.loop-line.yielded) _ c.in-Some.line (length_push c.loop-line.yielded c.in-Some.line) turn c.loop-line.invariant c.in_ok-push.ensures.items

pub returns : goal.returns
returns c =
    let end = end_by c.loop-line.yielded _ c.loop-line.yielded_by _ _ c.in-None.is c.next.ensures.steps
    (YieldsList-at c.into_iter-line-iterator.ensures.into_iter_gives (YieldsList-from_slice_split _ (λ byte. byte == 10) c.args.input.now c.split-line-items.ensures.rest c.split-line-items.ensures.done c.split-line-items.ensures.closure (λ x r q k. search (rules, tests)))) in
    kept_all (lines_of c.args.input.now) _ (length c.loop-line.yielded) end c.loop-line.invariant
