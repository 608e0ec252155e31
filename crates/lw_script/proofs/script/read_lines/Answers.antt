use Rattle.std.proofs.Common.{◌==◌, length, rules, tests}
use Rattle.std.specs.List.{slice_split}
use Rattle.std.proofs.lemmas.Iterator.Consumers.{YieldsList-at, YieldsList-from_enumerate}
use Rattle.std.proofs.lemmas.Iterator.Splits.{YieldsList-from_slice_split}
use Rattle.std.proofs.lemmas.List.{length_push}
use Rattle.lw_script.proofs.ScriptLemmas.{numbered, read_more, bad_here, read_all, turn_by, end_by}
use Rattle.lw_script.proofs.script.read_lines.Goals as goal

pub loop-place-preserved : goal.loop-place-preserved
loop-place-preserved c =
    let turn = turn_by c.loop-place.yielded _ c.loop-place.yielded_by _ _ (c.in-Some.place, c.in-Some.line) c.in-Some.is c.next.ensures.steps
    (YieldsList-at c.into_iter-place-iterator.ensures.into_iter_gives (YieldsList-from_enumerate (YieldsList-at c.enumerate-place-items.ensures.source (YieldsList-from_slice_split _ (λ byte. byte == 10) c.args.text.now c.split.ensures.rest c.split.ensures.done c.split.ensures.closure (λ x r q k. search (rules, tests)))) c.enumerate-place-items.ensures.count)) in
    let lines = slice_split (λ byte. byte == 10) c.args.text.now in
    let n = length c.loop-place.yielded in
    let at = numbered lines n c.in-Some.place c.in-Some.line.now turn in
    read_more lines n _ c.in-Some.line.now c.in-Some-then.next (length_push c.loop-place.yielded (c.in-Some.place, c.in-Some.line)) at.0 at.2 (c.in-Some-then.ensures.read _ c.loop-place.invariant)

pub returns-in-None-then-clause-bad : goal.returns-in-None-then-clause-bad
returns-in-None-then-clause-bad c =
    let turn = turn_by c.loop-place.yielded _ c.loop-place.yielded_by _ _ (c.in-Some.place, c.in-Some.line) c.in-Some.is c.next.ensures.steps
    (YieldsList-at c.into_iter-place-iterator.ensures.into_iter_gives (YieldsList-from_enumerate (YieldsList-at c.enumerate-place-items.ensures.source (YieldsList-from_slice_split _ (λ byte. byte == 10) c.args.text.now c.split.ensures.rest c.split.ensures.done c.split.ensures.closure (λ x r q k. search (rules, tests)))) c.enumerate-place-items.ensures.count)) in
    let lines = slice_split (λ byte. byte == 10) c.args.text.now in
    let n = length c.loop-place.yielded in
    let at = numbered lines n c.in-Some.place c.in-Some.line.now turn in
    bad_here lines n c.in-Some.place c.in-Some.line.now c.loop-place.progress at.0 at.1 at.2 c.loop-place.invariant (c.in-None-then.ensures.bad _ c.loop-place.invariant)

pub returns-clause-read : goal.returns-clause-read
returns-clause-read c =
    let end = end_by c.loop-place.yielded _ c.loop-place.yielded_by _ _ c.in-None.is c.next.ensures.steps
    (YieldsList-at c.into_iter-place-iterator.ensures.into_iter_gives (YieldsList-from_enumerate (YieldsList-at c.enumerate-place-items.ensures.source (YieldsList-from_slice_split _ (λ byte. byte == 10) c.args.text.now c.split.ensures.rest c.split.ensures.done c.split.ensures.closure (λ x r q k. search (rules, tests)))) c.enumerate-place-items.ensures.count)) in
    read_all (slice_split (λ byte. byte == 10) c.args.text.now) (length c.loop-place.yielded) c.loop-place.progress end c.loop-place.invariant
