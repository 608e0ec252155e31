use Rattle.std.proofs.Common.{length, arith}
use Rattle.std.specs.List.{slice_split}
use Rattle.std.proofs.lemmas.Iterator.Consumers.{YieldsList-at}
use Rattle.std.proofs.lemmas.Iterator.Splits.{YieldsList-from_str_split}
use Rattle.std.proofs.lemmas.List.{length_push}
use Rattle.lw_route.specs.Parameters.{AreParts, is_ampersand, no_parameters}
use Rattle.lw_route.proofs.PartLemmas.{goes_more, goes_wrong, goes_to_end, turn_by, end_by}
use Rattle.lw_route.proofs.StepLemmas.{handed_on}
use Rattle.lw_route.proofs.parameters.Parameters.read_parts.Goals as goal

pub returns-in_err-parameters-clause-given : goal.returns-in_err-parameters-clause-given
returns-in_err-parameters-clause-given c =
    let turn = turn_by c.loop-part.yielded _ c.loop-part.yielded_by _ _ c.in-Some.part c.in-Some.is c.next.ensures.steps
    (YieldsList-at c.into_iter-part-iterator.ensures.into_iter_gives (YieldsList-from_str_split 38 c.args.parts.now (omega arith) c.split-part-items.ensures.text c.split-part-items.ensures.has_more c.split-part-items.ensures.pattern)) in
    handed_on (AreParts c.args.form no_parameters (slice_split is_ampersand c.args.parts.now)) _ _ c.from_residual.ensures.1
    (goes_wrong c.args.form (slice_split is_ampersand c.args.parts.now) (length c.loop-part.yielded) c.in-Some.part.now c.loop-part.parameters _ turn.0 turn.1 c.loop-part.invariant.2 c.in_err-parameters.ensures.given)

pub loop-part-preserved : goal.loop-part-preserved
loop-part-preserved c =
    let turn = turn_by c.loop-part.yielded _ c.loop-part.yielded_by _ _ c.in-Some.part c.in-Some.is c.next.ensures.steps
    (YieldsList-at c.into_iter-part-iterator.ensures.into_iter_gives (YieldsList-from_str_split 38 c.args.parts.now (omega arith) c.split-part-items.ensures.text c.split-part-items.ensures.has_more c.split-part-items.ensures.pattern)) in
    (tt, tt, goes_more c.args.form (slice_split is_ampersand c.args.parts.now) (length c.loop-part.yielded) _ c.in-Some.part.now c.loop-part.parameters c.in_ok-parameters.parameters (length_push c.loop-part.yielded c.in-Some.part) turn.0 turn.1 c.loop-part.invariant.2 c.in_ok-parameters.ensures.given)

pub returns-clause-given : goal.returns-clause-given
returns-clause-given c =
    let end = end_by c.loop-part.yielded _ c.loop-part.yielded_by _ _ c.in-None.is c.next.ensures.steps
    (YieldsList-at c.into_iter-part-iterator.ensures.into_iter_gives (YieldsList-from_str_split 38 c.args.parts.now (omega arith) c.split-part-items.ensures.text c.split-part-items.ensures.has_more c.split-part-items.ensures.pattern)) in
    goes_to_end c.args.form (slice_split is_ampersand c.args.parts.now) (length c.loop-part.yielded) c.loop-part.parameters end c.loop-part.invariant.2
