use Rattle.std.proofs.Common.{refl}
use Rattle.lw_delta.specs.Values.{list_or_none, end_from}
use Rattle.lw_delta.proofs.Parts.{both, first_fails, later_fails, given, when_is, when_fails_is, raised}
use Rattle.lw_delta.proofs.behind.check_behind.Goals as goal

pub returns-in_err-attribute_count-clause-fault : goal.returns-in_err-attribute_count-clause-fault
returns-in_err-attribute_count-clause-fault c = raised _ c.from_residual.result c.from_residual.ensures.1 (first_fails _ (when_fails_is _ c.has_attributes.ensures c.in_err-attribute_count.ensures.fault))

pub returns-in_err-ended-clause-fault : goal.returns-in_err-ended-clause-fault
returns-in_err-ended-clause-fault c =
    let f = c.in_ok-attribute_count.ensures.found in
    raised _ c.from_residual-in_err-ended.result c.from_residual-in_err-ended.ensures.1 (later_fails _ (when_is _ c.has_attributes.ensures f.1) (first_fails _ (when_fails_is _ c.has_end.ensures c.in_err-ended.ensures.fault)))

pub returns-in_err-watch_count-clause-fault : goal.returns-in_err-watch_count-clause-fault
returns-in_err-watch_count-clause-fault c =
    let f = c.in_ok-attribute_count.ensures.found in
    let o = c.in_ok-ended.ensures.found in
    raised _ c.from_residual-in_err-watch_count.result c.from_residual-in_err-watch_count.ensures.1
    (later_fails _ (when_is _ c.has_attributes.ensures f.1) (later_fails _ (when_is _ c.has_end.ensures o.1) (first_fails _ c.in_err-watch_count.ensures.fault)))

pub returns-clause-found : goal.returns-clause-found
returns-clause-found c =
    let f = c.in_ok-attribute_count.ensures.found in
    let g = c.in_ok-watch_count.ensures.found in
    let o = c.in_ok-ended.ensures.found in
    record {
      more = record { attributes = list_or_none f.0; ended = end_from o.0; watches = g.0 };
      found = both _ (when_is _ c.has_attributes.ensures f.1) (both _ (when_is _ c.has_end.ensures o.1) (both _ g.1 given));
      here = refl;
      ended = o.2;
      watches = g.1;
    }
