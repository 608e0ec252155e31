use Rattle.std.proofs.Common.{refl, sym, subst, ap, ◌∙◌}
use Rattle.lw_route.specs.Targets.{IsBelow}
use Rattle.lw_route.specs.Targets.Place.{Below, Within}
use Rattle.lw_route.proofs.PathLemmas.{not_below}
use Rattle.lw_route.proofs.resource.Resource.below.Goals as goal

pub returns-in-Some-clause-within : goal.returns-in-Some-clause-within
returns-in-Some-clause-within c = λ resource upper segment lower e is.
    let one = c.in_ok-upper.ensures.only is.front lower is.lower_is in
    absurd (not_below c.in-Some.resource resource upper segment lower is.front ((c.in-Some.ensures c.in-Some.resource).0 refl ∙ ap Below one.0) e is.segment_is)

pub returns-in-None-clause-within : goal.returns-in-None-clause-within
returns-in-None-clause-within c = λ resource upper segment lower e is.
    let one = c.in_ok-upper.ensures.only is.front lower is.lower_is in
    c.within.ensures.only resource upper segment (e ∙ ap (Within upper) (sym one.1)) (subst (λ f. IsBelow upper segment f) (sym one.0) is.segment_is)
