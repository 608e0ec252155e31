use Rattle.std.proofs.Common.{◌≡◌, sym}
use Rattle.lw_route.proofs.PathLemmas.{only_at, only_below}
use Rattle.lw_route.proofs.resource.Resource.of_path.Goals as goal

pub returns-in-Some-clause-only : goal.returns-in-Some-clause-only
returns-in-Some-clause-only c = λ resource segment is.
    let one = only_at c.in-Some.resource c.args.path.now c.in-Some.ensures resource segment is in
    (one.0, sym one.1)

pub returns-in-None-clause-only : goal.returns-in-None-clause-only
returns-in-None-clause-only c = λ resource segment is.
    only_below c.at.result c.below.result (λ b s x. (x.0 ≡ b) × (x.1.now ≡ s)) c.args.path.now c.in-None.is c.at.ensures c.below.ensures.below c.below.ensures.within resource segment is
