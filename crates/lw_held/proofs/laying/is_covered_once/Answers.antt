use Rattle.std.proofs.Common.{arith}
use Rattle.std.proofs.lemmas.Bool.{le-leb, leb-true, lt-ltb, ltb-true}
use Rattle.lw_held.proofs.Pieces.{none_found, none_covers, one_covers}
use Rattle.lw_held.proofs.laying.is_covered_once.Goals as goal

pub returns-in-None : goal.returns-in-None
returns-in-None c =
    let is = none_covers c.args.node c.args.volumes.now c.args.first c.args.place c.in-None.ensures.first in
    (λ yes. is.0 (leb-true c.args.first c.args.place yes), λ once. le-leb c.args.first c.args.place (is.1 once))

pub returns-then-place-first : goal.returns-then-place-first
returns-then-place-first c =
    let next = c.covering-then-place-first in
    let is = one_covers c.args.node c.args.volumes.now c.args.first c.args.place c.in-Some.i next.result c.in-Some.ensures.first next.ensures.first in
    let none = none_found next.result c.is_none.result c.is_none.ensures in
    (λ yes. is.0 (c.if-place-first.true, none.0 yes), λ once. none.1 (is.1 once).1)

pub returns-else-place-first : goal.returns-else-place-first
returns-else-place-first c =
    let found = c.in-Some.ensures.first.1 in
    let high = c.if-place-first.false in (
      λ yes. absurd (let low = ltb-true c.args.place c.args.first yes in omega (arith, low, high)),
      λ once. lt-ltb c.args.place c.args.first (once.behind c.in-Some.i found.0 found.1 found.2),
    )
