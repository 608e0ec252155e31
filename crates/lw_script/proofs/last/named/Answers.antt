use Rattle.std.proofs.Common.{rules}
use Rattle.lw_script.specs.Fields.{◌␣◌, IsShort, IsMoment, IsName}
use Rattle.lw_script.specs.inner.Fields.{IsRest}
use Rattle.lw_script.proofs.LineLemmas.{two_not, two_fault}
use Rattle.lw_script.proofs.last.named.Goals as goal

pub returns-in_default : goal.returns-in_default
returns-in_default c = λ v row. two_not IsName _ c.in_default.ensures.none (v.0, (v.1, v.2)) row

pub returns-in-Err : goal.returns-in-Err
returns-in-Err c =
    let row : (IsShort ␣ IsMoment ␣ IsRest) (c.in-Some.node, (c.in-Some.now, c.in-Some.rest.now)) c.args.text.now = search rules in
    two_fault IsName c.args.text.now c.in-Some.rest.now c.in-Some.node c.in-Some.now _ row c.in-Err.ensures
