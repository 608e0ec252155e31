use Rattle.std.proofs.Common.{inl, inr}
use Rattle.lw_script.proofs.LineLemmas.{next_fault}
use Rattle.lw_script.proofs.kinds.expired.Goals as goal

pub returns-in-Some : goal.returns-in-Some
returns-in-Some c =
    inl (record { values = (c.in-Some.node, c.in-Some.now); said = c.in-Some.ensures.found; event_is = c.asked.ensures })

pub returns-in-Ok : goal.returns-in-Ok
returns-in-Ok c =
    inr (record { values = (c.in-Ok.node, (c.in-Ok.now, c.in-Ok.name)); said = c.in-Ok.ensures; event_is = c.asked-in-Ok.ensures })

pub returns-in-Err : goal.returns-in-Err
returns-in-Err c = next_fault c.args.fields.now _ _ _ c.in_default.ensures.none c.in-Err.ensures
