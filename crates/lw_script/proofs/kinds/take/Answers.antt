use Rattle.std.proofs.Common.{refl}
use Rattle.lw_script.proofs.LineLemmas.{sender_not, taken, take_fault}
use Rattle.lw_script.proofs.kinds.take.Goals as goal

pub returns-in_default : goal.returns-in_default
returns-in_default c = λ e s. sender_not _ c.in_default.ensures.none s.values s.said

pub returns-in-Ok : goal.returns-in-Ok
returns-in-Ok c = record {
  values = (c.in-Some.node, (c.in-Some.now, (c.in-Some.from, c.in-Ok.bytes)));
  said = taken c.args.fields.now c.in-Some.hex.now _ _ _ _ c.in-Some.ensures.found c.in-Ok.ensures;
  event_is = refl;
}

pub returns-in-Err : goal.returns-in-Err
returns-in-Err c =
    take_fault c.args.fields.now c.in-Some.hex.now c.in-Some.node c.in-Some.now c.in-Some.from _ _ c.in-Some.ensures.found c.in-Err.ensures
