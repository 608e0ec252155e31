use Rattle.std.proofs.Common.{◌∙◌, ap, sym, ◌++◌, [], List, cond, replicate}
use Rattle.lw_call.specs.declared.call.Call.TheVariants.{Sweep}
use Rattle.lw_metrics.specs.Counting.{counted}
use Rattle.lw_server.specs.Turns.{sweeps_a_turn}
use Rattle.lw_server.proofs.Turns.{executes_round}
use Rattle.lw_server.proofs.Turns.{writes_none}
use Rattle.lw_server.proofs.round.execute_round.Goals as goal

pub returns-clause-executed : goal.returns-clause-executed
returns-clause-executed g c =
    let calls = c.in_ok-put_sweeps_where.ensures
    ∙ ap (λ claimed. c.args.sorted.calls.items ++ cond claimed (replicate sweeps_a_turn (Sweep c.args.before)) []) c.is_claimed.ensures in
    let counts = c.count.ensures ∙ (λ k. counted c.args.tally.now ((c.deref-2.ensures.value ∙ sym c.deref.ensures.value) k) (c.deref-3.ensures.value k)) in
    executes_round _ _ _ _ _ _ _ _ _ _ _ _ calls c.deref.ensures.value c.in_ok-replies.ensures.round counts c.in_ok-reserve.ensures.items
    c.put_handled.ensures.handled.1.0 c.put_handled.ensures.handled.1.1

pub returns-in_err-put_sweeps_where-clause-own : goal.returns-in_err-put_sweeps_where-clause-own
returns-in_err-put_sweeps_where-clause-own g c = writes_none _

pub returns-in_err-reserve-clause-own : goal.returns-in_err-reserve-clause-own
returns-in_err-reserve-clause-own g c = writes_none _

pub returns-in_err-reserve-2-clause-own : goal.returns-in_err-reserve-2-clause-own
returns-in_err-reserve-2-clause-own g c = writes_none _
