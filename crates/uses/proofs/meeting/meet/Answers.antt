use Rattle.std.proofs.Common.{◌∙◌, sym}
use Rattle.uses.proofs.Merges.{alike, on_ok, on_ok2, one_knows, other_knows}
use Rattle.uses.proofs.meeting.meet.Goals as goal

pub returns-clause-one : goal.returns-clause-one
returns-clause-one c = λ one other.
    on_ok2 c.pass-2.result (one_knows c.args.one.now c.args.other.now c.pass.new.other c.pass-2.new.other c.in_ok-pass.ensures.clock (c.in_ok-pass.ensures.state one)) c.pass-2.ensures.clock
    (c.pass-2.ensures.state (c.pass.ensures.counted other))

pub returns-clause-other : goal.returns-clause-other
returns-clause-other c = λ one other.
    on_ok c.pass-2.result (λ _. other_knows c.args.one.now c.args.other.now c.pass.new.other c.pass-2.new.other c.in_ok-pass.ensures.clock (c.in_ok-pass.ensures.state one)) c.pass-2.ensures.clock

pub returns-clause-alike : goal.returns-clause-alike
returns-clause-alike c = λ one other.
    let first = one_knows c.args.one.now c.args.other.now c.pass.new.other c.pass-2.new.other c.in_ok-pass.ensures.clock (c.in_ok-pass.ensures.state one) in
    let second = other_knows c.args.one.now c.args.other.now c.pass.new.other c.pass-2.new.other c.in_ok-pass.ensures.clock (c.in_ok-pass.ensures.state one) in
    on_ok2 c.pass-2.result (λ clock state. alike c.pass-2.new.other c.pass.new.other ((first clock state).state ∙ sym second.state)) c.pass-2.ensures.clock
    (c.pass-2.ensures.state (c.pass.ensures.counted other))
