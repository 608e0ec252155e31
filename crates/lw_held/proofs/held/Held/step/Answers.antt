use Rattle.std.proofs.Common.{rules, ◌∙◌, sym}
use Rattle.lw_held.proofs.Histories.{legal_longer, step_number}
use Rattle.lw_held.proofs.held.Held.step.Goals as goal

pub invariant_of-self-2 : goal.invariant_of-self-2
invariant_of-self-2 c = (
  c.self.invariant.0 ∙ sym (step_number c.self.inside.node c.args.call.now c.act_twice-reply.result.0 c.act_twice-reply.new.self c.act_twice-reply.ensures.step),
  legal_longer c.self.inside.opening c.self.inside.node c.act_twice-reply.new.self c.self.inside.journal.items c.reserve.new.self.items c.push_reserved.new.self.items c.args.pass c.args.number c.args.call.now c.in_ok-first.first c.act_twice-reply.result.0
      c.self.invariant.1 c.act_twice-reply.ensures.step c.in_ok-first.ensures.0 c.reserve.ensures.items c.push_reserved.ensures.items,
  c.self.invariant.2,
  c.self.invariant.3,
)

pub returns-clause-entered : goal.returns-clause-entered
returns-clause-entered c = search rules
