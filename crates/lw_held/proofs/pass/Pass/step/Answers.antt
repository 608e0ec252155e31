use Rattle.std.proofs.Common.{rules, ◌≡◌, length}
use Rattle.lw_held.proofs.Longer.{numbered_longer}
use Rattle.lw_held.proofs.pass.Pass.step.Goals as goal

pub invariant_of-self-2 : goal.invariant_of-self-2
invariant_of-self-2 c =
    let next : c.in_ok-entry.entry.number ≡ length c.reserve.new.self.items = search rules in
    numbered_longer c.self.inside.number c.self.inside.parts.items c.reserve.new.self.items c.push_reserved.new.self.items _
    c.self.invariant c.reserve.ensures.items c.push_reserved.ensures.items c.in_ok-entry.ensures.entered.pass_is next

pub returns-clause-entered : goal.returns-clause-entered
returns-clause-entered c = search rules
