use Rattle.std.proofs.Common.{◌∙◌, ap, sym}
use Rattle.lw_node.specs.Node.{NodeContent}
use Rattle.lw_held.proofs.Histories.{leads_number}
use Rattle.lw_held.proofs.held.Held.cut_off.Goals as goal

pub new-requires-2-clause-number : goal.new-requires-2-clause-number
new-requires-2-clause-number c =
    c.self.invariant.0
    ∙ leads_number c.self.inside.opening c.self.inside.journal.items c.self.inside.node c.self.invariant.1
    ∙ sym (ap (λ (n : NodeContent). n.number) c.replace-before.ensures.value)
