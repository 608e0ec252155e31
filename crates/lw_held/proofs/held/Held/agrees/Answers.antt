use Rattle.std.proofs.Common.{rules, ◌∙◌, ap, sym}
use Rattle.lw_held.specs.History.{HeldContent}
use Rattle.lw_held.proofs.held.Held.agrees.Goals as goal

pub returns-in-None-clause-ok : goal.returns-in-None-clause-ok
returns-in-None-clause-ok c =
    (sym (ap (λ (h : HeldContent). h.node.number) c.self.view_is) ∙ sym c.self.invariant.0 ∙ c.if-self-node.false, c.in-None.ensures)

pub returns-in-None-clause-err : goal.returns-in-None-clause-err
returns-in-None-clause-err c = search rules

pub returns-in-Some-clause-err : goal.returns-in-Some-clause-err
returns-in-Some-clause-err c = search rules
