use Rattle.std.proofs.Common.{◌∙◌, ◌+◌, refl, sym, ap, subst}
use Rattle.lw_stamp.specs.Clock.{counter_of}
use Rattle.lw_reg.specs.Endpoint.{IsEndpoint}
use Rattle.lw_reg.specs.Marks.{marks_of}
use Rattle.lw_reg.specs.State.{state_join, state_of}
use Rattle.lw_table.specs.Changes.{Recounts}
use Rattle.lw_node.specs.Node.{NodeContent}
use Rattle.lw_node.specs.inner.Within.{IsNextOf}
use Rattle.lw_node.proofs.Issuing.{joined_slot, joined_marks, next_clock, still_node}
use Rattle.lw_node.proofs.node.Node.issue.Goals as goal

pub invariant_of-self-2 : goal.invariant_of-self-2
invariant_of-self-2 c =
    let op = c.args.operation in
    let next : IsNextOf (counter_of c.self.inside.clock) op = subst (λ (n : NodeContent). IsNextOf n.clock op) (sym c.self.view_is) c.requires in
    let named : IsEndpoint op.endpoint = subst IsEndpoint c.in_ok-endpoint.ensures.endpoint c.in_ok-endpoint.ensures.within in
    let joined = joined_slot c.self.inside.table.state c.join.new.self.state op c.in_ok-endpoint.endpoint c.in_ok-endpoint.slot c.in_ok-join.ensures.state c.in_ok-endpoint.ensures.endpoint c.in_ok-endpoint.ensures.slot in
    still_node (counter_of c.self.inside.clock) _ c.self.inside.table.state c.join.new.self.state op op.stamp.counter next named c.self.invariant.0 c.self.invariant.1 joined c.raise.ensures refl

pub returns-clause-issued : goal.returns-clause-issued
returns-clause-issued c =
    let op = c.args.operation in
    let joined = joined_slot c.self.inside.table.state c.join.new.self.state op c.in_ok-endpoint.endpoint c.in_ok-endpoint.slot c.in_ok-join.ensures.state c.in_ok-endpoint.ensures.endpoint c.in_ok-endpoint.ensures.slot in
    record {
      number = ap (λ (n : NodeContent). n.number) c.self.view_is;
      clock = c.raise.ensures ∙ next_clock (counter_of c.self.inside.clock) op.stamp.counter (c.requires.next ∙ ap (λ (n : NodeContent). n.clock + 1) (sym c.self.view_is)) ∙ ap (λ (n : NodeContent). n.clock + 1) c.self.view_is;
      state = joined ∙ joined_marks c.self.inside.table.state op ∙ ap (λ (n : NodeContent). state_join n.table.state (state_of (marks_of op))) c.self.view_is;
      count = subst (λ (n : NodeContent). Recounts n.table.state c.join.new.self.state n.table.count c.join.new.self.count) c.self.view_is c.in_ok-join.ensures.count;
    }
