use Rattle.std.proofs.Common.{ℕ, ◌∙◌, ap}
use Rattle.lw_table.specs.Table.{TableContent}
use Rattle.lw_node.specs.Node.{NodeContent}
use Rattle.lw_node.proofs.Issuing.{none_known}
use Rattle.lw_node.proofs.node.Node.new.Goals as goal

pub invariant_of-result : goal.invariant_of-result
invariant_of-result c = none_known _ (ap (λ (t : TableContent). t.state) c.new-2.ensures) _

pub returns : goal.returns
returns c =
    let node : ℕ → TableContent → NodeContent = λ clock table. record { number = c.args.number; clock = clock; table = table } in
    ap (λ n. node n c.new-2.result) c.new.ensures ∙ ap (λ t. node 0 t) c.new-2.ensures
