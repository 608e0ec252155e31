use Rattle.std.proofs.Common.{◌∙◌, sym}
use Rattle.lw_held.proofs.Agreement.{told_own}
use Rattle.lw_held.proofs.agreeing.first_untold_in.Goals as goal

pub returns-then-node : goal.returns-then-node
returns-then-node c = λ p own. absurd (c.if-node.true (c.node.ensures ∙ own))

pub returns : goal.returns
returns c = told_own c.args.node c.args.passes.now c.args.volume.now _ _ (sym c.node.ensures ∙ c.if-node.false) c.first.ensures.value c.entries.ensures.value _ c.first_untold.ensures
