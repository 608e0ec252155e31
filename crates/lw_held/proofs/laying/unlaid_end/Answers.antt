use Rattle.std.proofs.Common.{◌∙◌, sym, subst}
use Rattle.lw_held.specs.Agree.{IsFirstBreak, IsLaid}
use Rattle.lw_held.specs.inner.Looks.{IsEndOf}
use Rattle.lw_held.proofs.Pieces.{LaidAt, both_ends}
use Rattle.lw_held.proofs.laying.unlaid_end.Goals as goal

pub returns : goal.returns
returns c =
    subst (IsFirstBreak (λ p. IsEndOf c.args.node c.args.volume.now p → IsLaid c.args.node c.args.volumes.now c.args.held.now p)) (sym c.lesser.ensures)
    (both_ends c.args.node c.args.volumes.now c.args.held.now c.args.volume.now (sym c.node.ensures ∙ c.if-node.false) c.unlaid_at-first.result c.unlaid_at.result
    (subst (λ q. IsFirstBreak (LaidAt c.args.node c.args.volumes.now c.args.held.now q) c.unlaid_at-first.result) c.first.ensures.value c.unlaid_at-first.ensures)
    (subst (λ q. IsFirstBreak (LaidAt c.args.node c.args.volumes.now c.args.held.now q) c.unlaid_at.result) c.end.ensures c.unlaid_at.ensures))
