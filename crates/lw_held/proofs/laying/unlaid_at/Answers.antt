use Rattle.lw_held.proofs.Pieces.{laid_at, unlaid_at}
use Rattle.std.proofs.Common.{◌≡◌, false, true, refl}
use Rattle.lw_held.proofs.laying.unlaid_at.Goals as goal

pub returns-then-is_laid : goal.returns-then-is_laid
returns-then-is_laid c = laid_at c.args.node c.args.volumes.now c.args.held.now c.args.place (c.if-is_laid.ensures.0 refl)

pub returns-else-is_laid : goal.returns-else-is_laid
returns-else-is_laid c = unlaid_at c.args.node c.args.volumes.now c.args.held.now c.args.place (λ laid. let no : false ≡ true = c.if-is_laid.ensures.1 laid in cc)
