use Rattle.lw_held.proofs.Longer.{fails_at, settles}
use Rattle.lw_held.proofs.shelf.Shelf.agrees.Goals as goal

pub returns-clause-settled : goal.returns-clause-settled
returns-clause-settled g c =
    settles c.agrees.result c.args.self.now.number c.args.volumes.now c.deref_mut-held.result.now c.args.passes.now c.are_legal.ensures c.legal.ensures c.agrees.ensures.ok

pub returns-clause-fails : goal.returns-clause-fails
returns-clause-fails g c = fails_at c.agrees.result c.args.self.now.number c.args.volumes.now c.deref_mut-held.result.now c.args.passes.now c.legal.ensures c.agrees.ensures.err
