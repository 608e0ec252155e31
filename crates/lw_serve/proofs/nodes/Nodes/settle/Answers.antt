use Rattle.std.proofs.Common.{sym, subst}
use Rattle.lw_held.specs.Shelves.{HaveShelves}
use Rattle.lw_serve.proofs.Keeping.{have_shelves}
use Rattle.lw_serve.proofs.nodes.Nodes.settle.Goals as goal

pub settle-requires-clause-volumes : goal.settle-requires-clause-volumes
settle-requires-clause-volumes g c =
    let nodes = c.args.self.now in
    subst (HaveShelves c.deref.result.now) (sym c.volumes.ensures)
    (subst (λ shelves. HaveShelves shelves (g.S.VolumeSink.kept c.args.sink.now)) (sym c.deref.ensures.value)
    (have_shelves nodes.shelves.items (g.S.VolumeSink.kept c.args.sink.now) nodes.in_order c.requires))
