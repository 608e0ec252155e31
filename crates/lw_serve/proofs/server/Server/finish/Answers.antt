use Rattle.std.proofs.Common.{◌≡◌, refl}
use Rattle.lw_serve.specs.inner.Runs.{EndsFinish}
use Rattle.lw_serve.proofs.Causes.{always, is_finished, is_refused, only_write, raised}
use Rattle.lw_serve.proofs.server.Server.finish.Goals as goal

pub returns-clause-finished : goal.returns-clause-finished
returns-clause-finished g c =
    let self = c.args.self in
    let nodes = c.in_ok-nodes.nodes in
    let same : nodes.shelves.items ≡ self.nodes.shelves.items = rw c.in_ok-nodes.ensures.shelves refl in
    always c.write_settled.result
    (is_finished self.nodes.shelves.items nodes.shelves.items (g.S.VolumeSink.kept c.args.sink.now) self.nodes.passes.items nodes.passes.items self.kept.items c.deref.result.now c.in_ok-nodes._dones.items
    same c.deref.ensures.value c.in_ok-nodes.ensures.served c.in_ok-settle.ensures.settled)

pub returns-clause-fault : goal.returns-clause-fault
returns-clause-fault g c =
    let self = c.args.self in
    let nodes = c.in_ok-nodes.nodes in
    let same : nodes.shelves.items ≡ self.nodes.shelves.items = rw c.in_ok-nodes.ensures.shelves refl in
    only_write self.nodes.shelves.items (g.S.VolumeSink.kept c.args.sink.now) self.nodes.passes.items self.kept.items c.write_settled.result c.write_settled.ensures.fault
    (is_finished self.nodes.shelves.items nodes.shelves.items (g.S.VolumeSink.kept c.args.sink.now) self.nodes.passes.items nodes.passes.items self.kept.items c.deref.result.now c.in_ok-nodes._dones.items
    same c.deref.ensures.value c.in_ok-nodes.ensures.served c.in_ok-settle.ensures.settled)

pub returns-in_err-settle-clause-fault : goal.returns-in_err-settle-clause-fault
returns-in_err-settle-clause-fault g c =
    let self = c.args.self in
    let nodes = c.in_ok-nodes.nodes in
    let same : nodes.shelves.items ≡ self.nodes.shelves.items = rw c.in_ok-nodes.ensures.shelves refl in
    raised (EndsFinish self.nodes.shelves.items (g.S.VolumeSink.kept c.args.sink.now) self.nodes.passes.items self.kept.items) c.from_residual-in_err-settle.result c.from_residual-in_err-settle.ensures.1
    (is_refused self.nodes.shelves.items nodes.shelves.items (g.S.VolumeSink.kept c.args.sink.now) self.nodes.passes.items nodes.passes.items self.kept.items c.deref.result.now c.in_ok-nodes._dones.items
    same c.deref.ensures.value c.in_ok-nodes.ensures.served _ c.in_err-settle.ensures.unsettled)
