-- Rounds lead from the beginning to where the server stands, and each takes a datagram at least. The sink's volumes are of
-- its nodes.
use Rattle.std.proofs.Common.{◌≡◌, ℕ, length, vec_len}
use Rattle.lw_serve.specs.Runs.{IsReached}
use Rattle.lw_serve.specs.inner.Volumes.{AreOfNodes}
use Rattle.lw_serve.proofs.serving.serve_rounds.Given as goal

abbrev pub invariant-loop-left : goal.invariant-loop-left
invariant-loop-left g l = record {
  nodes : vec_len l.server.nodes.shelves ≡ l.plan.nodes;
  volumes : AreOfNodes (length l.server.nodes.shelves.items) (g.S.VolumeSink.kept l.sink);
  rounds : ℕ;
  reached : IsReached l.plan l.server.nodes.shelves.items rounds (record { left = l.left; passes = l.server.nodes.passes.items; kept = l.server.kept.items; since = l.server.since.items });
}

abbrev pub decreases-loop-left : goal.decreases-loop-left
decreases-loop-left g l = l.left
