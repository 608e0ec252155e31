use Rattle.std.proofs.Common.{◌≡◌, ◌∙◌, ◌-◌, suc, length, refl, sym, subst, arith}
use Rattle.lw_serve.specs.inner.Runs.{EndsRounds}
use Rattle.lw_serve.specs.inner.Volumes.{AreOfNodes}
use Rattle.lw_serve.proofs.Causes.{raised, receiving_ends, round_ends}
use Rattle.lw_serve.proofs.Keeping.{none_kept}
use Rattle.lw_serve.proofs.Reaching.{one_more, over_at}
use Rattle.lw_serve.proofs.serving.serve_rounds.Goals as goal

pub loop-left-init : goal.loop-left-init
loop-left-init g c =
    let count = length c.in_ok-server.server.nodes.shelves.items in
    record {
      nodes = c.in_ok-server.ensures.shelves;
      volumes = subst (AreOfNodes count) (sym c.requires) (none_kept count);
      rounds = 0;
      reached = c.in_ok-server.ensures.begun;
    }

pub cut-server-requires : goal.cut-server-requires
cut-server-requires g c = rw c.in_ok-served.ensures.shelves c.loop-left.invariant.volumes

pub returns-in_err-batch-clause-fault : goal.returns-in_err-batch-clause-fault
returns-in_err-batch-clause-fault g c = raised EndsRounds c.from_residual-in_err-batch.result c.from_residual-in_err-batch.ensures.1 (receiving_ends _ c.in_err-batch.ensures.fault)

pub returns-in_err-served-clause-fault : goal.returns-in_err-served-clause-fault
returns-in_err-served-clause-fault g c = raised EndsRounds c.from_residual-in_err-served.result c.from_residual-in_err-served.ensures.1 (round_ends _ c.in_err-served.ensures.fault)

pub loop-left-preserved : goal.loop-left-preserved
loop-left-preserved g c =
    let old = c.loop-left.server in
    let served = c.in_ok-served.served in
    let new = c.cut-server.result in
    let shelves : new.nodes.shelves.items ≡ old.nodes.shelves.items = rw c.cut-server.ensures.shelves (rw c.in_ok-served.ensures.shelves refl) in
    let size = c.in_ok-batch.ensures.size in
    let counted = c.in_ok-batch.batch.ok.0 in
    record {
      nodes = rw c.cut-server.ensures.shelves (rw c.in_ok-served.ensures.shelves c.loop-left.invariant.nodes);
      volumes = rw c.cut-server.ensures.shelves c.cut-server.ensures.volumes;
      rounds = suc c.loop-left.invariant.rounds;
      reached = one_more c.args.plan.now old.nodes.shelves.items new.nodes.shelves.items c.loop-left.invariant.rounds
          (record { left = c.loop-left.left; passes = old.nodes.passes.items; kept = old.kept.items; since = old.since.items })
          (record { left = c.loop-left.left - c.len.result; passes = new.nodes.passes.items; kept = new.kept.items; since = new.since.items })
          shelves
          c.loop-left.invariant.reached
          (record {
            now = c.in-Some.now;
            batch = c.in_ok-batch.batch.items;
            some = omega (arith, size, counted);
            most = omega (arith, size, counted);
            left = omega (arith, size, counted, c.len.ensures);
            round = rw c.cut-server.ensures.passes (rw c.cut-server.ensures.kept (rw c.cut-server.ensures.since c.in_ok-served.ensures.round));
          });
    }

pub returns-clause-over : goal.returns-clause-over
returns-clause-over g c =
    let over = c.loop-left.server in
    over_at c.args.plan.now over.nodes.shelves.items over.nodes.passes.items over.kept.items over.since.items c.loop-left.invariant.rounds c.loop-left.left
    (omega arith) (sym over.nodes.shelves.ok.0 ∙ c.loop-left.invariant.nodes) over.nodes.in_order c.loop-left.invariant.reached
