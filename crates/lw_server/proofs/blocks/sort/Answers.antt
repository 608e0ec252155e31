use Rattle.std.proofs.Common.{subst, ◌≡◌, List, ℕ}
use Rattle.lw_messaging.specs.Bodies.{IsTaken}
use Rattle.lw_stamp.specs.Moment.{ms_of}
use Rattle.lw_server.proofs.Sorting.{on_err, sorting_fails_behind, sorting_goes_on}
use Rattle.lw_server.proofs.blocks.sort.Goals as goal

pub loop-datagram-preserved : goal.loop-datagram-preserved
loop-datagram-preserved c =
    let taken = subst (λ (bytes : List ℕ). IsTaken c.loop-datagram.bodies (ms_of c.args.steady) c.in-Some.datagram.from bytes c.in_ok-piece.piece c.take.new.self) c.deref.ensures c.in_ok-piece.ensures.taken in
    sorting_goes_on _ _ _ _ _ _ _ _ _ _ _ _ c.in-Some.ensures.steps.0 taken c.in_ok-put.ensures c.loop-datagram.invariant

pub returns-in_err-put-clause-memory : goal.returns-in_err-put-clause-memory
returns-in_err-put-clause-memory c =
    let taken = subst (λ (bytes : List ℕ). IsTaken c.loop-datagram.bodies (ms_of c.args.steady) c.in-Some.datagram.from bytes c.in_ok-piece.piece c.take.new.self) c.deref.ensures c.in_ok-piece.ensures.taken in
    on_err _ (sorting_fails_behind _ _ _ _ _ _ _ _ _ _ _ c.in-Some.ensures.steps.0 taken c.loop-datagram.invariant)
