-- One round more leads on from where rounds have led, and rounds are over where no datagram is left.
use Rattle.std.proofs.Common.{◌≡◌, ◌≤◌, ℕ, suc, List, length, subst, sym, arith}
use Rattle.lw_held.specs.Shelves.{AreInOrder}
use Rattle.lw_held.specs.Transcript.{Transcript}
use Rattle.lw_held.specs.declared.shelf.Shelf.{Shelf}
use Rattle.lw_crew.specs.declared.job.Job.{Job}
use Rattle.lw_serve.specs.Runs.{AreOver, IsReached, Leads, Standing}
use Rattle.lw_serve.specs.declared.plan.Plan.{Plan}

pub one_more : (plan : Plan) (old new : List Shelf) (rounds : ℕ) (before after : Standing) → new ≡ old → IsReached plan old rounds before → Leads old before after → IsReached plan new (suc rounds) after
one_more plan old new rounds before after same reached leads = subst (λ (shelves : List Shelf). IsReached plan shelves (suc rounds) after) (sym same) (before, reached, leads)

pub over_at : (plan : Plan) (shelves : List Shelf) (passes : List Transcript) (kept : List Job) (since : List ℕ) (rounds left : ℕ) → left ≤ 0 → length shelves ≡ plan.nodes → AreInOrder shelves → IsReached plan shelves rounds (record { left = left; passes = passes; kept = kept; since = since }) → AreOver plan shelves passes kept
over_at plan shelves passes kept since rounds left none nodes order reached =
    let no_left : left ≡ 0 = omega arith in
    record {
      nodes = nodes;
      order = order;
      rounds = rounds;
      since = since;
      reached = subst (λ (n : ℕ). IsReached plan shelves rounds (record { left = n; passes = passes; kept = kept; since = since })) no_left reached;
    }
