-- What a round makes of the passes, the kept merges and the change numbers.
use Rattle.std.specs.Prelude.{◌≡◌, ℕ, List, ◌++◌, length, map}
use Rattle.lw_stamp.specs.declared.moment.Moment.{Moment}
use Rattle.lw_held.specs.declared.shelf.Shelf.{Shelf}
use Rattle.lw_held.specs.Transcript.{Transcript}
use Rattle.lw_crew.specs.Continues.{AllContinue}
use Rattle.lw_crew.specs.Jobs.{AreDone, lengths}
use Rattle.lw_crew.specs.declared.job.Done.{Done}
use Rattle.lw_crew.specs.declared.job.Job.{Job}
use Rattle.lw_serve.specs.Jobs.{jobs_of_round, sends_from}
use Rattle.lw_serve.specs.Outcomes.{change_after, merges_after_all, refused_merges}
use Rattle.lw_udp.specs.declared.datagram.Datagram.{Datagram}

-- the workers have done the jobs
pub record Serves (shelves : List Shelf) (before after : List Transcript) (jobs : List Job) (dones : List Done) : Type 0 where
  pub passes : AllContinue before after
  pub done : AreDone shelves (lengths before) after jobs dones

-- One round: first the kept merges, the Takes of the batch and a Sweep of each node, then a Send of each node. What is kept for the next round
-- are the merges that found no memory, and behind them those of the new deltas.
pub record IsRound (shelves : List Shelf) (now : Moment) (batch : List Datagram) (old new : List Transcript) (kept keeps : List Job) (since sinces : List ℕ) : Type 0 where
  pub mid : List Transcript
  pub dones : List Done
  pub sent : List Done
  pub served : Serves shelves old mid (jobs_of_round kept (length shelves) now batch) dones
  pub asked : Serves shelves mid new (sends_from 1 since) sent
  pub keeps_is : keeps ≡ refused_merges (jobs_of_round kept (length shelves) now batch) mid dones ++ merges_after_all (length shelves) new sent
  pub sinces_is : sinces ≡ map (change_after since new) sent
