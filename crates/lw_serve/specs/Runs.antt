-- Whole runs of a plan: the rounds that serve its datagrams, the end, and what ends a run early.
use Rattle.std.specs.Prelude.{◌≡◌, ◌≤◌, ℕ, zero, suc, ◌+◌, List, [], length, replicate}
use Rattle.lw_stamp.specs.declared.moment.Moment.{Moment}
use Rattle.lw_held.specs.declared.shelf.Shelf.{Shelf}
use Rattle.lw_held.specs.declared.shelf.Unsettled.{Unsettled}
use Rattle.lw_held.specs.History.{VolumeContent}
use Rattle.lw_held.specs.Shelves.{AreInOrder, AreNew, AreSettled, IsUnsettled}
use Rattle.lw_held.specs.Transcript.{Transcript}
use Rattle.lw_crew.specs.declared.job.Done.{Done}
use Rattle.lw_crew.specs.declared.job.Job.{Job}
use Rattle.lw_serve.specs.Plan.{most_at_once}
use Rattle.lw_serve.specs.Rounds.{IsRound, Serves}
use Rattle.lw_serve.specs.declared.fault.ServeFault.{ServeFault}
use Rattle.lw_serve.specs.declared.fault.ServeFault.TheVariants as faults
use Rattle.lw_serve.specs.declared.plan.Plan.{Plan}
use Rattle.lw_udp.specs.declared.datagram.Datagram.{Datagram}

-- ---- the rounds
-- Where a run stands between two rounds: how many datagrams are still to be taken, the passes, the merges that are kept,
-- and for each node the change number since which it sends next.
pub record Standing : Type 0 where
  pub left : ℕ
  pub passes : List Transcript
  pub kept : List Job
  pub since : List ℕ

-- A run begins: all datagrams of the plan are still to be taken, there is a pass for each worker with which no call was
-- made, no merge is kept, and each node sends since 0.
pub record IsBegun (plan : Plan) (standing : Standing) : Type 0 where
  pub left : standing.left ≡ plan.count
  pub workers : length standing.passes ≡ plan.workers
  pub new : AreNew standing.passes
  pub kept : standing.kept ≡ []
  pub since : standing.since ≡ replicate plan.nodes 0

-- One round leads from the one to the other: it takes 1 to 32 of the datagrams that are left.
pub record Leads (shelves : List Shelf) (old new : Standing) : Type 0 where
  pub now : Moment
  pub batch : List Datagram
  pub some : 1 ≤ length batch
  pub most : length batch ≤ most_at_once
  pub left : old.left ≡ length batch + new.left
  pub round : IsRound shelves now batch old.passes new.passes old.kept new.kept old.since new.since

-- So many rounds lead from where a run begins to where it stands.
abbrev pub IsReached : Plan → List Shelf → ℕ → Standing → Type 0
IsReached plan shelves zero standing = IsBegun plan standing
IsReached plan shelves (suc rounds) standing = (before : Standing) × IsReached plan shelves rounds before × Leads shelves before standing

-- The rounds of a run are over: of so many nodes as the plan says, numbered from 1, rounds lead to these passes and kept
-- merges, and no datagram is left.
pub record AreOver (plan : Plan) (shelves : List Shelf) (passes : List Transcript) (kept : List Job) : Type 0 where
  pub nodes : length shelves ≡ plan.nodes
  pub order : AreInOrder shelves
  pub rounds : ℕ
  pub since : List ℕ
  pub reached : IsReached plan shelves rounds (record { left = 0; passes = passes; kept = kept; since = since })

-- ---- the end
-- The kept merges are done, and the passes are then settled with the volumes.
pub record IsFinished (shelves : List Shelf) (volumes : List VolumeContent) (passes : List Transcript) (kept : List Job) : Type 0 where
  pub last : List Transcript
  pub dones : List Done
  pub served : Serves shelves passes last kept dones
  pub settled : AreSettled shelves volumes last

-- The kept merges are done, and some node with a legal history, of the number that is told, is then with the volumes not
-- what the passes say, first at the place that is told.
pub record IsRefused (shelves : List Shelf) (volumes : List VolumeContent) (passes : List Transcript) (kept : List Job) (told : Unsettled) : Type 0 where
  pub last : List Transcript
  pub dones : List Done
  pub served : Serves shelves passes last kept dones
  pub unsettled : IsUnsettled shelves volumes last told

-- The plan was served whole: its rounds are over, and the passes that served them are settled with the volumes.
pub record IsServed (plan : Plan) (volumes : List VolumeContent) : Type 0 where
  pub shelves : List Shelf
  pub passes : List Transcript
  pub kept : List Job
  pub over : AreOver plan shelves passes kept
  pub finished : IsFinished shelves volumes passes kept

-- The rounds of the plan are over, and some node with a legal history is, with the volumes, not what the passes that
-- served them say.
pub record IsUnserved (plan : Plan) (volumes : List VolumeContent) (told : Unsettled) : Type 0 where
  pub shelves : List Shelf
  pub passes : List Transcript
  pub kept : List Job
  pub over : AreOver plan shelves passes kept
  pub refused : IsRefused shelves volumes passes kept told

-- Why a run of the plan ended at a fault, where its passes tell: `Unsettled` where some node with a legal history, of that
-- number, is with the volumes not what the passes that served the plan say, first at that place; `WriteFailed` where the
-- passes are settled with the volumes.
abbrev pub HasCause : Plan → List VolumeContent → ServeFault → Type 0
HasCause plan volumes (faults.Unsettled node place) = IsUnserved plan volumes (record { node = node; place = place })
HasCause plan volumes faults.WriteFailed = IsServed plan volumes
HasCause plan volumes _ = Unit {0}
