-- Jobs that were really done.
use Rattle.std.specs.Prelude.{◌≡◌, ℕ, ◌≤◌, List, length, map, Some, slice_get, slice_index}
use Rattle.lw_held.specs.declared.entry.Part.{Part}
use Rattle.lw_held.specs.declared.shelf.Shelf.{Shelf}
use Rattle.lw_held.specs.Transcript.{Transcript}
use Rattle.lw_crew.specs.declared.job.Job.{Job}
use Rattle.lw_crew.specs.declared.job.Done.{Done}
use Rattle.lw_crew.specs.declared.job.JobOutcome.{JobOutcome}
use Rattle.lw_crew.specs.declared.job.JobOutcome.TheVariants.{At, NoMemory, NoSuchNode}

-- a shelf has the node
pub record HasShelf (shelves : List Shelf) (node : ℕ) : Type 0 where
  pub place : ℕ
  pub shelf : Shelf
  pub is : slice_get shelves place ≡ Some shelf
  pub number : shelf.number ≡ node

-- how many parts each transcript has
abbrev pub lengths : List Transcript → List ℕ
lengths passes = map (λ pass. length pass.parts) passes

-- the pass has the part, of the job's node and with its call
pub record HasMade (pass : Transcript) (number : ℕ) (job : Job) : Type 0 where
  pub part : Part
  pub is : slice_get pass.parts number ≡ Some part
  pub node : part.node ≡ job.node
  pub call : part.entry.call ≡ job.call

-- The pass of that number has the part, past what it had before: it is of the job's node, with its call.
pub record IsGained (before : List ℕ) (after : List Transcript) (job : Job) (pass number : ℕ) : Type 0 where
  pub place : ℕ
  pub gainer : Transcript
  pub is : slice_get after place ≡ Some gainer
  pub pass_is : gainer.number ≡ pass
  pub beyond : slice_index before place ≤ number
  pub made : HasMade gainer number job

-- What became of a job: no such node where no shelf has it, else a part that a pass gained, or want of memory.
abbrev pub IsOutcome : List Shelf → List ℕ → List Transcript → Job → JobOutcome → Type 0
IsOutcome shelves before after job (At pass number) = HasShelf shelves job.node × IsGained before after job pass number
IsOutcome shelves before after job NoMemory = HasShelf shelves job.node
IsOutcome shelves before after job NoSuchNode = ¬ HasShelf shelves job.node

-- the outcome is this part of this pass
abbrev pub IsPartOf : JobOutcome → ℕ → ℕ → Type 0
IsPartOf (At pass number) of at = (pass ≡ of) × (number ≡ at)
IsPartOf _ _ _ = ⊥

-- Each result is what became of the job that it names, and no part is of two.
pub record AreTrue (shelves : List Shelf) (before : List ℕ) (after : List Transcript) (jobs : List Job) (dones : List Done) : Type 0 where
  pub each : (i : ℕ) (done : Done) → slice_get dones i ≡ Some done → (job : Job) × (slice_get jobs done.job ≡ Some job) × IsOutcome shelves before after job done.result
  pub apart : (i k pass number : ℕ) (one other : Done) → slice_get dones i ≡ Some one → slice_get dones k ≡ Some other → IsPartOf one.result pass number → IsPartOf other.result pass number → i ≡ k

-- result k is of job k, and there are as many as jobs
pub record AreInJobOrder (count : ℕ) (dones : List Done) : Type 0 where
  pub len : length dones ≡ count
  pub each : (k : ℕ) (done : Done) → slice_get dones k ≡ Some done → done.job ≡ k

-- One result for each job, in the order of the jobs, and each is what became of it; no part is of two jobs. The numbers
-- are how many parts the transcripts had before.
pub record AreDone (shelves : List Shelf) (before : List ℕ) (after : List Transcript) (jobs : List Job) (dones : List Done) : Type 0 where
  pub order : AreInJobOrder (length jobs) dones
  pub true : AreTrue shelves before after jobs dones
