-- How parts are told of, each once: for each pass, the least number that may come next.
use Rattle.std.specs.Prelude.{◌≡◌, ℕ, ◌+◌, ◌<◌, ◌≤◌, ◌⊎◌, List, length, Some, set, slice_get, slice_index}
use Rattle.lw_held.specs.declared.shelf.Shelf.{Shelf}
use Rattle.lw_held.specs.Transcript.{Transcript}
use Rattle.lw_crew.specs.declared.job.Job.{Job}
use Rattle.lw_crew.specs.declared.job.Done.{Done}
use Rattle.lw_crew.specs.declared.job.JobOutcome.{JobOutcome}
use Rattle.lw_crew.specs.declared.job.JobOutcome.TheVariants.{At, NoMemory, NoSuchNode}
use Rattle.lw_crew.specs.Jobs.{HasMade, HasShelf, IsOutcome, IsPartOf}

-- the pass at the place has the number
pub record IsAt (passes : List Transcript) (number place : ℕ) : Type 0 where
  pub pass : Transcript
  pub is : slice_get passes place ≡ Some pass
  pub number_is : pass.number ≡ number

-- the pass has made the call as a part that may come next, and the next one is above
pub record Claims (old new : List ℕ) (after : List Transcript) (job : Job) (pass number : ℕ) : Type 0 where
  pub place : ℕ
  pub at : IsAt after pass place
  pub free : slice_index old place ≤ number
  pub made : HasMade at.pass number job
  pub next : new ≡ set old place (number + 1)

-- the pass has made the call as a part that may come next
pub record MayClaim (old : List ℕ) (after : List Transcript) (job : Job) (pass number : ℕ) : Type 0 where
  pub place : ℕ
  pub at : IsAt after pass place
  pub free : slice_index old place ≤ number
  pub made : HasMade at.pass number job

-- what is told of a job holds, and a part that is told of is claimed
abbrev pub Holds : List Shelf → List ℕ → List ℕ → List Transcript → Job → JobOutcome → Type 0
Holds shelves old new after job (At pass number) = HasShelf shelves job.node × Claims old new after job pass number
Holds shelves old new after job NoMemory = HasShelf shelves job.node × (new ≡ old)
Holds shelves old new after job NoSuchNode = (¬ HasShelf shelves job.node) × (new ≡ old)

-- what is told holds of the job that it names
pub record IsTold (shelves : List Shelf) (old new : List ℕ) (after : List Transcript) (jobs : List Job) (done : Done) : Type 0 where
  pub job : Job
  pub is : slice_get jobs done.job ≡ Some job
  pub holds : Holds shelves old new after job done.result

-- what is told of a job can hold
abbrev pub MayHold : List Shelf → List ℕ → List Transcript → Job → JobOutcome → Type 0
MayHold shelves old after job (At pass number) = HasShelf shelves job.node × MayClaim old after job pass number
MayHold shelves old after job NoMemory = HasShelf shelves job.node
MayHold shelves old after job NoSuchNode = ¬ HasShelf shelves job.node

-- what is told can hold of the job that it names
pub record MayBeTold (shelves : List Shelf) (old : List ℕ) (after : List Transcript) (jobs : List Job) (done : Done) : Type 0 where
  pub job : Job
  pub is : slice_get jobs done.job ≡ Some job
  pub holds : MayHold shelves old after job done.result

-- one of the first n results tells of a part of the pass at the place, and the next one is just above it
pub record IsLast (next : List ℕ) (after : List Transcript) (dones : List Done) (n place : ℕ) : Type 0 where
  pub i : ℕ
  pub done : Done
  pub pass : ℕ
  pub number : ℕ
  pub below : i < n
  pub at : slice_get dones i ≡ Some done
  pub told : IsPartOf done.result pass number
  pub there : IsAt after pass place
  pub next_is : slice_index next place ≡ number + 1

-- What is known of the first n results: each is what became of its job, the parts of a pass come in rising order, and the
-- next one of a pass is just above the last that was told of, or the first that it gained.
pub record AreTrueBelow (shelves : List Shelf) (before next : List ℕ) (after : List Transcript) (jobs : List Job) (dones : List Done) (n : ℕ) : Type 0 where
  pub len : length next ≡ length before
  pub above : (i : ℕ) → slice_index before i ≤ slice_index next i
  pub each : (i : ℕ) (done : Done) → i < n → slice_get dones i ≡ Some done → (job : Job) × (slice_get jobs done.job ≡ Some job) × IsOutcome shelves before after job done.result
  pub behind : (i place pass number : ℕ) (done : Done) → i < n → slice_get dones i ≡ Some done → IsPartOf done.result pass number → IsAt after pass place → number < slice_index next place
  pub rising : (i k pass number more : ℕ) (one other : Done) → i < k → k < n → slice_get dones i ≡ Some one → slice_get dones k ≡ Some other → IsPartOf one.result pass number → IsPartOf other.result pass more → number < more
  pub last : (place : ℕ) → (slice_index next place ≡ slice_index before place) ⊎ IsLast next after dones n place
