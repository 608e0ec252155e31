-- Why results that were told of jobs are refused.
use Rattle.std.specs.Prelude.{◌≡◌, ℕ, ◌<◌, List, length, Some, slice_get}
use Rattle.lw_held.specs.declared.shelf.Shelf.{Shelf}
use Rattle.lw_held.specs.Transcript.{Transcript}
use Rattle.lw_crew.specs.declared.job.Job.{Job}
use Rattle.lw_crew.specs.declared.job.Done.{Done}
use Rattle.lw_crew.specs.declared.job.CrewFault.{CrewFault}
use Rattle.lw_crew.specs.declared.job.CrewFault.TheVariants.{Missing, Double, Stranger, NoMemory}
use Rattle.lw_crew.specs.Gather.{HasJob}
use Rattle.lw_crew.specs.Jobs.{IsOutcome, IsPartOf}

-- Result i is true: it names a job and is what became of it, and a part that it tells of comes after each part of the
-- same pass that an earlier result tells of.
pub record IsTrueAt (shelves : List Shelf) (before : List ℕ) (after : List Transcript) (jobs : List Job) (dones : List Done) (i : ℕ) (done : Done) : Type 0 where
  pub job : Job
  pub is : slice_get jobs done.job ≡ Some job
  pub outcome : IsOutcome shelves before after job done.result
  pub later : (k pass earlier number : ℕ) (other : Done) → k < i → slice_get dones k ≡ Some other → IsPartOf other.result pass earlier → IsPartOf done.result pass number → earlier < number

-- each of the first n results is true, and no two are of one job
abbrev pub AreGood : List Shelf → List ℕ → List Transcript → List Job → List Done → ℕ → Type 0
AreGood shelves before after jobs dones n = (i : ℕ) (done : Done) → i < n → slice_get dones i ≡ Some done → IsTrueAt shelves before after jobs dones i done × (¬ HasJob dones i done.job)

-- The first result that is not true is told as a stranger, and the first that is the second of its job as a double,
-- whichever comes first; where there is neither, the least job that has no result. Want of memory may come in place of
-- each.
abbrev pub IsRefused : List Shelf → List ℕ → List Transcript → List Job → List Done → CrewFault → Type 0
IsRefused shelves before after jobs dones (Stranger job) = (i : ℕ) × (done : Done) × (slice_get dones i ≡ Some done) × AreGood shelves before after jobs dones i × (done.job ≡ job) × (¬ IsTrueAt shelves before after jobs dones i done)
IsRefused shelves before after jobs dones (Double job) = (i : ℕ) × (done : Done) × (slice_get dones i ≡ Some done) × AreGood shelves before after jobs dones i × (done.job ≡ job) × IsTrueAt shelves before after jobs dones i done × HasJob dones i job
IsRefused shelves before after jobs dones (Missing job) = AreGood shelves before after jobs dones (length dones) × (job < length jobs) × (¬ HasJob dones (length dones) job) × ((k : ℕ) → k < job → HasJob dones (length dones) k)
IsRefused shelves before after jobs dones NoMemory = Unit {0}
