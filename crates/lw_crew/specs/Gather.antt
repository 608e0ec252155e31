-- What `gather` gives.
use Rattle.std.specs.Prelude.{◌≡◌, ℕ, ◌<◌, ◌≤◌, List, length, Some, slice_get}
use Rattle.lw_crew.specs.declared.job.Done.{Done}
use Rattle.lw_crew.specs.declared.job.CrewFault.{CrewFault}
use Rattle.lw_crew.specs.declared.job.CrewFault.TheVariants.{Missing, Double, Stranger, NoMemory}
use Rattle.lw_crew.specs.Jobs.{AreInJobOrder}

-- one of the first n results is of the job
pub record HasJob (dones : List Done) (n job : ℕ) : Type 0 where
  pub i : ℕ
  pub done : Done
  pub below : i < n
  pub at : slice_get dones i ≡ Some done
  pub is : done.job ≡ job

-- each of the first n results is of a job below the count, and no two are of one
abbrev pub AreClean : ℕ → List Done → ℕ → Type 0
AreClean count dones n = (i : ℕ) (done : Done) → i < n → slice_get dones i ≡ Some done → (done.job < count) × (¬ HasJob dones i done.job)

-- all results before this one are clean
abbrev pub IsFirst : ℕ → List Done → ℕ → Done → Type 0
IsFirst count dones i done = (slice_get dones i ≡ Some done) × AreClean count dones i

-- The first result that is of no job, or the second of one; where there is none, the least job that has no result. Want
-- of memory may come in place of each.
abbrev pub IsFault : ℕ → List Done → CrewFault → Type 0
IsFault count dones (Stranger job) = (i : ℕ) × (done : Done) × IsFirst count dones i done × (done.job ≡ job) × (count ≤ job)
IsFault count dones (Double job) = (i : ℕ) × (done : Done) × IsFirst count dones i done × (done.job ≡ job) × (job < count) × HasJob dones i job
IsFault count dones (Missing job) = AreClean count dones (length dones) × (job < count) × (¬ HasJob dones (length dones) job) × ((k : ℕ) → k < job → HasJob dones (length dones) k)
IsFault count dones NoMemory = Unit {0}

-- the results are of all jobs below the count, no two of one, and these are they in the order of the jobs
pub record IsGathered (count : ℕ) (dones gathered : List Done) : Type 0 where
  pub clean : AreClean count dones (length dones)
  pub order : AreInJobOrder count gathered
  pub from : (k : ℕ) (done : Done) → slice_get gathered k ≡ Some done → (i : ℕ) × (slice_get dones i ≡ Some done)

-- the number by which a fault is told
abbrev pub number_of : CrewFault → ℕ
number_of (Missing job) = 1
number_of (Double job) = 2
number_of (Stranger job) = 3
number_of NoMemory = 4
