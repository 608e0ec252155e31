-- Results that are put into slots by their jobs, and read off in order.
use Rattle.std.specs.Prelude.{◌≡◌, ℕ, ◌<◌, List, length, Option, Some, None, slice_get}
use Rattle.lw_crew.specs.declared.job.Done.{Done}
use Rattle.lw_crew.specs.Gather.{AreClean, HasJob}

-- the slots hold the first n results by their jobs
pub record AreFilled (count : ℕ) (dones : List Done) (n : ℕ) (slots : List (Option Done)) : Type 0 where
  pub clean : AreClean count dones n
  pub len : length slots ≡ count
  pub full : (k : ℕ) (done : Done) → slice_get slots k ≡ Some (Some done) → (done.job ≡ k) × ((i : ℕ) × (i < n) × (slice_get dones i ≡ Some done))
  pub empty : (k : ℕ) → slice_get slots k ≡ Some None → ¬ HasJob dones n k

-- what the first n slots hold, in order
pub record AreTaken (slots : List (Option Done)) (n : ℕ) (taken : List Done) : Type 0 where
  pub len : length taken ≡ n
  pub each : (k : ℕ) (done : Done) → slice_get taken k ≡ Some done → slice_get slots k ≡ Some (Some done)
  pub full : (k : ℕ) → k < n → (done : Done) × (slice_get slots k ≡ Some (Some done))
