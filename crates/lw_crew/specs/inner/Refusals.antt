-- Results that were told of jobs, as they are looked at one after another.
use Rattle.std.specs.Prelude.{◌≡◌, ℕ, ◌<◌, List, Some, slice_get}
use Rattle.lw_held.specs.declared.shelf.Shelf.{Shelf}
use Rattle.lw_held.specs.Transcript.{Transcript}
use Rattle.lw_crew.specs.declared.job.Job.{Job}
use Rattle.lw_crew.specs.declared.job.Done.{Done}
use Rattle.lw_crew.specs.declared.job.CrewFault.{CrewFault}
use Rattle.lw_crew.specs.declared.job.CrewFault.TheVariants.{Missing}
use Rattle.lw_crew.specs.Refusals.{IsTrueAt}

-- each of the first n results is true
abbrev pub AreTrueTo : List Shelf → List ℕ → List Transcript → List Job → List Done → ℕ → Type 0
AreTrueTo shelves before after jobs dones n = (i : ℕ) (done : Done) → i < n → slice_get dones i ≡ Some done → IsTrueAt shelves before after jobs dones i done

-- result i is the first that is not true
abbrev pub IsFirstUntrue : List Shelf → List ℕ → List Transcript → List Job → List Done → ℕ → Type 0
IsFirstUntrue shelves before after jobs dones i = (done : Done) × (slice_get dones i ≡ Some done) × AreTrueTo shelves before after jobs dones i × (¬ IsTrueAt shelves before after jobs dones i done)

-- the fault is that a job has no result
abbrev pub IsMissing : CrewFault → Type 0
IsMissing (Missing job) = Unit {0}
IsMissing _ = ⊥
