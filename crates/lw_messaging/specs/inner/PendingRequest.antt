-- What a step makes of a request that waits on.
use Rattle.std.specs.Prelude.{◌≡◌, List, Some}
use Rattle.lw_stamp.specs.declared.moment.Moment.{Moment}
use Rattle.lw_messaging.specs.declared.message_ids.IdCounter.{IdCounter}
use Rattle.lw_messaging.specs.PendingRequest.{StepContent, PendingContent, stepped}

-- a request that waits on is now this one
pub record IsSteppedTo (now : Moment) (counters : List IdCounter) (old : PendingContent) (step : StepContent)
    (new : PendingContent) (after : List IdCounter) : Type 0 where
  pub step_is : step ≡ (stepped now counters old).step
  pub request : (stepped now counters old).request ≡ Some new
  pub counters_are : after ≡ (stepped now counters old).counters
