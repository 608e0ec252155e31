-- How the parts of a run end.
use Rattle.std.specs.Prelude.{List}
use Rattle.lw_held.specs.declared.shelf.Shelf.{Shelf}
use Rattle.lw_held.specs.History.{VolumeContent}
use Rattle.lw_held.specs.Transcript.{Transcript}
use Rattle.lw_crew.specs.declared.job.Job.{Job}
use Rattle.lw_serve.specs.declared.fault.ServeFault.{ServeFault}
use Rattle.lw_serve.specs.declared.fault.ServeFault.TheVariants as faults
use Rattle.lw_serve.specs.Runs.{IsFinished, IsRefused}

-- ---- what ends a run early
-- what may end the receiving of a batch: a wire that fails, or want of memory
abbrev pub EndsReceiving : ServeFault → Type 0
EndsReceiving faults.ReceiveFailed = Unit {0}
EndsReceiving faults.NoMemory = Unit {0}
EndsReceiving _ = ⊥

-- what may end a round: a fault of the crew, or want of memory
abbrev pub EndsRound : ServeFault → Type 0
EndsRound (faults.Crew fault) = Unit {0}
EndsRound faults.NoMemory = Unit {0}
EndsRound _ = ⊥

-- what may end the rounds: also a wire or a clock that fails, but no journal and no writer
abbrev pub EndsRounds : ServeFault → Type 0
EndsRounds (faults.Unsettled node place) = ⊥
EndsRounds faults.WriteFailed = ⊥
EndsRounds _ = Unit {0}

-- what may end a run whose rounds are over: a fault of the crew; a node that is not what the passes say; or a writer that
-- fails, and then the passes are settled
abbrev pub EndsFinish : List Shelf → List VolumeContent → List Transcript → List Job → ServeFault → Type 0
EndsFinish shelves volumes passes kept (faults.Crew fault) = Unit {0}
EndsFinish shelves volumes passes kept (faults.Unsettled node place) = IsRefused shelves volumes passes kept (record { node = node; place = place })
EndsFinish shelves volumes passes kept faults.WriteFailed = IsFinished shelves volumes passes kept
EndsFinish shelves volumes passes kept _ = ⊥
