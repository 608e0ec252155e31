-- What ends a batch or a round ends the rounds, and what ends the rounds or the end of a run is a cause of its fault.
use Rattle.lw_held.specs.declared.shelf.Shelf.{Shelf}
use Rattle.lw_held.specs.History.{VolumeContent}
use Rattle.lw_held.specs.Transcript.{Transcript}
use Rattle.lw_crew.specs.declared.job.Job.{Job}
use Rattle.std.proofs.Common.{◌≡◌, List, Result, Ok, Err, sym, subst}
use Rattle.std.specs.Prelude.{IfErr, IsErrAnd, IsOkUnless, OnOk}
use Rattle.lw_held.specs.declared.shelf.Unsettled.{Unsettled as Told}
use Rattle.lw_held.specs.Shelves.{AreSettled, IsUnsettled}
use Rattle.lw_crew.specs.declared.job.Done.{Done}
use Rattle.lw_serve.specs.Rounds.{Serves}
use Rattle.lw_serve.specs.Runs.{AreOver, HasCause, IsFinished, IsRefused, IsServed}
use Rattle.lw_serve.specs.inner.Runs.{EndsFinish, EndsReceiving, EndsRound, EndsRounds}
use Rattle.lw_serve.specs.declared.fault.ServeFault.{ServeFault}
use Rattle.lw_serve.specs.declared.fault.ServeFault.TheVariants.{ReceiveFailed, ClockRefused, Crew, Unsettled, WriteFailed, NoMemory}
use Rattle.lw_serve.specs.declared.plan.Plan.{Plan}

pub receiving_ends : (fault : ServeFault) → EndsReceiving fault → EndsRounds fault
receiving_ends ReceiveFailed ends = tt
receiving_ends ClockRefused ends = tt
receiving_ends (Crew fault) ends = tt
receiving_ends (Unsettled node place) ends = absurd ends
receiving_ends WriteFailed ends = absurd ends
receiving_ends NoMemory ends = tt

pub round_ends : (fault : ServeFault) → EndsRound fault → EndsRounds fault
round_ends ReceiveFailed ends = tt
round_ends ClockRefused ends = tt
round_ends (Crew fault) ends = tt
round_ends (Unsettled node place) ends = absurd ends
round_ends WriteFailed ends = absurd ends
round_ends NoMemory ends = tt

pub rounds_cause : (plan : Plan) (volumes : List VolumeContent) (fault : ServeFault) → EndsRounds fault → HasCause plan volumes fault
rounds_cause plan volumes ReceiveFailed ends = tt
rounds_cause plan volumes ClockRefused ends = tt
rounds_cause plan volumes (Crew fault) ends = tt
rounds_cause plan volumes (Unsettled node place) ends = absurd ends
rounds_cause plan volumes WriteFailed ends = absurd ends
rounds_cause plan volumes NoMemory ends = tt

pub finish_cause : (plan : Plan) (shelves : List Shelf) (volumes : List VolumeContent) (passes : List Transcript) (kept : List Job) (fault : ServeFault) → AreOver plan shelves passes kept → EndsFinish shelves volumes passes kept fault → HasCause plan volumes fault
finish_cause plan shelves volumes passes kept ReceiveFailed over ends = tt
finish_cause plan shelves volumes passes kept ClockRefused over ends = tt
finish_cause plan shelves volumes passes kept (Crew fault) over ends = tt
finish_cause plan shelves volumes passes kept (Unsettled node place) over ends = record { shelves = shelves; passes = passes; kept = kept; over = over; refused = ends }
finish_cause plan shelves volumes passes kept WriteFailed over ends = record { shelves = shelves; passes = passes; kept = kept; over = over; finished = ends }
finish_cause plan shelves volumes passes kept NoMemory over ends = tt

-- the same of a result: what a run leaves at the end is what it was to leave
pub finished : {A : Type 0} (plan : Plan) (shelves : List Shelf) (volumes : List VolumeContent) (passes : List Transcript) (kept : List Job) (result : Result A ServeFault) → AreOver plan shelves passes kept → OnOk result (IsFinished shelves volumes passes kept) → OnOk result (IsServed plan volumes)
finished plan shelves volumes passes kept (Ok a) over done = record { shelves = shelves; passes = passes; kept = kept; over = over; finished = done }
finished plan shelves volumes passes kept (Err fault) over done = tt

pub failed : {A : Type 0} (plan : Plan) (shelves : List Shelf) (volumes : List VolumeContent) (passes : List Transcript) (kept : List Job) (result : Result A ServeFault) → AreOver plan shelves passes kept → IfErr result (EndsFinish shelves volumes passes kept) → IfErr result (HasCause plan volumes)
failed plan shelves volumes passes kept (Ok a) over ends = tt
failed plan shelves volumes passes kept (Err fault) over ends = finish_cause plan shelves volumes passes kept fault over ends

-- ---- results
pub raised : {A : Type 0} (P : ServeFault → Type 0) (result : Result A ServeFault) {fault : ServeFault} → IsErrAnd result (λ y. y ≡ fault) → P fault → IfErr result P
raised P (Ok a) is p = absurd is
raised P (Err y) is p = subst P (sym is) p

pub always : {A : Type 0} {P : Type 0} (result : Result A ServeFault) → P → OnOk result P
always (Ok a) p = p
always (Err fault) p = tt

pub only_write : {A : Type 0} (shelves : List Shelf) (volumes : List VolumeContent) (passes : List Transcript) (kept : List Job) (result : Result A ServeFault) → IsOkUnless result WriteFailed → IsFinished shelves volumes passes kept → IfErr result (EndsFinish shelves volumes passes kept)
only_write shelves volumes passes kept (Ok a) unless done = tt
only_write shelves volumes passes kept (Err fault) unless done = subst (EndsFinish shelves volumes passes kept) (sym unless) done

-- what is so of these volumes is so of some
pub some_served : {A : Type 0} (P : List VolumeContent → Type 0) (volumes : List VolumeContent) (result : Result A ServeFault) → OnOk result (P volumes) → OnOk result ((those : List VolumeContent) × P those)
some_served P volumes (Ok a) is = (volumes, is)
some_served P volumes (Err fault) is = tt

pub some_cause : {A : Type 0} (P : List VolumeContent → ServeFault → Type 0) (volumes : List VolumeContent) (result : Result A ServeFault) → IfErr result (P volumes) → IfErr result (λ fault. (those : List VolumeContent) × P those fault)
some_cause P volumes (Ok a) is = tt
some_cause P volumes (Err fault) is = (volumes, is)

-- ---- the end
module _ (old new : List Shelf) (volumes : List VolumeContent) (before last : List Transcript) (kept jobs : List Job) (dones : List Done) (same : new ≡ old) (are : jobs ≡ kept) (served : Serves old before last jobs dones) where
  pub is_finished : AreSettled new volumes last → IsFinished old volumes before kept
  is_finished settled = record {
    last = last;
    dones = dones;
    served = subst (λ (js : List Job). Serves old before last js dones) are served;
    settled = subst (λ (shelves : List Shelf). AreSettled shelves volumes last) same settled;
  }

  pub is_refused : (told : Told) → IsUnsettled new volumes last told → IsRefused old volumes before kept told
  is_refused told unsettled = record {
    last = last;
    dones = dones;
    served = subst (λ (js : List Job). Serves old before last js dones) are served;
    unsettled = subst (λ (shelves : List Shelf). IsUnsettled shelves volumes last told) same unsettled;
  }
