-- Times of requests that wait, and what a step makes of them.
use Rattle.std.specs.Prelude.{◌≡◌, ℕ, zero, suc, ◌+◌, ◌*◌, ◌%◌, ◌^◌, ◌<◌, ◌≤◌, nat_lt, Bool, true, false, List, Option, Some, None, slice_get, slice_set, refl}
use Rattle.std.proofs.Common.{sym, ap, ◌∙◌, subst, arith}
use Rattle.std.proofs.lemmas.List.{set-get_or}
use Rattle.std.proofs.lemmas.Option.{get_or_from_slice_get}
use Rattle.std.specs.List.{remove}
use Rattle.lw_stamp.specs.declared.moment.Moment.{Moment}
use Rattle.lw_messaging.specs.declared.message_ids.IdCounter.{IdCounter}
use Rattle.lw_stamp.specs.Moment.{ms_of}
use Rattle.lw_reg.specs.declared.addr.Addr.{Addr}
use Rattle.lw_messaging.specs.MessageIds.{allotted, allotted_by, allotted_to, begins, counter_after, counter_of, counters_after, counters_with}
use Rattle.lw_messaging.specs.PendingRequest.{PendingContent, Stepped, StepContent, Postponed, TimedOut, first_step, postponed, stepped, most_sent, with_place, IsSteppedWith}
use Rattle.lw_messaging.specs.inner.PendingRequest.{IsSteppedTo}

doubled : (a s : ℕ) → s < 5 → a < 3000 → a * 2 ^ s < 48000
doubled a zero small fits = omega arith
doubled a (suc zero) small fits = omega arith
doubled a (suc (suc zero)) small fits = omega arith
doubled a (suc (suc (suc zero))) small fits = omega arith
doubled a (suc (suc (suc (suc zero)))) small fits = omega arith
doubled a (suc (suc (suc (suc (suc s))))) small fits = absurd (omega arith)

pub timeout_is_small : (id sent : ℕ) → sent < 5 → (2000 + id % 1000) * 2 ^ sent % 18446744073709551616 < 48000
timeout_is_small id sent small =
    let below : 2000 + id % 1000 < 3000 = omega arith in
    let fits = doubled (2000 + id % 1000) sent small below in
    omega arith

counter_stays_by : (counter : IdCounter) (now : Moment) (some begun : Bool) → nat_lt 0 counter.left ≡ some → begins counter now ≡ begun → allotted counter now ≡ None
    → counter_after counter now ≡ counter
counter_stays_by counter now true begun is starts none = grind arith
counter_stays_by counter now false true is starts none = grind arith
counter_stays_by counter now false false is starts none = grind arith

counters_stay_by : (counters : List IdCounter) (place : ℕ) (now : Moment) (found : Option IdCounter) → slice_get counters place ≡ found → allotted_by found now ≡ None
    → counters_with counters place now found ≡ counters
counters_stay_by counters place now None at none = refl
counters_stay_by counters place now (Some counter) at none =
    ap (slice_set counters place) (counter_stays_by counter now (nat_lt 0 counter.left) (begins counter now) refl refl none ∙ sym (get_or_from_slice_get counters place counter counter at))
    ∙ set-get_or counters place counter

-- where no message ID is free, the counters stay as they are
pub counters_stay : (counters : List IdCounter) (now : Moment) (to : Addr) → allotted_to counters now to ≡ None → counters_after counters now to ≡ counters
counters_stay counters now to none = counters_stay_by counters (counter_of to) now (slice_get counters (counter_of to))
    refl none

-- a request waits for a message ID
pub waits : (now : Moment) (counters after : List IdCounter) (old new : PendingContent) → nat_lt old.sent most_sent ≡ true → old.sent ≡ 0
    → allotted_to counters now old.to ≡ None → after ≡ counters_after counters now old.to
    → new ≡ postponed (ms_of now) old → IsSteppedTo now counters old Postponed new after
waits now counters after old new may first none are is =
    let stay = are ∙ counters_stay counters now old.to none in
    let step : stepped now counters old ≡ first_step now counters old None = grind arith in
    record {
      step_is = sym (ap (λ (s : Stepped). s.step) step);
      request = ap (λ (s : Stepped). s.request) step ∙ ap Some (sym is);
      counters_are = stay ∙ sym (ap (λ (s : Stepped). s.counters) step);
    }

-- a request that was sent often enough is given up
pub given_up : (now : Moment) (counters : List IdCounter) (list new : List PendingContent) (place : ℕ) (w : PendingContent) → slice_get list place ≡ Some w
    → nat_lt w.sent most_sent ≡ false → new ≡ remove list place
    → IsSteppedWith now list counters place (slice_get list place) (Some (TimedOut w.purpose)) new counters
given_up now counters list new place w at ended is =
    let step : stepped now counters w ≡ record { step = TimedOut w.purpose; request = None; counters = counters } = grind arith in
    subst (λ (o : Option PendingContent). IsSteppedWith now list counters place o (Some (TimedOut w.purpose)) new counters) (sym at)
    (sym (ap (λ (s : Stepped). Some s.step) step), (is ∙ sym (ap (λ (s : Stepped). with_place list place s.request) step), sym (ap (λ (s : Stepped). s.counters) step)))

-- another is sent, or waits for a message ID
pub goes_on : (now : Moment) (counters after : List IdCounter) (list new : List PendingContent) (place : ℕ) (w x : PendingContent) (step : StepContent) → slice_get list place ≡ Some w
    → IsSteppedTo now counters w step x after → new ≡ slice_set list place x
    → IsSteppedWith now list counters place (slice_get list place) (Some step) new after
goes_on now counters after list new place w x step at to is =
    subst (λ (o : Option PendingContent). IsSteppedWith now list counters place o (Some step) new after) (sym at)
    (ap Some to.step_is, (is ∙ sym (ap (with_place list place) to.request), to.counters_are))
