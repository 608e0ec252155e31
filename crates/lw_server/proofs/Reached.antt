-- What the message layer and commands come to, from what their parts are.
use Rattle.std.specs.Prelude.{◌≡◌, ℕ, ◌<◌, ◌≤◌, Bool, true, false, List, [], ◌∷◌, ◌++◌, ◌⊎◌, length, take, Option, None, Some}
use Rattle.std.specs.Prelude.{Result, Ok, Err, IfOk, IfSome, OnErr, refl}
use Rattle.std.proofs.Common.{ap, ◌∙◌, subst, sym, inl, inr}
use Rattle.std.proofs.Math.Seq.{take-append_seam}
use Rattle.std.proofs.lemmas.Bool.{le-leb, lt-leb}
use Rattle.std.specs.Result.{result_ok}
use Rattle.lw_stamp.specs.declared.moment.Moment.{Moment}
use Rattle.lw_stamp.specs.declared.stamp.Stamp.{Stamp}
use Rattle.lw_stamp.specs.Moment.{ms_of}
use Rattle.lw_reg.specs.declared.addr.Addr.{Addr}
use Rattle.lw_reg.specs.declared.path.Path.{Path}
use Rattle.lw_reg.specs.declared.watch.Watch.{Watch}
use Rattle.lw_reg.specs.Reading.{shown_in}
use Rattle.lw_reg.specs.Registration.{Registration}
use Rattle.lw_reg.specs.Showing.{ShownOf}
use Rattle.lw_node.specs.Node.{NodeContent}
use Rattle.lw_call.specs.declared.call.Call.{Call}
use Rattle.lw_call.specs.declared.call.Call.TheVariants.{Observe}
use Rattle.lw_replica.specs.Replica.{ReplicaContent}
use Rattle.lw_replica.specs.Own.{WritesOwn}
use Rattle.lw_replica.specs.Rounds.{IsRound}
use Rattle.lw_route.specs.declared.command.Command.{Command}
use Rattle.lw_route.specs.declared.command.Command.TheVariants as commands
use Rattle.lw_server.specs.declared.clocks.Times.{Times}
use Rattle.lw_server.specs.declared.commands.Done.{Done}
use Rattle.lw_server.specs.declared.commands.Done.TheVariants.{Unavailable, TooMany}
use Rattle.lw_server.specs.declared.fault.TurnFault.{TurnFault}
use Rattle.lw_server.specs.declared.hearing.Passage.{Passage}
use Rattle.lw_server.specs.Clocks.{later, Tells}
use Rattle.lw_server.specs.Commands.{is_full, waiting_after, Executes, FailsTo, IsObserved, IsObservedOf, IsOrdered}
use Rattle.lw_server.specs.Commands.{IsOrderedWhere, IsRequested, LeavesUndo, MayHaveObserved, Requests}
use Rattle.lw_server.specs.Api.{serves}
use Rattle.lw_server.specs.Devices.{with_task, DevicesContent, TaskContent, Undo}
use Rattle.lw_server.specs.Hearing.{IsHeardFrom, IsPassed, IsWatchIn}
use Rattle.lw_server.specs.Server.{ReadsClock, ServerContent}
use Rattle.lw_server.specs.Stepping.{IsTokenOn}
use Rattle.lw_server.specs.inner.Devices.{with_first}
use Rattle.lw_server.proofs.Turns.{writes_none}

-- what holds of a result that is no error, so does what follows from it
pub if_ok : {T E : Type 0} {P Q : T → Type 0} (r : Result T E) → ((x : T) → P x → Q x) → IfOk r P → IfOk r Q
if_ok (Ok x) follows is = follows x is
if_ok (Err e) follows is = tt

-- ---- the clocks
pub reads_clock : (old mid new : ServerContent) (told : Option Times) (times : Times) → mid ≡ old → told ≡ Some times
    → Tells mid.clock new.clock told
    → new ≡ record mid { clock = new.clock; latest = times.moment; steady = new.steady }
    → new.steady ≡ later mid.steady times.steady → (x : Times) × ReadsClock (Some x) old new
reads_clock old mid new told times same some tells is steady = (
  times,
  subst (λ (server : ServerContent). ReadsClock (Some times) server new) same
      (record {
        tells = subst (λ (it : Option Times). Tells mid.clock new.clock it) some tells;
        same = is ∙ ap (λ (m : Moment). record mid { clock = new.clock; latest = times.moment; steady = m }) steady;
      }),
)

pub is_heard_from : (from : Addr) (bytes : List ℕ) (old mid new : ServerContent) (watch : Option Watch)
    → mid ≡ old → IsWatchIn old bytes watch → new ≡ record mid { devices = new.devices } → (passage : Passage)
    → IsPassed mid.steady from watch bytes mid.devices passage new.devices → IsHeardFrom from bytes old passage new
is_heard_from from bytes old mid new watch same found rest passage passed = record {
  watch = watch;
  found = found;
  passed = subst (λ (server : ServerContent). IsPassed server.steady from watch bytes server.devices passage new.devices) same passed;
  rest = rest ∙ ap (λ (server : ServerContent). record server { devices = new.devices }) same;
}

pub is_requested : (call : Call) (old mid new : ServerContent) → mid ≡ old
    → new ≡ record mid { replica = new.replica; tally = new.tally; devices = new.devices } → (done : Done)
    → Requests call mid.steady mid.replica mid.tally mid.devices done new.replica new.tally new.devices
    → IsRequested call old done new
is_requested call old mid new same rest done requests =
    subst (λ (server : ServerContent). IsRequested call server done new) same (record { requests = requests; rest = rest })

-- ---- a round while one more thing is left to do, which is left no more behind it
first_again : (old : DevicesContent) (task : TaskContent) (count : ℕ) → count ≡ length old.tasks
    → take count (old.tasks ++ task ∷ []) ≡ old.tasks
first_again old task count counted =
    ap (λ (n : ℕ). take n (old.tasks ++ task ∷ [])) counted ∙ take-append_seam old.tasks (task ∷ [])

pub requested_behind : (call : Call) (task : TaskContent) (old mid after new : ServerContent) (count : ℕ)
    → mid ≡ record old { devices = with_task task old.devices } → count ≡ length old.devices.tasks
    → new ≡ record after { devices = with_first count after.devices } → (done : Done) → IsRequested call mid done after
    → IsRequested call old done new
requested_behind call task old mid after new count same counted is done requested =
    let it = subst (λ (server : ServerContent). IsRequested call server done after) same requested in
    let waits = waiting_after old.devices.requests old.steady it.requests.reply in
    let devices : new.devices ≡ record (old.devices) { requests = waits } =
    ap (λ (server : ServerContent). server.devices) is ∙ ap (with_first count) it.requests.waiting
    ∙ ap (λ (tasks : List TaskContent). record (old.devices) { requests = waits; tasks = tasks }) (first_again old.devices task count counted) in
    record {
      requests = record {
        reply = it.requests.reply;
        round = subst (λ (replica : ReplicaContent). IsRound old.replica (call ∷ []) (it.requests.reply ∷ []) replica)
            (sym (ap (λ (server : ServerContent). server.replica) is)) it.requests.round;
        counts_are = ap (λ (server : ServerContent). server.tally) is ∙ it.requests.counts_are;
        done_is = it.requests.done_is;
        waiting = devices;
      };
      rest = is ∙ ap (λ (server : ServerContent). record server { devices = with_first count after.devices }) it.rest
          ∙ (λ k. record old {
            replica = ap (λ (server : ServerContent). server.replica) (sym is) k;
            tally = ap (λ (server : ServerContent). server.tally) (sym is) k;
            devices = ap (λ (server : ServerContent). server.devices) (sym is) k;
          });
    }

pub leaves_undo : (id : Stamp) (path : Path) (before : Option Stamp) (old mid new : ServerContent)
    → mid ≡ record old { devices = with_task (Undo id path before) old.devices }
    → new ≡ record mid { replica = new.replica } → LeavesUndo id path before old new
leaves_undo id path before old mid new same rest =
    rest ∙ ap (λ (server : ServerContent). record server { replica = new.replica }) same

-- ---- a path that is to be observed
is_true : (b : Bool) → (b ≡ false → true ≡ false) → b ≡ true
is_true true never = refl
is_true false never = sym (never refl)

pub unserved : (endpoint : List ℕ) (path : Path) (accept : Option ℕ) (old : ServerContent) → serves old ≡ false
    → IsObserved (serves old) endpoint path accept old Unavailable old
unserved endpoint path accept old log_unavailable =
    subst (λ (b : Bool). IsObserved b endpoint path accept old Unavailable old) (sym log_unavailable) (refl, refl)

found_at : (endpoint text : List ℕ) (old : ServerContent) (node : NodeContent) (now : Moment) (shown : Option Registration)
    → now ≡ old.latest → node ≡ old.replica.node → text ≡ endpoint → ShownOf (shown_in node.table.state) (ms_of now) text shown
    → ShownOf (shown_in old.replica.node.table.state) (ms_of old.latest) endpoint shown
found_at endpoint text old node now shown moment same named found =
    subst (λ (m : Moment). ShownOf (shown_in old.replica.node.table.state) (ms_of m) endpoint shown) moment
    (subst (λ (n : NodeContent). ShownOf (shown_in n.table.state) (ms_of now) endpoint shown) same
    (subst (λ (e : List ℕ). ShownOf (shown_in node.table.state) (ms_of now) e shown) named found))

pub observed_where : (endpoint text : List ℕ) (path : Path) (accept : Option ℕ) (old new : ServerContent) (node : NodeContent)
    (now : Moment) (shown : Option Registration) → (serves old ≡ false → true ≡ false) → now ≡ old.latest
    → node ≡ old.replica.node → text ≡ endpoint → ShownOf (shown_in node.table.state) (ms_of now) text shown → (done : Done) → IsObservedOf shown path accept old done new
    → IsObserved (serves old) endpoint path accept old done new
observed_where endpoint text path accept old new node now shown here moment same named found done observed =
    subst (λ (b : Bool). IsObserved b endpoint path accept old done new) (sym (is_true (serves old) here))
    (record { shown = shown; found = found_at endpoint text old node now shown moment same named found; observed = observed })

pub observed_shown : (endpoint text : List ℕ) (path : Path) (accept : Option ℕ) (old new : ServerContent) (node : NodeContent)
    (now : Moment) (shown : Registration) (id : Stamp) → (serves old ≡ false → true ≡ false) → now ≡ old.latest
    → node ≡ old.replica.node → text ≡ endpoint → ShownOf (shown_in node.table.state) (ms_of now) text (Some shown)
    → id ≡ shown.id → (done : Done)
    → IsRequested (Observe old.latest id path accept 0) old done new → IsObserved (serves old) endpoint path accept old done new
observed_shown endpoint text path accept old new node now shown id here moment same named found its done requested =
    observed_where endpoint text path accept old new node now (Some shown) here moment same named found done
    (subst (λ (i : Stamp). IsRequested (Observe old.latest i path accept 0) old done new) its requested)

-- a round that failed may have left an observation
pub may_have_observed : (endpoint text : List ℕ) (path : Path) (old new : ServerContent) (node : NodeContent) (now : Moment)
    (shown : Registration) (id : Stamp) (before : Option Stamp) → now ≡ old.latest → node ≡ old.replica.node → text ≡ endpoint
    → ShownOf (shown_in node.table.state) (ms_of now) text (Some shown) → id ≡ shown.id
    → IsTokenOn (shown_in node.table.state) (ms_of now) id path before
    → (new ≡ old) ⊎ LeavesUndo id path before old new → (new ≡ old) ⊎ MayHaveObserved endpoint path old new
may_have_observed endpoint text path old new node now shown id before moment same named found its on (inl as_it_was) = inl as_it_was
may_have_observed endpoint text path old new node now shown id before moment same named found its on (inr left) =
    inr (record {
      shown = shown;
      found = found_at endpoint text old node now (Some shown) moment same named found;
      before = before;
      on = subst (λ (m : Moment). IsTokenOn (shown_in old.replica.node.table.state) (ms_of m) shown.id path before) moment
          (subst (λ (n : NodeContent). IsTokenOn (shown_in n.table.state) (ms_of now) shown.id path before) same
          (subst (λ (i : Stamp). IsTokenOn (shown_in node.table.state) (ms_of now) i path before) its on));
      left = subst (λ (i : Stamp). LeavesUndo i path before old new) its left;
    })

-- what holds of a result that is an error, so does what follows from it
pub if_err : {T E P Q : Type 0} (r : Result T E) → (P → Q) → OnErr r P → OnErr r Q
if_err (Ok x) follows is = tt
if_err (Err e) follows is = follows is

-- ---- a command
pub too_many : (command : Command) (old mid : ServerContent) (count : ℕ) → mid ≡ old → count ≡ length mid.devices.requests
    → 1024 ≤ count → IsOrderedWhere (is_full old) command old TooMany mid
too_many command old mid count same counted full =
    subst (λ (server : ServerContent). IsOrderedWhere (is_full server) command server TooMany mid) same
    (subst (λ (b : Bool). IsOrderedWhere b command mid TooMany mid)
    (sym (le-leb 1024 (length mid.devices.requests) (subst (λ (n : ℕ). 1024 ≤ n) counted full))) (refl, refl))

pub ordered : (command : Command) (old mid new : ServerContent) (count : ℕ) → mid ≡ old → count ≡ length mid.devices.requests
    → count < 1024 → (done : Done) → IsOrdered command mid done new → IsOrderedWhere (is_full old) command old done new
ordered command old mid new count same counted fewer done is =
    subst (λ (server : ServerContent). IsOrderedWhere (is_full server) command server done new) same
    (subst (λ (b : Bool). IsOrderedWhere b command mid done new)
    (sym (lt-leb 1024 (length mid.devices.requests) (subst (λ (n : ℕ). n < 1024) counted fewer))) is)

pub executes : (command : Command) (old mid new : ServerContent) (times : Times) (result : Result Done TurnFault)
    → ReadsClock (Some times) old mid → IfOk result (λ done. IsOrderedWhere (is_full mid) command mid done new)
    → WritesOwn mid.replica new.replica → OnErr result (FailsTo command mid new) → Executes command old result new
executes command old mid new times (Ok done) reads is own fails = (times, (mid, (reads, is)))
executes command old mid new times (Err fault) reads is own fails =
    record { told = Some times; mid = mid; read = reads; own = own; fails = fails }

fails_nowhere : (command : Command) (server : ServerContent) → FailsTo command server server
fails_nowhere (commands.Observe endpoint path accept) server = inl refl
fails_nowhere (commands.Cancel token) server = refl

pub refuses : (command : Command) (old new : ServerContent) (fault : TurnFault) → ReadsClock None old new
    → Executes command old (Err fault) new
refuses command old new fault reads = record {
  told = None;
  mid = new;
  read = reads;
  own = writes_none new.replica;
  fails = fails_nowhere command new;
}

-- ---- what is told of a result that is no error
some_where_ok : {T E : Type 0} (P : T → Type 0) (r : Result T E) → IfOk r P → IfSome (result_ok r) P
some_where_ok P (Ok x) holds = holds
some_where_ok P (Err e) holds = tt

pub told_where_ok : {T E : Type 0} (P : T → Type 0) (r : Result T E) (told : Option T) → told ≡ result_ok r → IfOk r P → IfSome told P
told_where_ok P r told is holds = subst (λ o. IfSome o P) (sym is) (some_where_ok P r holds)
