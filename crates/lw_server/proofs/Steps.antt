-- Steps with devices.
use Rattle.std.specs.Prelude.{◌≡◌, ◌≢◌, ◌++◌, ℕ, ◌+◌, Bool, true, false, List, [], ◌∷◌, length, take, Option, Some, None, option_map, map}
use Rattle.std.specs.declared.alloc.Global.{Global}
use Rattle.std.specs.declared.vec.Vec.{Vec}
use Rattle.std.proofs.Common.{refl, sym, ap, ◌∙◌, subst, inl, inr, add-one, append-nil}
use Rattle.std.proofs.Math.Seq.{take-append_seam}
use Rattle.std.proofs.lemmas.List.{take-map}
use Rattle.lw_stamp.specs.declared.moment.Moment.{Moment}
use Rattle.lw_stamp.specs.declared.stamp.Stamp.{Stamp}
use Rattle.lw_stamp.specs.Moment.{ms_of}
use Rattle.lw_reg.specs.declared.addr.Addr.{Addr}
use Rattle.lw_reg.specs.declared.path.Path.{Path}
use Rattle.lw_reg.specs.declared.watch.Watch.{Watch}
use Rattle.lw_reg.specs.Marks.{Marks}
use Rattle.lw_reg.specs.Reading.{shown_in}
use Rattle.lw_reg.specs.Registration.{Registration}
use Rattle.lw_table.specs.LookUps.{WatchOfIdAfter}
use Rattle.lw_node.specs.Node.{NodeContent}
use Rattle.std.specs.List.{list_any}
use Rattle.lw_call.specs.declared.call.Call.{Call}
use Rattle.lw_call.specs.declared.call.Call.TheVariants as calls
use Rattle.lw_call.specs.declared.reply.Reply.{Reply}
use Rattle.lw_call.specs.Contents.{NoticeContent, TakenContent}
use Rattle.lw_metrics.specs.Counting.{counted}
use Rattle.lw_replica.specs.Replica.{ReplicaContent}
use Rattle.lw_replica.specs.Rounds.{IsRound}
use Rattle.lw_messaging.specs.declared.message_ids.IdCounter.{IdCounter}
use Rattle.lw_messaging.specs.declared.outgoing_requests.Step.{Step}
use Rattle.lw_messaging.specs.PendingRequest.{step_content, IsStepped}
use Rattle.lw_server.specs.declared.devices.Progress.{Progress}
use Rattle.lw_server.specs.declared.devices.Task.{Task}
use Rattle.lw_server.specs.Devices.{with_task, Check, DevicesContent, TaskContent}
use Rattle.lw_server.specs.Server.{ServerContent}
use Rattle.lw_server.specs.Stepping.{cancels_of, counts_behind, is_refused, left_by, over, Closes, IsGiven, IsLeft, IsProgress, IsReport}
use Rattle.lw_server.specs.Stepping.{IsNoneOn, IsTokenOn, LookedAt, StepsRequests}
use Rattle.lw_server.specs.Notifications.{is_newer_notice, with_capacity, IsPutIf, IsPublishedIf, NotificationsContent}
use Rattle.lw_server.specs.inner.Devices.{task_of, with_first}
use Rattle.lw_server.specs.inner.Stepping.{LeavesCheck}

-- the step that was made, with what was counted and what is left to do by it
pub steps_by : (now : Moment) (old mid new : DevicesContent) (counters after : List IdCounter) (it : Progress)
    (made : Option Step) (some step : Step) → mid ≡ old → made ≡ Some some → some ≡ step
    → IsStepped now mid.requests counters (option_map step_content made) new.requests after
    → IsProgress (Some (step_content step)) it → new.counts ≡ counts_behind mid.counts (Some (step_content step))
    → new.tasks ≡ mid.tasks ++ left_by (Some (step_content step)) → new.fetches ≡ mid.fetches
    → StepsRequests now old counters it new after
steps_by now old mid new counters after it made some step same is one stepped it_is counts tasks fetches =
    subst (λ (devices : DevicesContent). StepsRequests now devices counters it new after) same
    (record {
      step = Some (step_content step);
      stepped = subst
          (λ (s : Option Step). IsStepped now mid.requests counters (option_map step_content s) new.requests after)
          (is ∙ ap Some one) stepped;
      progress_is = it_is;
      counts = counts;
      tasks = tasks;
      fetches = fetches;
    })

-- where room was made for more, the tasks are those before, and none more
pub no_more : (old new : List Task) → new ≡ old → map task_of new ≡ map task_of old ++ []
no_more old new same = ap (map task_of) same ∙ sym (append-nil (map task_of old))

pub some_more : (old mid : List Task) (new more : List TaskContent) → mid ≡ old → new ≡ map task_of mid ++ more
    → new ≡ map task_of old ++ more
some_more old mid new more same is = is ∙ ap (λ (ts : List Task). map task_of ts ++ more) same

-- only the first of what is left to do is left
pub keeps_first : (count : ℕ) (old mid new : DevicesContent) (items left : List Task) → mid ≡ old
    → mid.tasks ≡ map task_of items → left ≡ take count items → new ≡ record mid { tasks = map task_of left }
    → new ≡ with_first count old
keeps_first count old mid new items left same are first is =
    is ∙ ap (λ (tasks : List TaskContent). record mid { tasks = tasks })
    (ap (map task_of) first ∙ sym (take-map task_of count items) ∙ ap (take count) (sym are))
    ∙ ap (with_first count) same

-- ---- notices
put_keeps_capacity : (is_newer : Bool) (now : Moment) (notice : NoticeContent) (is_complete : Bool)
    (old new : NotificationsContent) → IsPutIf is_newer now notice is_complete old new
    → new.buffer.capacity ≡ old.buffer.capacity
put_keeps_capacity true now notice is_complete old new put = ap (λ buffer. buffer.capacity) put.buffer
put_keeps_capacity false now notice is_complete old new put = ap (λ told. told.buffer.capacity) put

-- a notice that is told takes no memory
told_keeps_capacity : (now : Moment) (notice : Option NoticeContent) (is_complete : Bool)
    (old new : NotificationsContent)
    → IsPublishedIf now notice is_complete old new → new.buffer.capacity ≡ old.buffer.capacity
told_keeps_capacity now None is_complete old new told = ap (λ it. it.buffer.capacity) told
told_keeps_capacity now (Some notice) is_complete old new told =
    put_keeps_capacity (is_newer_notice old.freshness now notice) now notice is_complete old new told

-- where memory was made for it before
pub told_in_room : (now : Moment) (notice : Option NoticeContent) (is_complete : Bool)
    (old mid new : NotificationsContent)
    → mid ≡ with_capacity old mid.buffer.capacity → IsPublishedIf now notice is_complete mid new
    → IsPublishedIf now notice is_complete (with_capacity old new.buffer.capacity) new
told_in_room now notice is_complete old mid new room told =
    subst (λ (it : NotificationsContent). IsPublishedIf now notice is_complete it new)
    (room ∙ ap (with_capacity old) (sym (told_keeps_capacity now notice is_complete mid new told))) told

-- ---- rounds
-- the round with a report, and what was told of it
pub is_report : (from : Addr) (bytes : List ℕ) (is_complete : Bool) (old mid new : ServerContent) (reply : Reply)
    (given shown : TakenContent) (reserved : NotificationsContent) (answer : Option (Vec ℕ Global)) → mid ≡ old
    → IsRound mid.replica (calls.Take mid.latest from bytes ∷ []) (reply ∷ []) new.replica
    → new.tally ≡ counted mid.tally (calls.Take mid.latest from bytes ∷ []) (reply ∷ [])
    → IsGiven reply given → shown ≡ given → reserved ≡ with_capacity mid.notifications reserved.buffer.capacity
    → IsPublishedIf mid.steady shown.notice is_complete reserved new.notifications
    → option_map (λ bytes. bytes.items) answer ≡ shown.reply
    → new ≡ record mid { replica = new.replica; tally = new.tally; notifications = new.notifications }
    → IsReport from bytes is_complete old answer new
is_report from bytes is_complete old mid new reply given shown reserved answer
    same round counts gives is room told replied others =
    subst (λ (server : ServerContent). IsReport from bytes is_complete server answer new) same
    (record {
      reply = reply;
      given = shown;
      call = record { round = round; counts = counts };
      is_given = subst (λ (taken : TakenContent). IsGiven reply taken) (sym is) gives;
      told = told_in_room mid.steady shown.notice is_complete mid.notifications reserved new.notifications room told;
      answer_is = replied;
      same = others;
    })

-- ---- a report while it is left to look at its observation, which is left no more behind it
pub report_behind : (from : Addr) (bytes : List ℕ) (is_complete : Bool) (task : TaskContent)
    (old mid after new : ServerContent) (count : ℕ) → mid ≡ record old { devices = with_task task old.devices }
    → count ≡ length old.devices.tasks → new ≡ record after { devices = with_first count after.devices }
    → (answer : Option (Vec ℕ Global)) → IsReport from bytes is_complete mid answer after
    → IsReport from bytes is_complete old answer new
report_behind from bytes is_complete task old mid after new count same counted is answer report =
    let it = subst (λ (server : ServerContent). IsReport from bytes is_complete server answer after) same report in
    let replica : new.replica ≡ after.replica = ap (λ (server : ServerContent). server.replica) is in
    let told : new.notifications ≡ after.notifications = ap (λ (server : ServerContent). server.notifications) is in
    let devices : with_first count after.devices ≡ old.devices =
    ap (λ (server : ServerContent). with_first count server.devices) it.same
    ∙ ap (λ (tasks : List TaskContent). record (old.devices) { tasks = tasks })
    (ap (λ (n : ℕ). take n (old.devices.tasks ++ task ∷ [])) counted ∙ take-append_seam old.devices.tasks (task ∷ [])) in
    record {
      reply = it.reply;
      given = it.given;
      call = record {
        round = subst (λ (m : ReplicaContent).
            IsRound old.replica (calls.Take old.latest from bytes ∷ []) (it.reply ∷ []) m) (sym replica) it.call.round;
        counts = ap (λ (server : ServerContent). server.tally) is ∙ it.call.counts;
      };
      is_given = it.is_given;
      told = subst (λ (t : NotificationsContent).
          IsPublishedIf old.steady it.given.notice is_complete (with_capacity old.notifications t.buffer.capacity) t) (sym told) it.told;
      answer_is = it.answer_is;
      same = is ∙ ap (λ (server : ServerContent). record server { devices = with_first count after.devices }) it.same
          ∙ ap (λ (ds : DevicesContent). record old { replica = after.replica; tally = after.tally; notifications = after.notifications; devices = ds }) devices
          ∙ (λ k. record old {
            replica = sym replica k;
            tally = ap (λ (server : ServerContent). server.tally) (sym is) k;
            notifications = sym told k;
          });
    }

-- the same, of a server
pub left_behind : (old view mid : ServerContent) (task : TaskContent) (devices : DevicesContent) → view ≡ old
    → devices ≡ with_task task view.devices → mid ≡ record view { devices = devices }
    → mid ≡ record old { devices = with_task task old.devices }
left_behind old view mid task devices same left is =
    is ∙ ap (λ (ds : DevicesContent). record view { devices = ds }) left
    ∙ ap (λ (server : ServerContent). record server { devices = with_task task server.devices }) same

pub kept_first : (after view new : ServerContent) (count : ℕ) → view ≡ after → new.devices ≡ with_first count view.devices
    → new ≡ record view { devices = new.devices } → new ≡ record after { devices = with_first count after.devices }
kept_first after view new count same first is =
    is ∙ ap (λ (ds : DevicesContent). record view { devices = ds }) first
    ∙ ap (λ (server : ServerContent). record server { devices = with_first count server.devices }) same

-- ---- the observations that are to end, in one round
pub closes_by : (old mid new : ServerContent) (made asked counted_calls : List Call)
    (replies counted_replies looked : List Reply) → mid ≡ old → made ≡ cancels_of mid.latest mid.devices.tasks → asked ≡ made
    → IsRound mid.replica asked replies new.replica → counted_calls ≡ made → counted_replies ≡ replies
    → new.tally ≡ counted mid.tally counted_calls counted_replies → looked ≡ replies
    → list_any is_refused looked ≡ false → new.devices ≡ record (mid.devices) { tasks = map over mid.devices.tasks }
    → new ≡ record mid { replica = new.replica; tally = new.tally; devices = new.devices } → Closes old new
closes_by old mid new made asked counted_calls replies counted_replies looked
    same are these round also those counts seen none devices rest =
    subst (λ (server : ServerContent). Closes server new) same
    (record {
      replies = replies;
      round = subst (λ (cs : List Call). IsRound mid.replica cs replies new.replica) (these ∙ are) round;
      counts = counts ∙ (λ k. counted mid.tally ((also ∙ are) k) (those k));
      had_memory = ap (list_any is_refused) (sym seen) ∙ none;
      same = rest ∙ ap (λ (ds : DevicesContent). record mid { replica = new.replica; tally = new.tally; devices = ds }) devices;
    })

pub leaves_check : (notice : NoticeContent) (old mid new : ServerContent)
    → mid ≡ record old { devices = with_task (Check notice) old.devices } → IsLeft mid new → LeavesCheck notice old new
leaves_check notice old mid new same left =
    subst (λ (server : ServerContent). new ≡ record server {
      replica = new.replica;
      tally = new.tally;
      notifications = with_capacity server.notifications new.notifications.buffer.capacity;
    }) same left

-- ---- what is observed
pub looked_at_none : (M : Marks) (now : ℕ) (id : Stamp) (path : Path) → LookedAt M now id path None 0
looked_at_none M now id path = record { watches = []; are = tt; elsewhere = tt; last = refl; count_is = refl }

-- the next one that is looked at is elsewhere too
pub looked_at_next : (M : Marks) (now : ℕ) (id : Stamp) (path : Path) (after asked : Option Path) (count : ℕ)
    (x : Registration × Watch) → LookedAt M now id path after count → asked ≡ after
    → WatchOfIdAfter M now id asked (Some x) → x.1.path ≢ path → LookedAt M now id path (Some x.1.path) (count + 1)
looked_at_next M now id path after asked count x looked is found other = record {
  watches = x ∷ looked.watches;
  are = (subst (λ (a : Option Path). WatchOfIdAfter M now id a (Some x)) (is ∙ looked.last) found, looked.are);
  elsewhere = (other, looked.elsewhere);
  last = refl;
  count_is = sym (add-one (length looked.watches)) ∙ ap (λ (n : ℕ). n + 1) looked.count_is;
}

pub none_behind : (M : Marks) (now : ℕ) (id : Stamp) (path : Path) (after asked : Option Path) (count : ℕ)
    → LookedAt M now id path after count → asked ≡ after → WatchOfIdAfter M now id asked None → IsNoneOn M now id path
none_behind M now id path after asked count looked is none = record {
  after = after;
  count = count;
  looked = looked;
  over = inl (subst (λ (a : Option Path). WatchOfIdAfter M now id a None) is none);
}

pub none_of_many : (M : Marks) (now : ℕ) (id : Stamp) (path : Path) (after : Option Path) (count : ℕ)
    → LookedAt M now id path after count → count ≡ 65536 → IsNoneOn M now id path
none_of_many M now id path after count looked many = record {
  after = after;
  count = count;
  looked = looked;
  over = inr many;
}

-- by the node of the server, at the moment of its last turn
pub token_in : (old mid : ServerContent) (node : NodeContent) (id : Stamp) (path : Path) (token : Option Stamp)
    → mid ≡ old
    → node ≡ mid.replica.node → IsTokenOn (shown_in node.table.state) (ms_of mid.latest) id path token
    → IsTokenOn (shown_in old.replica.node.table.state) (ms_of old.latest) id path token
token_in old mid node id path token same is on =
    subst (λ (it : ServerContent). IsTokenOn (shown_in it.replica.node.table.state) (ms_of it.latest) id path token)
    same
    (subst (λ (it : NodeContent). IsTokenOn (shown_in it.table.state) (ms_of mid.latest) id path token) is on)
