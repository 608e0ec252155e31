-- Turns without datagrams, turns in which the replica was not asked, and what a turn comes to.
use Rattle.std.specs.Prelude.{◌≡◌, ◌+◌, ◌-◌, ◌*◌, ◌^◌, min, ◌++◌, ◌&&◌, not, ℕ, Bool, List, [], ◌∷◌, length, map, filter_map, Option, None, Some, refl}
use Rattle.std.specs.List.{list_any}
use Rattle.std.proofs.Common.{inr, sym, ap, ◌∙◌, subst, arith}
use Rattle.std.proofs.lemmas.List.{append-nil}
use Rattle.lw_stamp.specs.declared.moment.Moment.{Moment}
use Rattle.lw_stamp.specs.Moment.{ms_of}
use Rattle.lw_reg.specs.declared.addr.Addr.{Addr}
use Rattle.lw_reg.proofs.States.{state_laws}
use Rattle.lw_udp.specs.declared.datagram.Datagram.{Datagram}
use Rattle.lw_call.specs.declared.call.Call.{Call}
use Rattle.lw_call.specs.declared.reply.Reply.{Reply}
use Rattle.lw_messaging.specs.declared.exchange.Exchange.{Exchange}
use Rattle.lw_messaging.specs.declared.message_ids.IdCounter.{IdCounter}
use Rattle.lw_messaging.specs.Kept.{BodyContent}
use Rattle.lw_log.specs.Calls.{LogCall, Calls}
use Rattle.lw_replica.specs.Replica.{ReplicaContent}
use Rattle.lw_replica.specs.Own.{WritesOwn}
use Rattle.lw_replica.specs.Rounds.{IsRound}
use Rattle.lw_metrics.specs.declared.tally.Tally.{Tally}
use Rattle.lw_metrics.specs.Counting.{counted}
use Rattle.lw_server.specs.declared.blocks.Handled.{Handled}
use Rattle.lw_server.specs.declared.blocks.Origin.{Origin}
use Rattle.lw_server.specs.declared.blocks.Sorted.{Sorted}
use Rattle.lw_server.specs.Blocks.{Arrival, answered_of, datagram_of, origin_of, lacks_block, with_blocks, AreHandled, AreTaken, GoOn}
use Rattle.lw_server.specs.Exchanges.{fresh_of, sent_again, exchanges_of, with_duplicates, with_unkept, Keeps}
use Rattle.lw_server.specs.Numbering.{counts_without_message_id, AreNumbered}
use Rattle.lw_server.specs.Server.{ServerContent, IsAtOnce, KeepsStill, Stays}
use Rattle.lw_server.specs.Turns.{sends_of, IsTurn, GoesOn}
use Rattle.lw_server.specs.inner.Rounds.{all_calls, ExecutesRound}
use Rattle.lw_server.specs.inner.Sorting.{AreSorted}

pub calls_none : (asked : Option (List LogCall)) → Calls asked asked []
calls_none None = refl
calls_none (Some calls) = ap Some (sym (append-nil calls))

-- a replica that was not asked has put nothing into its log
pub writes_none : (replica : ReplicaContent) → WritesOwn replica replica
writes_none replica = record {
  more = [];
  asked = calls_none replica.calls;
  own = tt;
  stays = record {
    start = record { number = refl; tag = refl; floor = refl; alone = refl };
    claimed = λ h. h;
    settled = λ h. h;
    fleet = λ f h is. is;
    knows = (omega arith, state_laws.reflexive replica.node.table.state);
  };
  read_on = inr refl;
}

pub writes_same : (old new : ReplicaContent) → new ≡ old → WritesOwn old new
writes_same old new same = subst (λ (replica : ReplicaContent). WritesOwn old replica) (sym same) (writes_none old)

-- what is sent stands behind what is sent again
pub all_sent : (all reserved begun again behind : List (Addr × List ℕ)) → all ≡ reserved ++ behind → reserved ≡ begun ++ again → begun ≡ []
    → all ≡ again ++ behind
all_sent all reserved begun again behind is more none =
    is ∙ ap (λ (s : List (Addr × List ℕ)). s ++ behind) (more ∙ ap (λ (s : List (Addr × List ℕ)). s ++ again) none)

-- as many are counted as there are more datagrams than fresh ones
pub more_duplicates : (old new again count left : ℕ) (batch fresh : List Datagram) → new ≡ min (old + again) (2 ^ 64 - 1) → again ≡ count - left
    → count ≡ length batch → left ≡ length fresh → new ≡ with_duplicates old batch fresh
more_duplicates old new again count left batch fresh is less all some =
    is ∙ ap (λ (n : ℕ). min (old + n) (2 ^ 64 - 1)) (less ∙ (λ k. all k - some k))

pub stays_from : (old mid new : ServerContent) → mid ≡ old → IsAtOnce mid new → new.skew ≡ mid.skew → new.started ≡ mid.started → new.passed_over ≡ mid.passed_over
    → new.page ≡ mid.page → new.io_counters ≡ mid.io_counters → new.log_unavailable ≡ mid.log_unavailable → new.notifications ≡ mid.notifications → new.devices ≡ mid.devices → new.fault ≡ mid.fault → Stays old new
stays_from old mid new same at_once skew started passed_over page io_counters log_unavailable notifications devices
    fault =
    subst (λ (server : ServerContent). Stays server new) same
    (record { at_once = at_once; skew = skew; started = started; passed_over = passed_over; page = page; io_counters = io_counters; log_unavailable = log_unavailable; notifications = notifications; devices = devices; fault = fault })

-- a server whose replica is still as it was has put nothing into its log
pub writes_none_from : (old mid : ServerContent) → mid ≡ old → WritesOwn old.replica mid.replica
writes_none_from old mid same = subst (λ (server : ServerContent). WritesOwn server.replica mid.replica) same (writes_none mid.replica)

-- bodies that did not change went on by no datagram
pub goes_nowhere : (now : Moment) (bodies : List BodyContent) (datagrams : List Datagram) → GoOn now bodies datagrams bodies
goes_nowhere now bodies datagrams = record { front = []; rest = datagrams; are = refl; taken = refl }

-- or they went on by all
pub goes_all : (now steady : Moment) (old new : List BodyContent) (datagrams : List Datagram) (sorted : Sorted)
    → AreSorted now steady old datagrams sorted new → GoOn steady old datagrams new
goes_all now steady old new datagrams sorted are = record {
  front = are.arrivals;
  rest = [];
  are = sym are.are ∙ sym (append-nil (map datagram_of are.arrivals));
  taken = are.taken;
}

none_in_front : (arrivals : List Arrival) (rest : List Datagram) → [] ≡ map datagram_of arrivals ++ rest → arrivals ≡ []
none_in_front [] rest is = refl
none_in_front (a ∷ arrivals) rest is = absurd (cc)

pub stays_without : (now : Moment) (old new : List BodyContent) (datagrams : List Datagram) → datagrams ≡ [] → GoOn now old datagrams new → new ≡ old
stays_without now old new datagrams none goes =
    subst (λ (arrivals : List Arrival). AreTaken now old arrivals new) (none_in_front goes.front goes.rest (sym none ∙ goes.are)) goes.taken

-- a round with the calls, and the Sweeps behind them
pub executes_round : (before : Moment) (old new : ReplicaContent) (tally counts : Tally) (sorted : Sorted) (calls asked : List Call) (replies : List Reply) (start handled more : List Handled)
    → calls ≡ all_calls before old.claimed sorted.calls.items → asked ≡ calls → IsRound old asked replies new
    → counts ≡ counted tally asked replies → start ≡ sorted.handled.items → handled ≡ start ++ more
    → AreHandled sorted.origins.items replies more → ExecutesRound before old tally sorted handled new counts
executes_round before old new tally counts sorted calls asked replies start handled more are same round counted_are begun all answers =
    let is = same ∙ are in
    record {
      replies = replies;
      more = more;
      round = subst (λ (cs : List Call). IsRound old cs replies new) is round;
      counted_are = counted_are ∙ ap (λ (cs : List Call). counted tally cs replies) is;
      handled_are = all ∙ ap (λ (hs : List Handled). hs ++ more) begun;
      answers = answers;
    }

-- the bodies of a server go on from those that it had at first
pub goes_on_by : (old mid : ServerContent) (batch fresh : List Datagram) (bodies : List BodyContent) → mid ≡ old
    → fresh ≡ fresh_of mid.steady mid.kept batch → GoOn mid.steady mid.bodies fresh bodies
    → GoOn old.steady old.bodies (fresh_of old.steady old.kept batch) bodies
goes_on_by old mid batch fresh bodies same some goes =
    subst (λ (server : ServerContent). GoOn server.steady server.bodies (fresh_of server.steady server.kept batch) bodies) same
    (subst (λ (ds : List Datagram). GoOn mid.steady mid.bodies ds bodies) some goes)

-- what is kept of a server is what it had at first
pub keeps_still : (old mid new : ServerContent) → mid ≡ old → new.kept ≡ mid.kept → new.duplicates ≡ mid.duplicates
    → new.unkept ≡ mid.unkept → new.blocks ≡ mid.blocks → new.ids ≡ mid.ids → new.without_message_id ≡ mid.without_message_id → KeepsStill old new
keeps_still old mid new same kept duplicates unkept blocks ids without_message_id =
    subst (λ (server : ServerContent). KeepsStill server new) same
    (record { kept = kept; duplicates = duplicates; unkept = unkept; blocks = blocks; ids = ids; without_message_id = without_message_id })

pub tally_stays : (old mid : ServerContent) (tally : Tally) → mid ≡ old → tally ≡ mid.tally → tally ≡ old.tally
tally_stays old mid tally same is = is ∙ ap (λ (server : ServerContent). server.tally) same

-- what the code does comes to a turn
pub is_turn : (before : Moment) (old mid new : ServerContent) (batch fresh : List Datagram) (sorted : Sorted) (handled numbered : List Handled) (sends : List (Addr × List ℕ)) (is_all lacks : Bool)
    → mid ≡ old → ms_of before ≡ ms_of mid.latest - 1000 * mid.skew
    → fresh ≡ fresh_of mid.steady mid.kept batch → AreSorted mid.latest mid.steady mid.bodies fresh sorted new.bodies
    → ExecutesRound before mid.replica mid.tally sorted handled new.replica new.tally
    → AreNumbered mid.steady mid.ids handled numbered new.ids → new.without_message_id ≡ counts_without_message_id mid.without_message_id handled numbered
    → sends ≡ sent_again mid.steady mid.kept batch ++ sends_of numbered → Keeps mid.kept (exchanges_of mid.steady numbered) new.kept is_all
    → lacks ≡ list_any lacks_block numbered → new.unkept ≡ with_unkept mid.unkept (is_all && not lacks)
    → new.duplicates ≡ with_duplicates mid.duplicates batch fresh → new.blocks ≡ with_blocks mid.blocks sorted.handled.items sorted.origins.items
    → IsTurn old batch sends new
is_turn before old mid new batch fresh sorted handled numbered sends is_all lacks same back some sorts settles numbers without sent keeps lack short more blocks =
    let all = settles.handled_are ∙ ap (λ (hs : List Handled). hs ++ settles.more) sorts.sorted_are.handled in
    let calls = ap (all_calls before mid.replica.claimed) sorts.sorted_are.calls in
    subst (λ (server : ServerContent). IsTurn server batch sends new) same
    (record {
      before = before;
      arrivals = sorts.arrivals;
      replies = settles.replies;
      handled = settles.more;
      numbered = numbered;
      is_all_kept = is_all;
      before_is = back;
      fresh = sorts.are ∙ some;
      bodies = sorts.taken;
      round = subst (λ (cs : List Call). IsRound mid.replica cs settles.replies new.replica) calls settles.round;
      answers = subst (λ (os : List Origin). AreHandled os settles.replies settles.more) sorts.sorted_are.origins settles.answers;
      numbers = subst (λ (hs : List Handled). AreNumbered mid.steady mid.ids hs numbered new.ids) all numbers;
      without_message_id = without ∙ ap (λ (hs : List Handled).
          counts_without_message_id mid.without_message_id hs numbered) all;
      sent = sent;
      counts = settles.counted_are ∙ ap (λ (cs : List Call). counted mid.tally cs settles.replies) calls;
      kept = keeps;
      unkept = short ∙ ap (λ (l : Bool). with_unkept mid.unkept (is_all && not l)) lack;
      duplicates = more ∙ ap (with_duplicates mid.duplicates batch) some;
      blocks = blocks ∙ ap (λ (hs : List Handled). with_blocks mid.blocks hs sorted.origins.items) sorts.sorted_are.handled
          ∙ ap (with_blocks mid.blocks (filter_map answered_of sorts.arrivals)) sorts.sorted_are.origins;
    })

no_arrivals : (arrivals : List Arrival) → map datagram_of arrivals ≡ [] → arrivals ≡ []
no_arrivals [] is = refl
no_arrivals (a ∷ arrivals) is = absurd (cc)

-- where nothing came, nothing is handled, and nothing is sent
nothing_handled : (arrivals : List Arrival) (replies : List Reply) (handled : List Handled) → arrivals ≡ []
    → AreHandled (filter_map origin_of arrivals) replies handled → filter_map answered_of arrivals ++ handled ≡ []
nothing_handled [] replies [] none are = refl
nothing_handled [] replies (h ∷ handled) none are = absurd are
nothing_handled (a ∷ arrivals) replies handled none are = absurd (cc)

none_numbered : (now : Moment) (first last : List IdCounter) (handled numbered : List Handled) → handled ≡ []
    → AreNumbered now first handled numbered last → numbered ≡ []
none_numbered now first last [] [] none are = refl
none_numbered now first last [] (n ∷ numbered) none are = absurd are
none_numbered now first last (h ∷ handled) numbered none are = absurd (cc)

pub is_tick : (old new : ServerContent) (batch : List Datagram) (sends : List (Addr × List ℕ)) → batch ≡ []
    → IsTurn old batch sends new → IsTurn old [] [] new
is_tick old new batch sends none turn =
    let empty = subst (λ (b : List Datagram). IsTurn old b sends new) none turn in
    let nothing = nothing_handled empty.arrivals empty.replies empty.handled (no_arrivals empty.arrivals empty.fresh) empty.answers in
    let none_sent = none_numbered old.steady old.ids new.ids _ empty.numbered nothing empty.numbers in
    record {
      before = empty.before;
      arrivals = empty.arrivals;
      replies = empty.replies;
      handled = empty.handled;
      numbered = empty.numbered;
      is_all_kept = empty.is_all_kept;
      before_is = empty.before_is;
      fresh = empty.fresh;
      bodies = empty.bodies;
      round = empty.round;
      answers = empty.answers;
      numbers = empty.numbers;
      without_message_id = empty.without_message_id;
      sent = sym (ap sends_of none_sent);
      counts = empty.counts;
      kept = empty.kept;
      unkept = empty.unkept;
      duplicates = empty.duplicates;
      blocks = empty.blocks;
    }

-- a turn without datagrams changes no body
pub tick_stays : (old new : ServerContent) (batch : List Datagram) (sends : List (Addr × List ℕ)) → batch ≡ []
    → IsTurn old batch sends new → new.bodies ≡ old.bodies
tick_stays old new batch sends none turn =
    let empty = subst (λ (b : List Datagram). IsTurn old b sends new) none turn in
    subst (λ (arrivals : List Arrival). AreTaken old.steady old.bodies arrivals new.bodies) (no_arrivals empty.arrivals empty.fresh) empty.bodies

pub tick_fails : (kept : List Exchange) (steady : Moment) (old new : List BodyContent) (batch : List Datagram) → batch ≡ []
    → GoOn steady old (fresh_of steady kept batch) new → new ≡ old
tick_fails kept steady old new batch none goes = stays_without steady old new _ (ap (fresh_of steady kept) none) goes
