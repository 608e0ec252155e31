-- What a node of a world does, a history that tells of the world allows.
use Rattle.std.proofs.Common.{◌≡◌, ℕ, zero, suc, ◌+◌, ◌-◌, ◌<◌, ◌≤◌, List, [], ◌∷◌, ◌++◌, length, append_assoc, Option, Some, None, Result, Ok, Err, sym, refl, ap, ◌∙◌, subst, arith, inl, inr, ◌⊎◌}
use Rattle.std.specs.Prelude.{Contains, map, set, take, slice_get, slice_set, slice_index_or, get_or, unwrap_or, option_map, IfOk, OnErr, IsOk}
use Rattle.std.proofs.lemmas.List.{map-set, set-get_or, length-map}
use Rattle.std.proofs.lemmas.List.Elements.{Contains-append_cases}
use Rattle.std.proofs.lemmas.Option.{slice_get-map, slice_get_cases, slice_get_past, slice_get_within, unwrap_or-slice_get}
use Rattle.lw_stamp.specs.declared.moment.Moment.{Moment}
use Rattle.lw_stamp.specs.declared.no_memory.NoMemory.{NoMemory}
use Rattle.lw_stamp.specs.declared.stamp.Stamp.{Stamp}
use Rattle.lw_stamp.specs.Moment.{ms_of}
use Rattle.lw_reg.specs.declared.addr.Addr.{Addr}
use Rattle.lw_reg.specs.declared.path.Path.{Path}
use Rattle.lw_reg.specs.Marks.{Mark, among, left_by, all_marks}
use Rattle.lw_reg.proofs.Operations.{all_names}
use Rattle.lw_reg.proofs.States.{state_least}
use Rattle.lw_reg.proofs.Members.{none_there, there_or_first}
use Rattle.lw_delta.specs.Delta.{IsSpelling}
use Rattle.lw_call.specs.declared.answer.Answer.{Answer}
use Rattle.lw_call.specs.declared.clock_end.ClockEnd.{ClockEnd as NoStamp}
use Rattle.lw_call.specs.declared.merge_fault.MergeFault.{MergeFault}
use Rattle.lw_call.specs.declared.observe_fault.ObserveFault.{ObserveFault}
use Rattle.lw_call.specs.declared.question.Question.{Question}
use Rattle.lw_call.specs.Contents.{TakenContent, OutgoingContent}
use Rattle.lw_node.specs.Calls.{Takes, IsSilent, Observes, Cancels, Sweeps}
use Rattle.lw_node.specs.Effects.{ObserveMeans, CancelMeans, SweepMeans}
use Rattle.lw_node.specs.Exchange.{IsDeltaSince, Merges}
use Rattle.lw_node.specs.Node.{NodeContent, fresh, Known, Knows, IsKnown, marks_in}
use Rattle.lw_node.specs.Node.Known.{Told}
use Rattle.lw_node.specs.Steps.{Asks}
use Rattle.lw_world.specs.declared.event.Action.{Action}
use Rattle.lw_world.specs.declared.event.Action.TheVariants as actions
use Rattle.lw_world.specs.declared.event.Event.{Event}
use Rattle.lw_world.specs.declared.outcome.Outcome.{Outcome}
use Rattle.lw_world.specs.declared.outcome.Outcome.TheVariants as outcomes
use Rattle.lw_world.specs.declared.outcome.Sending.{Sending}
use Rattle.lw_world.specs.Known.{Knowledge, Message, node_of, about, names_of}
use Rattle.lw_world.specs.inner.Known.{issuer_of}
use Rattle.lw_world.specs.Run.{History, Left, idle, Acts, Happens, Steps, Runs, at_number, after, begun, numbered_from}
use Rattle.lw_world.specs.inner.Sound.{IsSound, AreSound, Keeps, Makes}
use Rattle.lw_world.specs.World.{WorldContent, world_of, bytes_of}
use Rattle.lw_world.proofs.Learning.{LeftSo, issues_none, taken_so, idle_so, commanded_so, swept_so, delivered_so}

-- ---- the node at a place
length_past : {A : Type 0} (xs : List A) (place : ℕ) → slice_get xs place ≡ None → length xs ≤ place
length_past {A} xs place none = go (slice_get_cases xs place).1
  where
    go : ((x : A) × (place < length xs) × (slice_get xs place ≡ Some x) × (get_or xs place x ≡ x)) ⊎ ((length xs ≤ place) × (slice_get xs place ≡ None)) → length xs ≤ place
    go (inl h) = absurd (let bad : ◌≡◌ {A = Option A} None (Some h.0) = sym none ∙ h.2 in cc)
    go (inr h) = h.0

known_in : (h : History) (place : ℕ) (node : NodeContent) → place < length (map node_of h.nodes) → node ≡ slice_index_or (map node_of h.nodes) place node
    → (k : Knowledge) × (slice_get h.nodes place ≡ Some k) × (node ≡ node_of k)
known_in h place node within value = go (slice_get h.nodes place) refl
  where
    go : (o : Option Knowledge) → slice_get h.nodes place ≡ o → (k : Knowledge) × (slice_get h.nodes place ≡ Some k) × (node ≡ node_of k)
    go None e = absurd (let past = length_past h.nodes place e in let same : length (map node_of h.nodes) ≡ length h.nodes = length-map h.nodes node_of in omega (arith, past, same))
    go (Some k) e = (k, e, value ∙ sym (unwrap_or-slice_get (map node_of h.nodes) place node) ∙ ap (λ o. unwrap_or o node) (slice_get-map node_of h.nodes place ∙ ap (option_map node_of) e))

-- a history that tells of the world tells of the node at the place
record Found (old : WorldContent) (place : ℕ) (node : NodeContent) (h : History) : Type 0 where
  k : Knowledge
  at : slice_get h.nodes place ≡ Some k
  node_is : node ≡ node_of k

found : (old : WorldContent) (place : ℕ) (node : NodeContent) → place < length old.nodes → node ≡ slice_index_or old.nodes place node → (h : History) → old ≡ world_of h → Found old place node h
found old place node within value h world =
    let nodes : old.nodes ≡ map node_of h.nodes = ap (λ (w : WorldContent). w.nodes) world in
    let x = known_in h place node (subst (λ (ns : List NodeContent). place < length ns) nodes within) (value ∙ ap (λ (ns : List NodeContent). slice_index_or ns place node) nodes) in
    record { k = x.0; at = x.1; node_is = x.2 }

-- ---- what is left
-- what the node does with what it knows, and what it is afterwards
abbrev pub ActsSo : List Message → Knowledge → Action → Outcome → NodeContent → Type 0
ActsSo messages k action outcome node = (left : Left) × Acts messages k action outcome left × LeftSo messages node left

pub makes : (self old : WorldContent) → old ≡ self → (place : ℕ) (node new : NodeContent) (action : Action) (outcome : Outcome) → place < length self.nodes → node ≡ slice_index_or old.nodes place node
    → ((messages : List Message) (k : Knowledge) → node ≡ node_of k → AreSound messages → old.messages ≡ map bytes_of messages → ActsSo messages k action outcome new)
    → Makes self place action outcome (record { nodes = slice_set old.nodes place new; messages = old.messages })
makes self old inside place node new action outcome within value acts h kept =
    let keeps : Keeps h old = subst (Keeps h) (sym inside) kept in
    let at = found old place node (subst (λ (w : WorldContent). place < length w.nodes) (sym inside) within) value h keeps.world_is in
    let so = acts h.messages at.k at.node_is keeps.sound (ap (λ (w : WorldContent). w.messages) keeps.world_is) in
    let left = so.0 in
    let same = so.2.messages_are in (
      after h (suc place) left,
      record { knows = at.k; is = at.at; left = left; acts = so.1; new_is = refl },
      record {
        world_is = λ i. record {
          nodes = ((λ j. slice_set (ap (λ (w : WorldContent). w.nodes) keeps.world_is j) place (so.2.node_is j)) ∙ sym (map-set node_of h.nodes place left.knows)) i;
          messages = (ap (λ (w : WorldContent). w.messages) keeps.world_is ∙ ap (map bytes_of) (sym same)) i;
        };
        sound = subst AreSound (sym same) keeps.sound;
      },
    )

-- the knowledge stays
unmoved : (h : History) (place : ℕ) (k : Knowledge) → slice_get h.nodes place ≡ Some k → set h.nodes place k ≡ h.nodes
unmoved h place k at = ap (set h.nodes place) (sym (sym (unwrap_or-slice_get h.nodes place k) ∙ ap (λ o. unwrap_or o k) at)) ∙ set-get_or h.nodes place k

-- nothing is changed
pub makes_nothing : (self old : WorldContent) → old ≡ self → (place : ℕ) (node : NodeContent) (action : Action) (outcome : Outcome) → place < length self.nodes → node ≡ slice_index_or old.nodes place node
    → ((messages : List Message) (k : Knowledge) → node ≡ node_of k → old.messages ≡ map bytes_of messages → Acts messages k action outcome (idle messages k))
    → Makes self place action outcome self
makes_nothing self old inside place node action outcome within value acts h kept =
    let keeps : Keeps h old = subst (Keeps h) (sym inside) kept in
    let at = found old place node (subst (λ (w : WorldContent). place < length w.nodes) (sym inside) within) value h keeps.world_is in (
      after h (suc place) (idle h.messages at.k),
      record { knows = at.k; is = at.at; left = idle h.messages at.k; acts = acts h.messages at.k at.node_is (ap (λ (w : WorldContent). w.messages) keeps.world_is); new_is = refl },
      record {
        world_is = sym inside ∙ keeps.world_is ∙ (λ i. record { nodes = map node_of (sym (unmoved h place at.k at.at) i); messages = map bytes_of h.messages });
        sound = keeps.sound;
      },
    )

-- ---- a message is made
map_end : (ms : List Message) (m : Message) → map bytes_of (ms ++ m ∷ []) ≡ map bytes_of ms ++ bytes_of m ∷ []
map_end [] m = refl
map_end (x ∷ ms) m = ap (λ bs. bytes_of x ∷ bs) (map_end ms m)

pub all_sound : (ms : List Message) (m : Message) → AreSound ms → IsSound m → AreSound (ms ++ m ∷ [])
all_sound ms m sound own x there = go (Contains-append_cases ms (m ∷ []) x there)
  where
    last : (x ≡ m) ⊎ Contains [] x → IsSound x
    last (inl same) = subst IsSound (sym same) own
    last (inr none) = none_there x none

    go : Contains ms x ⊎ Contains (m ∷ []) x → IsSound x
    go (inl before) = sound x before
    go (inr end) = last (there_or_first m [] x end)

pub makes_message : (self old : WorldContent) → old ≡ self → (place : ℕ) (node : NodeContent) (since : ℕ) (sending : Sending) (bytes : List ℕ) (sent : List (List ℕ)) → sent ≡ old.messages ++ bytes ∷ [] → place < length self.nodes → node ≡ slice_index_or old.nodes place node
    → IsDeltaSince node since bytes → sending.message ≡ length old.messages → sending.change ≡ node.table.count.change
    → Makes self place (actions.Send since) (outcomes.Sent (Ok sending)) (record { nodes = old.nodes; messages = sent })
makes_message self old inside place node since sending bytes sent ends within value delta number change h kept =
    let at = found old place node (subst (λ (w : WorldContent). place < length w.nodes) (sym inside) within) value h keeps.world_is in
    go at.k at.at (subst (λ (n : NodeContent). IsDeltaSince n since bytes) at.node_is delta) (change ∙ ap (λ (n : NodeContent). n.table.count.change) at.node_is)
  where
    keeps : Keeps h old
    keeps = subst (Keeps h) (sym inside) kept

    messages : old.messages ≡ map bytes_of h.messages
    messages = ap (λ (w : WorldContent). w.messages) keeps.world_is

    go : (k : Knowledge) → slice_get h.nodes place ≡ Some k → IsDeltaSince (node_of k) since bytes → sending.change ≡ k.count.change
        → (next : History) × Happens h (record { node = suc place; action = actions.Send since }) (outcomes.Sent (Ok sending)) next
        × Keeps next (record { nodes = old.nodes; messages = sent })
    go k at d own =
        let m : Message = record { delta = record { clock = k.clock; slots = d.slots }; operations = about (names_of d.slots) k.operations } in
        let left : Left = record { operation = None; knows = k; messages = h.messages ++ m ∷ [] } in
        let spelled : IsSpelling (bytes_of m) m.delta = subst (λ bs. IsSpelling bs m.delta) d.written d.spelled in
        let sends : Acts h.messages k (actions.Send since) (outcomes.Sent (Ok sending)) left = record {
          delta = m.delta;
          clock = refl;
          slots = d.are;
          spelled = spelled;
          number = number ∙ ap length messages ∙ length-map h.messages bytes_of;
          change = own;
          left_is = refl;
        } in (
          after h (suc place) left,
          record { knows = k; is = at; left = left; acts = sends; new_is = refl },
          record {
            world_is = λ i. record {
              nodes = (ap (λ (w : WorldContent). w.nodes) keeps.world_is ∙ ap (map node_of) (sym (unmoved h place k at))) i;
              messages = (ends ∙ (λ j. messages j ++ d.written j ∷ []) ∙ sym (map_end h.messages m)) i;
            };
            sound = all_sound h.messages m keeps.sound (record { known = k.operations; operations_are = refl; slots = λ e slot there. ((d.are.members e slot).0 there).0; spelled = spelled });
          },
        )

-- ---- a message reaches the node
pub contains_at : (ms : List Message) (number : ℕ) (m : Message) → slice_get ms number ≡ Some m → Contains ms m
contains_at ms number m at = (number, slice_get_within ms number m at, sym (unwrap_or-slice_get ms number m) ∙ ap (λ o. unwrap_or o m) at)

pub delivers : (messages : List Message) (k : Knowledge) (number : ℕ) (bytes : List ℕ) → AreSound messages → slice_get (map bytes_of messages) number ≡ Some bytes
    → (outcome : Result ℕ MergeFault) (node : NodeContent) → Merges (node_of k) bytes outcome node → ActsSo messages k (actions.Deliver number) (outcomes.Delivered outcome) node
delivers messages k number bytes sound at outcome node merges = go (slice_get messages number) refl
  where
    with_message : (m : Message) → slice_get messages number ≡ Some m → bytes ≡ bytes_of m → ActsSo messages k (actions.Deliver number) (outcomes.Delivered outcome) node
    with_message m is same =
        let so = delivered_so messages k m (sound m (contains_at messages number m is)) outcome node (subst (λ bs. Merges (node_of k) bs outcome node) same merges) in
        (so.0, (m, is, so.1), so.2)

    go : (o : Option Message) → slice_get messages number ≡ o → ActsSo messages k (actions.Deliver number) (outcomes.Delivered outcome) node
    go None e = absurd (let bad : ◌≡◌ {A = Option (List ℕ)} None (Some bytes) = sym (slice_get-map bytes_of messages number ∙ ap (option_map bytes_of) e) ∙ at in cc)
    go (Some m) e = with_message m e (let k : ◌≡◌ {A = Option (List ℕ)} (Some bytes) (Some (bytes_of m)) = sym at ∙ slice_get-map bytes_of messages number ∙ ap (option_map bytes_of) e in cc)

no_message : (messages : List Message) (number : ℕ) → slice_get (map bytes_of messages) number ≡ None → slice_get messages number ≡ None
no_message messages number at = go (slice_get messages number) refl
  where
    go : (o : Option Message) → slice_get messages number ≡ o → o ≡ None
    go None e = refl
    go (Some m) e = absurd (let bad : ◌≡◌ {A = Option (List ℕ)} None (Some (bytes_of m)) = sym at ∙ slice_get-map bytes_of messages number ∙ ap (option_map bytes_of) e in cc)

-- ---- what the calls of a node promise
known_marks : (k : Knowledge) → Knows (node_of k) (all_marks k.operations)
known_marks k = (all_names k.operations, state_least (all_marks k.operations))

pub takes_act : (messages : List Message) (k : Knowledge) (now : Moment) (source : Addr) (slice bytes : List ℕ) (action : Action) → slice ≡ bytes → action ≡ actions.Take now source bytes
    → (r : Result TakenContent NoMemory) (old new : NodeContent) → old ≡ node_of k
    → ((ms : List Mark) → Knows old ms → IfOk r (λ t. Takes old (among ms) (ms_of now) source slice t new)) → OnErr r (new ≡ old) → (IsSilent slice → IsOk r)
    → ActsSo messages k action (outcomes.Taken r) new
takes_act messages k now source slice bytes action same is r old new from takes unchanged silent =
    subst (λ (a : Action). ActsSo messages k a (outcomes.Taken r) new) (sym is)
    (subst (λ bs. ActsSo messages k (actions.Take now source bs) (outcomes.Taken r) new) same
    (go r (takes (all_marks k.operations) (subst (λ (n : NodeContent). Knows n (all_marks k.operations)) (sym from) (known_marks k))) unchanged silent))
  where
    go : (r : Result TakenContent NoMemory) → IfOk r (λ t. Takes old (left_by k.operations) (ms_of now) source slice t new) → OnErr r (new ≡ old) → (IsSilent slice → IsOk r) → ActsSo messages k (actions.Take now source slice) (outcomes.Taken r) new
    go (Ok t) takes unchanged silent =
        let so = taken_so messages k (ms_of now) source slice t new (subst (λ (n : NodeContent). Takes n (left_by k.operations) (ms_of now) source slice t new) from takes) in
        (so.0, so.1, so.2)
    go (Err refused) takes unchanged silent = idle_so {A = ¬ IsSilent slice} messages k new (λ s. absurd (let f = silent s in cc)) (unchanged ∙ from)

pub observes_act : (messages : List Message) (k : Knowledge) (now : Moment) (id : Stamp) (path : Path) (accept : Option ℕ) (mid : ℕ) (action : Action) → action ≡ actions.Observe now id path accept mid
    → (r : Result OutgoingContent ObserveFault) (old new : NodeContent) → old ≡ node_of k
    → ((ms : List Mark) → Knows old ms → Observes old (among ms) (ms_of now) id path accept mid r new)
    → ActsSo messages k action (outcomes.Observed r) new
observes_act messages k now id path accept mid action is r old new from observes =
    let known = observes (all_marks k.operations) (subst (λ (n : NodeContent). Knows n (all_marks k.operations)) (sym from) (known_marks k)) in
    let so = commanded_so (ObserveMeans (issuer_of k (ms_of now)) (left_by k.operations) id path accept mid) messages k r new (subst (λ (n : NodeContent). Observes n (left_by k.operations) (ms_of now) id path accept mid r new) from known) in
    subst (λ (a : Action). ActsSo messages k a (outcomes.Observed r) new) (sym is) so

pub cancels_act : (messages : List Message) (k : Knowledge) (now : Moment) (token : Stamp) (mid : ℕ) (action : Action) → action ≡ actions.Cancel now token mid
    → (r : Result OutgoingContent ObserveFault) (old new : NodeContent) → old ≡ node_of k
    → ((ms : List Mark) → Knows old ms → Cancels old (among ms) (ms_of now) token mid r new)
    → ActsSo messages k action (outcomes.Cancelled r) new
cancels_act messages k now token mid action is r old new from cancels =
    let known = cancels (all_marks k.operations) (subst (λ (n : NodeContent). Knows n (all_marks k.operations)) (sym from) (known_marks k)) in
    let so = commanded_so (CancelMeans (issuer_of k (ms_of now)) (left_by k.operations) token mid) messages k r new (subst (λ (n : NodeContent). Cancels n (left_by k.operations) (ms_of now) token mid r new) from known) in
    subst (λ (a : Action). ActsSo messages k a (outcomes.Cancelled r) new) (sym is) so

pub sweeps_act : (messages : List Message) (k : Knowledge) (now : Moment) (action : Action) → action ≡ actions.Sweep now
    → (r : Result (Option Stamp) NoStamp) (old new : NodeContent) → old ≡ node_of k
    → ((ms : List Mark) → Knows old ms → Sweeps old (among ms) (ms_of now) r new)
    → ActsSo messages k action (outcomes.Swept r) new
sweeps_act messages k now action is r old new from sweeps =
    let known = sweeps (all_marks k.operations) (subst (λ (n : NodeContent). Knows n (all_marks k.operations)) (sym from) (known_marks k)) in
    let so = swept_so (SweepMeans (issuer_of k (ms_of now)) (left_by k.operations)) messages k r new (subst (λ (n : NodeContent). Sweeps n (left_by k.operations) (ms_of now) r new) from known) in
    subst (λ (a : Action). ActsSo messages k a (outcomes.Swept r) new) (sym is) so

pub asks_act : (messages : List Message) (k : Knowledge) (now : Moment) (question : Question) (action : Action) → action ≡ actions.Ask now question
    → (r : Result Answer NoMemory) (node : NodeContent) → node ≡ node_of k
    → ((known : Known) → IsKnown node.table.state known → Asks node (marks_in node.table.state known) (ms_of now) question r)
    → Acts messages k action (outcomes.Answered r) (idle messages k)
asks_act messages k now question action is r node from answers =
    subst (λ (a : Action). Acts messages k a (outcomes.Answered r) (idle messages k)) (sym is) (
      subst (λ (n : NodeContent). Asks n (left_by k.operations) (ms_of now) question r) from
          (answers (Told (all_marks k.operations)) (subst (λ (n : NodeContent). Knows n (all_marks k.operations)) (sym from) (known_marks k))),
      issues_none messages k,
    )

-- ---- what lies at a place of a list
pub some_item : {A : Type 0} (xs : List A) (place : ℕ) → place < length xs → (x : A) × (x ≡ slice_index_or xs place x)
some_item {A} xs place within = go (slice_get_cases xs place).1
  where
    go : ((x : A) × (place < length xs) × (slice_get xs place ≡ Some x) × (get_or xs place x ≡ x)) ⊎ ((length xs ≤ place) × (slice_get xs place ≡ None)) → (x : A) × (x ≡ slice_index_or xs place x)
    go (inl h) = (h.0, sym h.3)
    go (inr h) = absurd (let past = h.0 in omega (arith, past, within))

pub kept_at : {V : Type 0} (bytes : V → List ℕ) (slice items : List V) (messages : List Message) (number : ℕ) (v : V) → slice ≡ items → map bytes items ≡ map bytes_of messages
    → number < length slice → v ≡ slice_index_or slice number v → slice_get (map bytes_of messages) number ≡ Some (bytes v)
kept_at {V} bytes slice items messages number v same are within value =
    ap (λ bs. slice_get bs number) (sym are ∙ ap (map bytes) (sym same)) ∙ slice_get-map bytes slice number ∙ ap (option_map bytes) (go (slice_get_cases slice number).1)
  where
    go : ((x : V) × (number < length slice) × (slice_get slice number ≡ Some x) × (get_or slice number x ≡ x)) ⊎ ((length slice ≤ number) × (slice_get slice number ≡ None)) → slice_get slice number ≡ Some v
    go (inl h) = h.2 ∙ ap Some (sym (ap (λ o. unwrap_or o v) h.2) ∙ unwrap_or-slice_get slice number v ∙ sym value)
    go (inr h) = absurd (let past = h.0 in omega (arith, past, within))

pub kept_past : {V : Type 0} (bytes : V → List ℕ) (slice items : List V) (messages : List Message) (number : ℕ) → slice ≡ items → map bytes items ≡ map bytes_of messages
    → length slice ≤ number → slice_get messages number ≡ None
kept_past bytes slice items messages number same are past =
    no_message messages number (ap (λ bs. slice_get bs number) (sym are ∙ ap (map bytes) (sym same)) ∙ slice_get-map bytes slice number ∙ ap (option_map bytes) (slice_get_past slice number past))

-- ---- events
-- none of what a node does is that there is no such node
pub happens_steps : (h : History) (event : Event) (outcome : Outcome) (next : History) → Happens h event outcome next → Steps h event outcome next
happens_steps h event (outcomes.Taken r) next happens = happens
happens_steps h event (outcomes.Observed r) next happens = happens
happens_steps h event (outcomes.Cancelled r) next happens = happens
happens_steps h event (outcomes.Swept r) next happens = happens
happens_steps h event (outcomes.Answered r) next happens = happens
happens_steps h event (outcomes.Sent r) next happens = happens
happens_steps h event (outcomes.Delivered r) next happens = happens
happens_steps h event outcomes.NoSuchMessage next happens = happens
happens_steps h event outcomes.NoSuchNode next happens = absurd (never event.action happens.acts)
  where
    never : (action : Action) → Acts h.messages happens.knows action outcomes.NoSuchNode happens.left → ⊥
    never (actions.Take now source bytes) acts = acts
    never (actions.Observe now id path accept mid) acts = acts
    never (actions.Cancel now token mid) acts = acts
    never (actions.Sweep now) acts = acts
    never (actions.Ask now question) acts = acts
    never (actions.Send since) acts = acts
    never (actions.Deliver number) acts = acts

-- the event is stepped over, and a history tells of the world afterwards
abbrev pub StepsKept : WorldContent → Event → Outcome → WorldContent → Type 0
StepsKept old event outcome new = (h : History) → Keeps h old → (next : History) × Steps h event outcome next × Keeps next new

pub made_steps : (old new : WorldContent) (event : Event) (place : ℕ) → event.node ≡ suc place → (r : Result Outcome NoMemory) → IfOk r (λ outcome. Makes old place event.action outcome new) → IfOk r (λ outcome. StepsKept old event outcome new)
made_steps old new event place same (Err refused) made = tt
made_steps old new event place same (Ok outcome) made = λ h keeps.
    let x = made h keeps in
    (x.0, happens_steps h event outcome x.0 (subst (λ n. Happens h (record { node = n; action = event.action }) outcome x.0) (sym same) x.1), x.2)

no_node : (h : History) (number : ℕ) → at_number (map node_of h.nodes) number ≡ None → at_number h.nodes number ≡ None
no_node h zero none = refl
no_node h (suc place) none = go (slice_get h.nodes place) refl
  where
    go : (o : Option Knowledge) → slice_get h.nodes place ≡ o → o ≡ None
    go None e = refl
    go (Some k) e = absurd (let bad : ◌≡◌ {A = Option NodeContent} None (Some (node_of k)) = sym none ∙ slice_get-map node_of h.nodes place ∙ ap (option_map node_of) e in cc)

pub missed_steps : (old : WorldContent) (event : Event) → at_number old.nodes event.node ≡ None → StepsKept old event outcomes.NoSuchNode old
missed_steps old event none h keeps = (h, (no_node h event.node (ap (λ (w : WorldContent). at_number w.nodes event.node) (sym keeps.world_is) ∙ none), refl), keeps)

-- ---- runs
pub runs_on : (old mid new : History) (es : List Event) (os : List Outcome) (event : Event) (outcome : Outcome) → Runs old es os mid → Steps mid event outcome new → Runs old (es ++ event ∷ []) (os ++ outcome ∷ []) new
runs_on old mid new [] [] event outcome runs steps = (new, subst (λ (h : History). Steps h event outcome new) runs steps, refl)
runs_on old mid new [] (o ∷ os) event outcome runs steps = absurd runs
runs_on old mid new (e ∷ es) [] event outcome runs steps = absurd runs
runs_on old mid new (e ∷ es) (o ∷ os) event outcome runs steps = (runs.0, runs.1, runs_on runs.0 mid new es os event outcome runs.2 steps)

-- one item more from the front on
pub take_next : {A : Type 0} (place : ℕ) (xs : List A) (x : A) → place < length xs → x ≡ slice_index_or xs place x → take (suc place) xs ≡ take place xs ++ x ∷ []
take_next zero [] x within value = absurd (omega (arith, within))
take_next zero (y ∷ ys) x within value = ap (λ v. v ∷ []) (sym value)
take_next (suc place) [] x within value = absurd (omega (arith, within))
take_next (suc place) (y ∷ ys) x within value = ap (λ vs. y ∷ vs) (take_next place ys x (omega (arith, within)) value)

take_whole : {A : Type 0} (count : ℕ) (xs : List A) → length xs ≤ count → take count xs ≡ xs
take_whole zero [] past = refl
take_whole zero (y ∷ ys) past = absurd (omega (arith, past))
take_whole (suc count) [] past = refl
take_whole (suc count) (y ∷ ys) past = ap (λ vs. y ∷ vs) (take_whole count ys (omega (arith, past)))

-- the events so far, and one more
pub ran_on : (begin mid next : History) (events : List Event) (place : ℕ) (outcomes : List Outcome) (event : Event) (outcome : Outcome) → place < length events → event ≡ slice_index_or events place event
    → Runs begin (take place events) outcomes mid → Steps mid event outcome next → Runs begin (take (place + 1) events) (outcomes ++ outcome ∷ []) next
ran_on begin mid next events place outcomes event outcome within value runs steps =
    let one : suc place ≡ place + 1 = omega arith in
    subst (λ es. Runs begin es (outcomes ++ outcome ∷ []) next) (sym (take_next place events event within value) ∙ ap (λ n. take n events) one) (runs_on begin mid next (take place events) outcomes event outcome runs steps)

-- all events
pub ran_whole : (begin new : History) (events : List Event) (place : ℕ) (outcomes : List Outcome) → length events ≤ place → Runs begin (take place events) outcomes new → Runs begin events outcomes new
ran_whole begin new events place outcomes past runs = subst (λ es. Runs begin es outcomes new) (take_whole place events past) runs

-- before the first event no message was sent
pub begun_keeps : (count : ℕ) (world : WorldContent) → world ≡ world_of (begun count) → Keeps (begun count) world
begun_keeps count world is = record { world_is = is; sound = λ m there. none_there m there }

-- ---- new nodes
pub one_node_more : (all nodes : List NodeContent) (place count : ℕ) → place < count → nodes ++ map node_of (numbered_from (place + 1) (count - place)) ≡ all
    → (nodes ++ fresh (place + 1) ∷ []) ++ map node_of (numbered_from (place + 1 + 1) (count - (place + 1))) ≡ all
one_node_more all nodes place count within before =
    append_assoc nodes (fresh (place + 1) ∷ []) (map node_of (numbered_from (place + 1 + 1) (count - (place + 1))))
    ∙ ap (λ more. nodes ++ map node_of (numbered_from (place + 1) more)) one
    ∙ before
  where
    one : suc (count - (place + 1)) ≡ count - place
    one = omega (arith, within)
