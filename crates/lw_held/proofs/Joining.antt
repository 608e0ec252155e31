-- A joint history is that of a run: turn by turn.
use Rattle.std.proofs.Common.{◌≡◌, ◌==◌, ℕ, zero, suc, ◌+◌, ◌<◌, ◌≤◌, Bool, true, false, cond, List, [], ◌∷◌, ◌++◌, length, Option, Some, None, Ok, Err, sym, refl, ap, ◌∙◌, subst, arith, eq-eqb}
use Rattle.std.specs.Prelude.{map, filter, set, slice_get}
use Rattle.std.proofs.lemmas.Bool.{eqb-true}
use Rattle.std.proofs.lemmas.List.{length-map}
use Rattle.lw_reg.specs.declared.op.Op.{Op}
use Rattle.lw_reg.specs.Marks.{left_by, all_marks}
use Rattle.lw_reg.proofs.Operations.{all_names}
use Rattle.lw_reg.proofs.Members.{none_there}
use Rattle.lw_reg.proofs.States.{state_least}
use Rattle.lw_delta.specs.Delta.{IsSpelling}
use Rattle.lw_call.specs.declared.call.Call.{Call}
use Rattle.lw_call.specs.declared.call.Call.TheVariants as calls
use Rattle.lw_call.specs.declared.reply.Reply.{Reply}
use Rattle.lw_call.specs.declared.reply.Reply.TheVariants as replies
use Rattle.lw_call.specs.Contents.{SentContent}
use Rattle.lw_node.specs.Exchange.{IsDeltaSince}
use Rattle.lw_node.specs.Node.{NodeContent, Knows, Leaves, fresh}
use Rattle.lw_node.specs.Node.Known.{Told}
use Rattle.lw_node.specs.Steps.{Context, StepsIn, Steps}
use Rattle.lw_world.specs.declared.event.Action.{Action}
use Rattle.lw_world.specs.declared.event.Action.TheVariants as actions
use Rattle.lw_world.specs.declared.event.Event.{Event}
use Rattle.lw_world.specs.declared.outcome.Outcome.{Outcome}
use Rattle.lw_world.specs.declared.outcome.Outcome.TheVariants as results
use Rattle.lw_world.specs.Known.{Knowledge, Message, node_of, about, names_of, knows_nothing}
use Rattle.lw_world.specs.Run.{History, Left, idle, Issuing, at_knowledge, Acts, Happens, Runs, at_number, with_node, after, begun, numbered_from}
use Rattle.lw_world.specs.inner.Sound.{AreSound}
use Rattle.lw_world.specs.World.{bytes_of}
use Rattle.lw_world.proofs.Learning.{LeftSo, learn_or}
use Rattle.lw_world.proofs.Making.{all_sound, delivers, happens_steps}
use Rattle.lw_held.specs.declared.entry.Entry.{Entry}
use Rattle.lw_held.specs.History.{Leads}
use Rattle.lw_node.proofs.Carrying.{carried}
use Rattle.lw_held.proofs.Marking.{histories_are_of_marks}
use Rattle.lw_held.specs.Marked.{unmarked}
use Rattle.lw_held.specs.Joint.{Turn, entries_of, AreOfRun, with_delta, IsPassedOn, ArePassedOn, IsToldAs, AreToldAs, JointHistoriesRun}

-- ---- one turn
-- a node that knows this does what the call says, with these deltas sent so far
record Acted (messages : List Message) (k : Knowledge) (deltas : List (List ℕ)) (call : Call) (reply : Reply) (node : NodeContent) : Type 0 where
  action : Action
  outcome : Outcome
  told : IsToldAs deltas call reply action outcome
  left : Left
  acts : Acts messages k action outcome left
  node_is : node ≡ node_of left.knows
  deltas_are : with_delta deltas reply ≡ map bytes_of left.messages
  sound : AreSound left.messages

map_end : (ms : List Message) (m : Message) → map bytes_of (ms ++ m ∷ []) ≡ map bytes_of ms ++ bytes_of m ∷ []
map_end [] m = refl
map_end (x ∷ ms) m = ap (λ bs. bytes_of x ∷ bs) (map_end ms m)

module _ (messages : List Message) (k : Knowledge) (deltas : List (List ℕ)) (node : NodeContent) (sound : AreSound messages) (are : deltas ≡ map bytes_of messages) where
  sends : (since : ℕ) (sent : SentContent) → IsDeltaSince (node_of k) since sent.delta → sent.change ≡ k.count.change → node ≡ node_of k → Acted messages k deltas (calls.Send since) (replies.Send (Ok sent)) node
  sends since sent d own same =
      let m : Message = record { delta = record { clock = k.clock; slots = d.slots }; operations = about (names_of d.slots) k.operations } in
      let left : Left = record { operation = None; knows = k; messages = messages ++ m ∷ [] } in
      let spelled : IsSpelling (bytes_of m) m.delta = subst (λ bs. IsSpelling bs m.delta) d.written d.spelled in
      record {
        action = actions.Send since;
        outcome = results.Sent (Ok (record { message = length deltas; change = sent.change }));
        told = (refl, refl);
        left = left;
        acts = record {
          delta = m.delta;
          clock = refl;
          slots = d.are;
          spelled = spelled;
          number = ap length are ∙ length-map messages bytes_of;
          change = own;
          left_is = refl;
        };
        node_is = same;
        deltas_are = (λ i. are i ++ d.written i ∷ []) ∙ sym (map_end messages m);
        sound = all_sound messages m sound (record { known = k.operations; operations_are = refl; slots = λ e slot there. ((d.are.members e slot).0 there).0; spelled = spelled });
      }

  merges : (bytes : List ℕ) (reply : Reply) (number : ℕ) → slice_get deltas number ≡ Some bytes → Steps (node_of k) (left_by k.operations) (calls.Merge bytes) reply node → Acted messages k deltas (calls.Merge bytes) reply node
  merges bytes (replies.Merge r) number at steps =
      let so = delivers messages k number bytes sound (subst (λ bs. slice_get bs number ≡ Some bytes) are at) r node steps in
      record {
        action = actions.Deliver number;
        outcome = results.Delivered r;
        told = (number, at, refl, refl);
        left = so.0;
        acts = so.1;
        node_is = so.2.node_is;
        deltas_are = are ∙ ap (map bytes_of) (sym so.2.messages_are);
        sound = subst AreSound (sym so.2.messages_are) sound;
      }
  merges bytes _ number at steps = absurd steps

  -- ---- a call that is no merge
  -- the node before and after; no delta comes by such a call
  abbrev Apart : Context
  Apart = record {
    node = node_of k;
    marks = left_by k.operations;
    After = λ operation. Leaves (node_of k) operation node;
    AfterMerge = λ bytes outcome. ⊥;
  }

  issuing : (operation : Option Op) → Leaves (node_of k) operation node → (so : (left : Left) × LeftSo messages node left) × Issuing messages k operation so.0
  issuing operation h =
      let learnt = learn_or k operation node h in (
        (record { operation = operation; knows = learnt.knows; messages = messages }, record { node_is = learnt.node_is; messages_are = refl }),
        record { issued = refl; known = learnt.issues; messages_are = refl },
      )

  -- the action is the call, and the reply brings no delta
  made : (call : Call) (reply : Reply) (action : Action) (outcome : Outcome) → IsToldAs deltas call reply action outcome → with_delta deltas reply ≡ deltas
      → ((left : Left) → StepsIn (at_knowledge messages k left) call reply → Acts messages k action outcome left) → StepsIn Apart call reply → Acted messages k deltas call reply node
  made call reply action outcome told none acts steps =
      let so = carried Apart (λ so operation. Issuing messages k operation so.0) (λ so bytes joined. ⊥) issuing (λ bytes joined never. absurd never) call reply steps in
      record {
        action = action;
        outcome = outcome;
        told = told;
        left = so.0.0;
        acts = acts so.0.0 so.1;
        node_is = so.0.1.node_is;
        deltas_are = none ∙ are ∙ ap (map bytes_of) (sym so.0.1.messages_are);
        sound = subst AreSound (sym so.0.1.messages_are) sound;
      }

  -- ---- any call
  acted : (call : Call) (reply : Reply) → IsPassedOn deltas call → Steps (node_of k) (left_by k.operations) call reply node → Acted messages k deltas call reply node
  acted (calls.Take now source bytes) (replies.Take (Ok taken)) passed steps = made (calls.Take now source bytes) (replies.Take (Ok taken)) (actions.Take now source bytes) (results.Taken (Ok taken)) (refl, refl) refl (λ left s. s) steps
  acted (calls.Take now source bytes) (replies.Take (Err refused)) passed steps = made (calls.Take now source bytes) (replies.Take (Err refused)) (actions.Take now source bytes) (results.Taken (Err refused)) (refl, refl) refl (λ left s. s) steps
  acted (calls.Observe now id path accept mid) (replies.Observe r) passed steps = made (calls.Observe now id path accept mid) (replies.Observe r) (actions.Observe now id path accept mid) (results.Observed r) (refl, refl) refl (λ left s. s) steps
  acted (calls.Cancel now token mid) (replies.Cancel r) passed steps = made (calls.Cancel now token mid) (replies.Cancel r) (actions.Cancel now token mid) (results.Cancelled r) (refl, refl) refl (λ left s. s) steps
  acted (calls.Sweep now) (replies.Sweep r) passed steps = made (calls.Sweep now) (replies.Sweep r) (actions.Sweep now) (results.Swept r) (refl, refl) refl (λ left s. s) steps
  acted (calls.Ask now question) (replies.Ask r) passed steps = made (calls.Ask now question) (replies.Ask r) (actions.Ask now question) (results.Answered r) (refl, refl) refl (λ left s. s) steps
  acted (calls.Send since) (replies.Send (Ok sent)) passed steps = sends since sent steps.0.0 steps.0.1 steps.1
  acted (calls.Send since) (replies.Send (Err refused)) passed steps = record {
    action = actions.Send since;
    outcome = results.Sent (Err refused);
    told = (refl, refl);
    left = idle messages k;
    acts = refl;
    node_is = steps.1;
    deltas_are = are;
    sound = sound;
  }
  acted (calls.Merge bytes) reply passed steps = merges bytes reply passed.0 passed.1 steps
  acted _ _ passed steps = absurd steps

known_marks : (k : Knowledge) → Knows (node_of k) (all_marks k.operations)
known_marks k = (all_names k.operations, state_least (all_marks k.operations))

-- ---- the node of a number, after another knows something else
get_set : {A : Type 0} (xs : List A) (place : ℕ) (x y : A) → slice_get xs place ≡ Some x → slice_get (set xs place y) place ≡ Some y
get_set {A = A} [] zero x y at = absurd (let bad : ◌≡◌ {A = Option A} None (Some x) = at in cc)
get_set {A = A} [] (suc place) x y at = absurd (let bad : ◌≡◌ {A = Option A} None (Some x) = at in cc)
get_set (z ∷ xs) zero x y at = refl
get_set (z ∷ xs) (suc place) x y at = get_set xs place x y at

get_set_other : {A : Type 0} (xs : List A) (place other : ℕ) (y : A) → (place ≡ other → ⊥) → slice_get (set xs place y) other ≡ slice_get xs other
get_set_other [] zero other y apart = refl
get_set_other [] (suc place) other y apart = refl
get_set_other (z ∷ xs) zero zero y apart = absurd (apart refl)
get_set_other (z ∷ xs) zero (suc other) y apart = refl
get_set_other (z ∷ xs) (suc place) zero y apart = refl
get_set_other (z ∷ xs) (suc place) (suc other) y apart = get_set_other xs place other y (λ same. apart (ap suc same))

at_set : {A : Type 0} (xs : List A) (number : ℕ) (x y : A) → at_number xs number ≡ Some x → at_number (with_node xs number y) number ≡ Some y
at_set {A = A} xs zero x y at = absurd (let bad : ◌≡◌ {A = Option A} None (Some x) = at in cc)
at_set xs (suc place) x y at = get_set xs place x y at

at_set_other : {A : Type 0} (xs : List A) (number other : ℕ) (y : A) → (number ≡ other → ⊥) → at_number (with_node xs number y) other ≡ at_number xs other
at_set_other xs zero other y apart = refl
at_set_other xs (suc place) zero y apart = refl
at_set_other xs (suc place) (suc other) y apart = get_set_other xs place other y (λ same. apart (ap suc same))

-- ---- the entries of a node
entries_here : (number : ℕ) (turn : Turn) (turns : List Turn) → turn.node ≡ number → entries_of number (turn ∷ turns) ≡ turn.entry ∷ entries_of number turns
entries_here number turn turns same =
    let rest : List Turn = filter (λ (t : Turn). t.node == number) turns in
    ap (λ b. map (λ (t : Turn). t.entry) (cond b (turn ∷ rest) rest)) (eq-eqb turn.node number same)

entries_apart : (number : ℕ) (turn : Turn) (turns : List Turn) → (turn.node == number) ≡ false → entries_of number (turn ∷ turns) ≡ entries_of number turns
entries_apart number turn turns apart =
    let rest : List Turn = filter (λ (t : Turn). t.node == number) turns in
    ap (λ b. map (λ (t : Turn). t.entry) (cond b (turn ∷ rest) rest)) apart

-- ---- turn by turn
-- what the node of the number knows, and that its entries lead from there to its last
record Stands (h : History) (turns : List Turn) (last : ℕ → NodeContent) (number : ℕ) : Type 0 where
  knows : Knowledge
  is : at_number h.nodes number ≡ Some knows
  leads : Leads (node_of knows) (entries_of number turns) (last number)

-- what stays so along the turns
record Holds (count : ℕ) (h : History) (deltas : List (List ℕ)) (turns : List Turn) (last : ℕ → NodeContent) : Type 0 where
  sound : AreSound h.messages
  are : deltas ≡ map bytes_of h.messages
  stands : (number : ℕ) → 1 ≤ number → number ≤ count → Stands h turns last number

-- the rest of a run
record Goes (count : ℕ) (h : History) (deltas : List (List ℕ)) (turns : List Turn) (last : ℕ → NodeContent) : Type 0 where
  events : List Event
  outcomes : List Outcome
  told : AreToldAs deltas turns events outcomes
  history : History
  runs : Runs h events outcomes history
  ends : (number : ℕ) → 1 ≤ number → number ≤ count → (knows : Knowledge) × (at_number history.nodes number ≡ Some knows) × (last number ≡ node_of knows)

module _ (count : ℕ) (last : ℕ → NodeContent) where
  -- the first turn is taken: its node knows what it has learnt, and the others stay
  stand_on : (h : History) (turn : Turn) (turns : List Turn) (k : Knowledge) (left : Left) → at_number h.nodes turn.node ≡ Some k → Leads (node_of left.knows) (entries_of turn.node turns) (last turn.node)
      → (number : ℕ) → Stands h (turn ∷ turns) last number → Stands (after h turn.node left) turns last number
  stand_on h turn turns k left at leads number stands = go (turn.node == number) refl
    where
      go : (b : Bool) → (turn.node == number) ≡ b → Stands (after h turn.node left) turns last number
      go true e =
          let same : turn.node ≡ number = eqb-true turn.node number e in
          subst (λ n. Stands (after h turn.node left) turns last n) same (record { knows = left.knows; is = at_set h.nodes turn.node k left.knows at; leads = leads })
      go false e = record {
        knows = stands.knows;
        is = at_set_other h.nodes turn.node number left.knows (λ same. let yes : (turn.node == number) ≡ true = eq-eqb turn.node number same in let bad : true ≡ false = sym yes ∙ e in cc) ∙ stands.is;
        leads = subst (λ (es : List Entry). Leads (node_of stands.knows) es (last number)) (entries_apart number turn turns e) stands.leads;
      }

  goes : (turns : List Turn) (h : History) (deltas : List (List ℕ)) → AreOfRun count turns → ArePassedOn deltas turns → Holds count h deltas turns last → Goes count h deltas turns last
  goes [] h deltas of passed holds = record {
    events = [];
    outcomes = [];
    told = tt;
    history = h;
    runs = refl;
    ends = λ number low high. let s = holds.stands number low high in (s.knows, s.is, s.leads);
  }
  goes (turn ∷ turns) h deltas of passed holds =
      let s = holds.stands turn.node of.0 of.1 in
      let leads : Leads (node_of s.knows) (turn.entry ∷ entries_of turn.node turns) (last turn.node) = subst (λ (es : List Entry). Leads (node_of s.knows) es (last turn.node)) (entries_here turn.node turn turns refl) s.leads in
      let one = acted h.messages s.knows deltas leads.0 holds.sound holds.are turn.entry.call turn.entry.reply passed.0 (leads.1 (Told (all_marks s.knows.operations)) (known_marks s.knows)) in
      let next : History = after h turn.node one.left in
      let event : Event = record { node = turn.node; action = one.action } in
      let happens : Happens h event one.outcome next = record { knows = s.knows; is = s.is; left = one.left; acts = one.acts; new_is = refl } in
      let from : Leads (node_of one.left.knows) (entries_of turn.node turns) (last turn.node) = subst (λ (n : NodeContent). Leads n (entries_of turn.node turns) (last turn.node)) one.node_is leads.2 in
      let rest = goes turns next (with_delta deltas turn.entry.reply) of.2 passed.1 (record {
        sound = one.sound;
        are = one.deltas_are;
        stands = λ number low high. stand_on h turn turns s.knows one.left s.is from number (holds.stands number low high);
      }) in
      record {
        events = event ∷ rest.events;
        outcomes = one.outcome ∷ rest.outcomes;
        told = (refl, one.told, rest.told);
        history = rest.history;
        runs = (next, happens_steps h event one.outcome next happens, rest.runs);
        ends = rest.ends;
      }

-- ---- from the beginning
begun_at : (first place count : ℕ) → place < count → slice_get (numbered_from first count) place ≡ Some (knows_nothing (first + place))
begun_at first place zero within = absurd (omega (arith, within))
begun_at first zero (suc count) within = ap (λ n. Some (knows_nothing n)) (let e : first ≡ first + zero = omega arith in e)
begun_at first (suc place) (suc count) within =
    begun_at (first + 1) place count (omega (arith, within))
    ∙ ap (λ n. Some (knows_nothing n)) (let e : first + 1 + place ≡ first + suc place = omega arith in e)

begun_stands : (count : ℕ) (turns : List Turn) (last : ℕ → NodeContent) (number : ℕ) → 1 ≤ number → number ≤ count → Leads (fresh number) (entries_of number turns) (last number) → Stands (begun count) turns last number
begun_stands count turns last zero low high leads = absurd (omega (arith, low))
begun_stands count turns last (suc place) low high leads = record {
  knows = knows_nothing (suc place);
  is = begun_at 1 place count (omega (arith, high)) ∙ ap (λ n. Some (knows_nothing n)) (let e : 1 + place ≡ suc place = omega arith in e);
  leads = leads;
}

pub joint_histories_run : JointHistoriesRun
joint_histories_run count turns last joint =
    let run = goes count last turns (begun count) [] joint.of_run joint.passed_on (record {
      sound = λ m there. none_there m there;
      are = refl;
      stands = λ number low high. begun_stands count turns last number low high ((histories_are_of_marks (unmarked number) (entries_of number turns) (last number) (λ e r k h. none_there (record { endpoint = e; registration = r; trace = k }) h)).1 (joint.legal number low high));
    }) in
    record { events = run.events; outcomes = run.outcomes; told = run.told; history = run.history; runs = run.runs; ends = run.ends }
