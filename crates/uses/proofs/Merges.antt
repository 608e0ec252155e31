-- What two nodes know once each has merged the whole delta of the other.
use Rattle.std.proofs.Common.{◌≡◌, ◌≢◌, ℕ, List, Option, Some, Result, Ok, Err, sym, refl, ap, ◌∙◌, subst, arith}
use Rattle.std.specs.FinMap.{get}
use Rattle.std.specs.Prelude.{IsSome, OnOk, max}
use Rattle.lw_reg.specs.declared.slot.Slot.{Slot}
use Rattle.lw_reg.specs.Marks.{Marks}
use Rattle.lw_reg.specs.Reading.{shown_in}
use Rattle.lw_reg.specs.State.{State, state_join}
use Rattle.lw_reg.proofs.States.{state_laws}
use Rattle.lw_table.specs.Changes.{IsSinceIn}
use Rattle.lw_delta.specs.Delta.{DeltaContent}
use Rattle.lw_delta.proofs.Answering.{one_delta}
use Rattle.lw_call.specs.declared.answer.Answer.{Answer}
use Rattle.lw_call.specs.declared.answer.Answer.TheVariants as answers
use Rattle.lw_call.specs.declared.question.Question.{Question}
use Rattle.lw_call.specs.declared.question.Question.TheVariants as questions
use Rattle.lw_node.specs.Exchange.{IsDeltaSince, Merged, MergesWhole, state_in}
use Rattle.lw_node.specs.Node.{NodeContent}
use Rattle.lw_node.specs.Steps.{Answers}
use Rattle.lw_node.proofs.RestLemmas.{deltas_bring}
use Rattle.uses.specs.Meeting.{IsCounted, KnowsBoth, AnswerAlike}

-- ---- one delta
module _ (node old new : NodeContent) (bytes : List ℕ) (count : ℕ) (sent : IsDeltaSince node 0 bytes) (merges : MergesWhole old bytes count new) where
  -- the slots that were sent are merged
  is_merged : Merged old node.clock sent.slots new
  is_merged = subst (λ (d : DeltaContent). Merged old d.clock d.slots new) (one_delta bytes merges.delta (record { clock = node.clock; slots = sent.slots }) merges.spelled sent.spelled) merges.merged

  pub passed_clock : new.clock ≡ max old.clock node.clock
  passed_clock = is_merged.clock_is

  -- where the node has counted all, all is sent
  pub passed_state : IsCounted node → new.table.state ≡ state_join old.table.state node.table.state
  passed_state counted =
      is_merged.state
      ∙ deltas_bring node 0 sent.slots old.table.state sent.are (λ e slot there stayed. absurd (stayed (counted e (subst (λ (o : Option Slot). IsSome o) (sym there) refl))))

-- ---- both ways
joined_again : (a b : State) → state_join a (state_join b a) ≡ state_join a b
joined_again a b =
    let laws = state_laws in
    laws.antisymmetric _ _
    (laws.least a (state_join b a) (state_join a b) (laws.above_left a b) (laws.least b a (state_join a b) (laws.above_right a b) (laws.above_left a b)))
    (laws.least a b (state_join a (state_join b a)) (laws.above_left a (state_join b a)) (laws.transitive _ _ _ (laws.above_left b a) (laws.above_right a (state_join b a))))

joined_other : (a b : State) → state_join b a ≡ state_join a b
joined_other a b =
    let laws = state_laws in
    laws.antisymmetric _ _
    (laws.least b a (state_join a b) (laws.above_right a b) (laws.above_left a b))
    (laws.least a b (state_join b a) (laws.above_right b a) (laws.above_left b a))

clock_again : (a b after last : ℕ) → after ≡ max b a → last ≡ max a after → last ≡ max a b
clock_again a b after last is then = omega (arith, is, then)

clock_other : (a b after : ℕ) → after ≡ max b a → after ≡ max a b
clock_other a b after is = omega (arith, is)

-- one has passed all to other, and other then all to one
module _ (one other after last : NodeContent) (clock : after.clock ≡ max other.clock one.clock) (state : after.table.state ≡ state_join other.table.state one.table.state) where
  pub other_knows : KnowsBoth one other after
  other_knows = record { clock = clock_other one.clock other.clock after.clock clock; state = state ∙ joined_other one.table.state other.table.state }

  pub one_knows : last.clock ≡ max one.clock after.clock → last.table.state ≡ state_join one.table.state after.table.state → KnowsBoth one other last
  one_knows then joins = record {
    clock = clock_again one.clock other.clock after.clock last.clock clock then;
    state = joins ∙ ap (state_join one.table.state) state ∙ joined_again one.table.state other.table.state;
  }

-- ---- equal answers
-- at one set of marks, whatever node
at_other : (node other : NodeContent) (M : Marks) (now : ℕ) (question : Question) → question ≢ questions.Change → (answer : Answer) → Answers node M now question answer → Answers other M now question answer
at_other node other M now (questions.ById id) unlike (answers.Registration found) h = h
at_other node other M now (questions.ByEndpoint endpoint) unlike (answers.Registration found) h = h
at_other node other M now (questions.ByAddress address) unlike (answers.Registration found) h = h
at_other node other M now (questions.ByToken token) unlike (answers.Watched found) h = h
at_other node other M now (questions.WatchAfter id after) unlike (answers.Watched found) h = h
at_other node other M now (questions.FirstAfter after) unlike (answers.Registration found) h = h
at_other node other M now (questions.ExpiredAfter after) unlike (answers.Expired found) h = h
at_other node other M now questions.Change unlike (answers.Changed number) h = absurd (unlike refl)
at_other node other M now _ unlike _ h = absurd h

one_way : (one other : NodeContent) → one.table.state ≡ other.table.state → (now : ℕ) (question : Question) → question ≢ questions.Change → (answer : Answer)
    → Answers one (shown_in one.table.state) now question answer → Answers other (shown_in other.table.state) now question answer
one_way one other same now question unlike answer h =
    subst (λ (s : State). Answers other (shown_in s) now question answer) same (at_other one other (shown_in one.table.state) now question unlike answer h)

pub alike : (one other : NodeContent) → one.table.state ≡ other.table.state → AnswerAlike one other
alike one other same now question unlike answer = (one_way one other same now question unlike answer, one_way other one (sym same) now question unlike answer)

-- ---- where both have answered Ok
pub on_ok : {A E : Type 0} {P Q : Type 0} (r : Result A E) → (P → Q) → OnOk r P → OnOk r Q
on_ok (Ok a) f h = f h
on_ok (Err e) f h = tt

pub on_ok2 : {A E : Type 0} {P Q S : Type 0} (r : Result A E) → (P → Q → S) → OnOk r P → OnOk r Q → OnOk r S
on_ok2 (Ok a) f h g = f h g
on_ok2 (Err e) f h g = tt
