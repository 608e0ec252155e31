-- Sets of marks that one state tells of have the same answers, and so have nodes that the same operations reached.
use Rattle.std.proofs.Common.{◌≡◌, ℕ, List, [], ◌∷◌, Option, Some, None, refl, sym, ◌∙◌, subst, inl, inr, ◌⊎◌}
use Rattle.std.specs.Prelude.{◌↔◌, ◌≢◌, Contains}
use Rattle.std.specs.FinMap.{get}
use Rattle.std.proofs.lemmas.List.Elements.{Contains-append_left, Contains-append_right, Contains-append_cases}
use Rattle.std.specs.declared.cmp.Ordering.{Ordering}
use Rattle.lw_stamp.specs.declared.moment.Moment.{Moment}
use Rattle.lw_stamp.specs.declared.stamp.Stamp.{Stamp}
use Rattle.lw_join.specs.inner.Facets.{OptionTells}
use Rattle.lw_join.specs.Lww.{write_cmp}
use Rattle.lw_join.specs.LwwLaws.{write_order}
use Rattle.lw_join.specs.declared.or_gone.OrGone.{OrGone}
use Rattle.lw_join.specs.declared.or_gone.OrGone.TheVariants.{Here, Gone}
use Rattle.lw_join.proofs.FacetLemmas.{greatest_one}
use Rattle.lw_stamp.specs.Order.{IsExactOrder, IsGreatest}
use Rattle.lw_reg.specs.declared.addr.Addr.{Addr}
use Rattle.lw_reg.specs.declared.body.Body.{Body}
use Rattle.lw_reg.specs.declared.op.Op.{Op}
use Rattle.lw_reg.specs.declared.path.Path.{Path}
use Rattle.lw_reg.specs.declared.slot.Slot.{Slot}
use Rattle.lw_reg.specs.declared.watch.Watch.{Watch}
use Rattle.lw_reg.specs.Marks.{Trace, Mark, Marks, Has, NamesAll, among, marks_of, all_marks, left_by}
use Rattle.lw_reg.specs.Marks.Trace.{Named, AddressAt, SeenAt, Removed}
use Rattle.lw_reg.specs.OrderLaws.{addr_order, moment_order}
use Rattle.lw_reg.specs.Orders.{addr_cmp, moment_cmp}
use Rattle.lw_reg.specs.Reading.{registered_in, stamp_of}
use Rattle.lw_reg.specs.Registration.{Registration}
use Rattle.lw_reg.specs.Showing.{IsWrite, IsRegistered, IsShown, IsExpired, IsLive, IsAnswer, LivesOf, ShownOf, IsFirstOfWatches}
use Rattle.lw_reg.specs.State.{State, IsStateOf}
use Rattle.lw_reg.proofs.Members.{none_there, first_there, more_there, there_or_first}
use Rattle.lw_reg.proofs.Operations.{all_names}
use Rattle.lw_reg.proofs.Readings.{shown_from, shown_to}
use Rattle.lw_reg.proofs.Same.{told_same, members_decide}
use Rattle.lw_reg.proofs.States.{state_least, state_same}
use Rattle.lw_reg.proofs.Tells.{SlotTells, Tells, ToldTells, Holds}
use Rattle.lw_table.specs.Answers.{IsFirstAnswer, FirstAfter}
use Rattle.lw_table.specs.LookUps.{ById, IsHolder, ByAddress, HasToken, ByToken, WatchOfIdAfter, IsExpiredAfter, ExpiredAfter}
use Rattle.lw_table.proofs.LookUpLemmas.{registered_keeps, view_reads, marks_tell}
use Rattle.lw_call.specs.declared.answer.Answer.{Answer}
use Rattle.lw_call.specs.declared.answer.Answer.TheVariants as answers
use Rattle.lw_call.specs.declared.question.Question.{Question}
use Rattle.lw_call.specs.declared.question.Question.TheVariants as questions
use Rattle.lw_node.specs.Node.{NodeContent}
use Rattle.lw_node.specs.Steps.{Answers}
use Rattle.lw_node.proofs.OneAnswer.{answer_one}
use Rattle.lw_world.specs.Known.{known_state, node_of}
use Rattle.lw_world.specs.Laws.{KnownStatesAreLeast, StatesDecideAnswers, SameSetsAnswerAlike}

-- ---- sets that one state tells of
-- the write of a field that counts in one counts in the other
write_along : {V : Type 0} {cmp : V → V → Ordering} → IsExactOrder cmp → (P Q : Stamp × V → Type 0) (o : Option (Stamp × V)) → OptionTells (IsGreatest (write_cmp cmp)) P o → OptionTells (IsGreatest (write_cmp cmp)) Q o
    → (w : Stamp × V) → IsGreatest (write_cmp cmp) P w → IsGreatest (write_cmp cmp) Q w
write_along order P Q None gives has w is = absurd (gives w is.member)
write_along {cmp = cmp} order P Q (Some v) gives has w is = subst (IsGreatest (write_cmp cmp) Q) (greatest_one (write_order order) P v w gives is) has

-- the writes of address and moment that count are the same
record SameWrites (P Q : Trace → Type 0) : Type 0 where
  address : (w : Stamp × Addr) → IsGreatest (write_cmp addr_cmp) (λ v. P (AddressAt v.0 v.1)) w → IsGreatest (write_cmp addr_cmp) (λ v. Q (AddressAt v.0 v.1)) w
  seen : (w : Stamp × Moment) → IsGreatest (write_cmp moment_cmp) (λ v. P (SeenAt v.0 v.1)) w → IsGreatest (write_cmp moment_cmp) (λ v. Q (SeenAt v.0 v.1)) w

same_writes : (P Q : Trace → Type 0) (x : OrGone Body) → ¬ P Removed → ToldTells P x → ToldTells Q x → SameWrites P Q
same_writes P Q Gone kept gives has = absurd (kept gives)
same_writes P Q (Here b) kept gives has = record {
  address = write_along addr_order (λ v. P (AddressAt v.0 v.1)) (λ v. Q (AddressAt v.0 v.1)) b.address.write gives.1.address has.1.address;
  seen = write_along moment_order (λ v. P (SeenAt v.0 v.1)) (λ v. Q (SeenAt v.0 v.1)) b.seen.write gives.1.seen has.1.seen;
}

module _ (M N : Marks) (p : NamesAll M) (q : NamesAll N) (s : State) (g : Tells (Holds M) s) (h : Tells (Holds N) s) where
  abbrev At : Marks → List ℕ → Option Slot → Type 0
  At K e = OptionTells SlotTells (λ y. Has K e y.0 y.1)

  -- what a slot says of a registration that one set has: the other has it too, and the same writes of its address and
  -- of when it was seen
  pub record Along (r : Registration) : Type 0 where
    pub registered : IsRegistered N r
    pub written : (at : Stamp) → IsWrite addr_cmp AddressAt M r.endpoint r.id (at, r.address) → IsWrite addr_cmp AddressAt N r.endpoint r.id (at, r.address)
    pub seen_written : (at : Stamp) → IsWrite moment_cmp SeenAt M r.endpoint r.id (at, r.seen) → IsWrite moment_cmp SeenAt N r.endpoint r.id (at, r.seen)

  by_slot : (r : Registration) (slot : Slot) → SlotTells (λ y. Has M r.endpoint y.0 y.1) slot → SlotTells (λ y. Has N r.endpoint y.0 y.1) slot → IsRegistered M r → Along r
  by_slot r slot gives has registered = record {
    registered = (shown_from N r.endpoint (q r.endpoint) (stamp_of slot) slot.registration.value r has found).1;
    written = λ at. writes.address (at, r.address);
    seen_written = λ at. writes.seen (at, r.seen);
  }
    where
      found : registered_in r.endpoint slot ≡ Some r
      found = shown_to M r.endpoint (p r.endpoint) (stamp_of slot) slot.registration.value r gives refl registered

      told : (K : Marks) → SlotTells (λ y. Has K r.endpoint y.0 y.1) slot → ToldTells (Has K r.endpoint r.id) slot.registration.value
      told K tells = subst (λ id. ToldTells (Has K r.endpoint id) slot.registration.value) (registered_keeps r.endpoint slot r found).id tells.told

      writes : SameWrites (Has M r.endpoint r.id) (Has N r.endpoint r.id)
      writes = same_writes (Has M r.endpoint r.id) (Has N r.endpoint r.id) slot.registration.value registered.kept (told M gives) (told N has)

  along : (r : Registration) → IsRegistered M r → Along r
  along r registered = go (get s r.endpoint) (g r.endpoint) (h r.endpoint)
    where
      go : (o : Option Slot) → At M r.endpoint o → At N r.endpoint o → Along r
      go None none has = absurd (none (r.id, Named) registered.complete.current.member)
      go (Some slot) gives has = by_slot r slot gives has registered

  module _ (now : ℕ) where
    shown_along : (r : Registration) → IsShown M now r → IsShown N now r
    shown_along r shown = record { registered = (along r shown.registered).registered; in_time = shown.in_time }

    expired_along : (r : Registration) → IsExpired M now r → IsExpired N now r
    expired_along r expired = record { registered = (along r expired.registered).registered; late = expired.late }

    sees_along : (at : Stamp) (r : Registration) → IsExpired M now r × IsWrite moment_cmp SeenAt M r.endpoint r.id (at, r.seen) → IsExpired N now r × IsWrite moment_cmp SeenAt N r.endpoint r.id (at, r.seen)
    sees_along at r x = (expired_along r x.0, (along r x.0.registered).seen_written at x.1)

    -- one registration of an endpoint is shown
    one_shown : (r other : Registration) → IsShown N now r → IsShown N now other → other.endpoint ≡ r.endpoint → other ≡ r
    one_shown r other shown there same =
        let both : Some other ≡ Some r = sym ((view_reads N q s h now r.endpoint other).1 (same, there)) ∙ (view_reads N q s h now r.endpoint r).1 (refl, shown) in
        cc

    lives_along : (r : Registration) (w : Watch) → IsLive M now r w → IsLive N now r w
    lives_along r w live =
        let x = ((told_same M N p q s g h).live now r.endpoint w).0 (r, refl, live) in
        subst (λ v. IsLive N now v w) (one_shown r x.0 (shown_along r live.shown) x.2.shown x.1) x.2

    holds_along : (address : Addr) (at : Stamp) (r : Registration) → IsHolder M now address at r → IsHolder N now address at r
    holds_along address at r holds = record {
      shown = shown_along r holds.shown;
      held = holds.held;
      written = subst (λ a. IsWrite addr_cmp AddressAt N r.endpoint r.id (at, a)) holds.held
          ((along r holds.shown.registered).written at (subst (λ a. IsWrite addr_cmp AddressAt M r.endpoint r.id (at, a)) (sym holds.held) holds.written));
    }

-- the sets show the same, and the same has expired, with the same write of when it was seen, lives, and holds an address
pub record Agree (M N : Marks) (now : ℕ) : Type 0 where
  pub shown : (r : Registration) → IsShown M now r ↔ IsShown N now r
  pub expired : (r : Registration) → IsExpired M now r ↔ IsExpired N now r
  pub sees : (at : Stamp) (r : Registration) → (IsExpired M now r × IsWrite moment_cmp SeenAt M r.endpoint r.id (at, r.seen)) ↔ (IsExpired N now r × IsWrite moment_cmp SeenAt N r.endpoint r.id (at, r.seen))
  pub lives : (r : Registration) (w : Watch) → IsLive M now r w ↔ IsLive N now r w
  pub holds : (address : Addr) (at : Stamp) (r : Registration) → IsHolder M now address at r ↔ IsHolder N now address at r

pub told_agree : (M N : Marks) → NamesAll M → NamesAll N → (s : State) → Tells (Holds M) s → Tells (Holds N) s → (now : ℕ) → Agree M N now
told_agree M N p q s g h now = record {
  shown = λ r. (shown_along M N p q s g h now r, shown_along N M q p s h g now r);
  expired = λ r. (expired_along M N p q s g h now r, expired_along N M q p s h g now r);
  sees = λ at r. (sees_along M N p q s g h now at r, sees_along N M q p s h g now at r);
  lives = λ r w. (lives_along M N p q s g h now r w, lives_along N M q p s h g now r w);
  holds = λ address at r. (holds_along M N p q s g h now address at r, holds_along N M q p s h g now address at r);
}

back : {A B : Type 0} → A ↔ B → B ↔ A
back x = (x.1, x.0)

pub other_way : (M N : Marks) (now : ℕ) → Agree M N now → Agree N M now
other_way M N now a = record {
  shown = λ r. back (a.shown r);
  expired = λ r. back (a.expired r);
  sees = λ at r. back (a.sees at r);
  lives = λ r w. back (a.lives r w);
  holds = λ address at r. back (a.holds address at r);
}

-- ---- answers
answer_along : {A : Type 0} (P Q : A → Type 0) → ((x : A) → P x ↔ Q x) → (o : Option A) → IsAnswer P o → IsAnswer Q o
answer_along P Q same None h = λ x y. h x ((same x).1 y)
answer_along P Q same (Some x) h = (same x).0 h

first_along : (P Q : Registration → Type 0) → ((r : Registration) → P r ↔ Q r) → (o : Option Registration) → IsFirstAnswer P o → IsFirstAnswer Q o
first_along P Q same None h = λ r y. h r ((same r).1 y)
first_along P Q same (Some r) h = record { fits = (same r).0 h.fits; first = λ other y. h.first other ((same other).1 y) }

pub id_along : (M N : Marks) (now : ℕ) → Agree M N now → (id : Stamp) (o : Option Registration) → ById M now id o → ById N now id o
id_along M N now a id o = first_along _ _ (λ r. (λ x. ((a.shown r).0 x.0, x.1), λ x. ((a.shown r).1 x.0, x.1))) o

module _ (M N : Marks) (now : ℕ) (a : Agree M N now) where
  endpoint_along : (e : List ℕ) (o : Option Registration) → ShownOf M now e o → ShownOf N now e o
  endpoint_along e o = answer_along _ _ (λ r. (λ x. (x.0, (a.shown r).0 x.1), λ x. (x.0, (a.shown r).1 x.1))) o

  address_along : (address : Addr) (o : Option Registration) → ByAddress M now address o → ByAddress N now address o
  address_along address None h = λ at r y. h at r ((a.holds address at r).1 y)
  address_along address (Some r) h = record {
    at = h.at;
    holds = (a.holds address h.at r).0 h.holds;
    latest = λ at other y. h.latest at other ((a.holds address at other).1 y);
    first = λ other y. h.first other ((a.holds address h.at other).1 y);
  }

  has_back : (token : Stamp) (x : Registration × Watch) → HasToken N now token x → HasToken M now token x
  has_back token x h = record { lives = (a.lives x.0 x.1).1 h.lives; token_is = h.token_is }

  pub token_along : (token : Stamp) (o : Option (Registration × Watch)) → ByToken M now token o → ByToken N now token o
  token_along token None h = λ x y. h x (has_back token x y)
  token_along token (Some x) h = record {
    fits = record { lives = (a.lives x.0 x.1).0 h.fits.lives; token_is = h.fits.token_is };
    first = λ other y. h.first other (has_back token other y);
    first_path = λ w y. h.first_path w (has_back token (x.0, w) y);
  }

  lives_back : (e : List ℕ) (w : Watch) → LivesOf N now e w → LivesOf M now e w
  lives_back e w x = (x.0, x.1, (a.lives x.0 w).1 x.2)

  watches_along : (e : List ℕ) (Fits : Watch → Type 0) (o : Option Watch) → IsFirstOfWatches M now e Fits o → IsFirstOfWatches N now e Fits o
  watches_along e Fits None h = λ w y. h w (lives_back e w y)
  watches_along e Fits (Some w) h = record {
    lives = (h.lives.0, h.lives.1, (a.lives h.lives.0 w).0 h.lives.2);
    fits = h.fits;
    first = λ v y fits. h.first v (lives_back e v y) fits;
  }

  watch_along : (id : Stamp) (after : Option Path) (o : Option (Registration × Watch)) → WatchOfIdAfter M now id after o → WatchOfIdAfter N now id after o
  watch_along id after None h = λ r y. watches_along r.endpoint _ None (h r (id_along N M now (other_way M N now a) id (Some r) y))
  watch_along id after (Some x) h = (id_along M N now a id (Some x.0) h.0, watches_along x.0.endpoint _ (Some x.1) h.1)

  after_along : (after : Option (List ℕ)) (o : Option Registration) → FirstAfter M now after o → FirstAfter N now after o
  after_along after o = first_along _ _ (λ r. (λ x. (x.0, (a.shown r).0 x.1), λ x. (x.0, (a.shown r).1 x.1))) o

  pub first_late_along : (after : Option (List ℕ)) (o : Option Registration) → IsFirstAnswer (IsExpiredAfter M now after) o → IsFirstAnswer (IsExpiredAfter N now after) o
  first_late_along after = first_along _ _ (λ r. (λ y. (y.0, (a.expired r).0 y.1), λ y. (y.0, (a.expired r).1 y.1)))

  late_along : (after : Option (List ℕ)) (o : Option (List ℕ × Stamp)) → ExpiredAfter M now after o → ExpiredAfter N now after o
  late_along after None h = λ r y. h r (y.0, (a.expired r).1 y.1)
  late_along after (Some x) h = (h.0, first_late_along after (Some h.0) h.1, h.2)

  -- an answer of one node, of which one set tells, is one of the other
  pub answers_along : (node other : NodeContent) (question : Question) (answer : Answer) → (question ≡ questions.Change → node.table.count.change ≡ other.table.count.change)
      → Answers node M now question answer → Answers other N now question answer
  answers_along node other (questions.ById id) (answers.Registration found) change h = id_along M N now a id found h
  answers_along node other (questions.ByEndpoint endpoint) (answers.Registration found) change h = endpoint_along endpoint found h
  answers_along node other (questions.ByAddress address) (answers.Registration found) change h = address_along address found h
  answers_along node other (questions.ByToken token) (answers.Watched found) change h = token_along token found h
  answers_along node other (questions.WatchAfter id after) (answers.Watched found) change h = watch_along id after found h
  answers_along node other (questions.FirstAfter after) (answers.Registration found) change h = after_along after found h
  answers_along node other (questions.ExpiredAfter after) (answers.Expired found) change h = late_along after found h
  answers_along node other questions.Change (answers.Changed number) change h = h ∙ change refl
  answers_along node other _ _ change h = absurd h

answers_agree : (ms ns : List Mark) → NamesAll (among ms) → NamesAll (among ns) → (s : State) → IsStateOf ms s → IsStateOf ns s
    → (node other : NodeContent) (now : ℕ) (question : Question) → (question ≡ questions.Change → node.table.count.change ≡ other.table.count.change)
    → (answer : Answer) → Answers node (among ms) now question answer ↔ Answers other (among ns) now question answer
answers_agree ms ns p q s g h node other now question change answer =
    let agree = told_agree (among ms) (among ns) p q s (marks_tell ms p s g) (marks_tell ns q s h) now in (
      answers_along (among ms) (among ns) now agree node other question answer change,
      answers_along (among ns) (among ms) now (other_way (among ms) (among ns) now agree) other node question answer (λ is. sym (change is)),
    )

-- ---- the laws
pub known_states_are_least : KnownStatesAreLeast
known_states_are_least k = state_least (all_marks k.operations)

pub states_decide_answers : StatesDecideAnswers
states_decide_answers ms ns p q s g h node now question answer = answers_agree ms ns p q s g h node node now question (λ is. refl) answer

-- the marks of an operation are among all, and each of all is of an operation
mark_there : (os : List Op) (o : Op) (m : Mark) → Contains os o → Contains (marks_of o) m → Contains (all_marks os) m
mark_there [] o m there of = none_there o there
mark_there (p ∷ ps) o m there of = go (there_or_first p ps o there) (λ later. mark_there ps o m later of)
  where
    go : (o ≡ p) ⊎ Contains ps o → (Contains ps o → Contains (all_marks ps) m) → Contains (all_marks (p ∷ ps)) m
    go (inl same) more = Contains-append_left (marks_of p) (all_marks ps) m (subst (λ (x : Op). Contains (marks_of x) m) same of)
    go (inr later) more = Contains-append_right (marks_of p) (all_marks ps) m (more later)

mark_from : (os : List Op) (m : Mark) → Contains (all_marks os) m → (o : Op) × Contains os o × Contains (marks_of o) m
mark_from [] m h = none_there m h
mark_from (p ∷ ps) m h = go (Contains-append_cases (marks_of p) (all_marks ps) m h) (mark_from ps m)
  where
    go : Contains (marks_of p) m ⊎ Contains (all_marks ps) m → (Contains (all_marks ps) m → (o : Op) × Contains ps o × Contains (marks_of o) m) → (o : Op) × Contains (p ∷ ps) o × Contains (marks_of o) m
    go (inl here) more = (p, first_there p ps p refl, here)
    go (inr later) more = let x = more later in (x.0, more_there p ps x.0 x.1, x.2)

marks_alike : (os ps : List Op) → ((o : Op) → Contains os o → Contains ps o) → (m : Mark) → Contains (all_marks os) m → Contains (all_marks ps) m
marks_alike os ps into m h = let x = mark_from os m h in mark_there ps x.0 m (into x.0 x.1) x.2

pub same_sets_answer_alike : SameSetsAnswerAlike
same_sets_answer_alike j k same = record {
  state = members_decide (all_marks j.operations) (all_marks k.operations) marks (known_state j.operations) (known_state k.operations) (state_least (all_marks j.operations)) (state_least (all_marks k.operations));
  answers = answers;
  equal = λ now question asked one other h g. answer_one (node_of j) (left_by j.operations) now question one other h ((answers now question asked other).1 g);
}
  where
    marks : (m : Mark) → Contains (all_marks j.operations) m ↔ Contains (all_marks k.operations) m
    marks m = (marks_alike j.operations k.operations (λ o. (same o).0) m, marks_alike k.operations j.operations (λ o. (same o).1) m)

    answers : (now : ℕ) (question : Question) → question ≢ questions.Change → (answer : Answer)
        → Answers (node_of j) (left_by j.operations) now question answer ↔ Answers (node_of k) (left_by k.operations) now question answer
    answers now question asked answer =
        answers_agree (all_marks j.operations) (all_marks k.operations) (all_names j.operations) (all_names k.operations) (known_state j.operations) (state_least (all_marks j.operations))
        (state_same (all_marks j.operations) (all_marks k.operations) marks (known_state j.operations) (state_least (all_marks j.operations))) (node_of j) (node_of k) now question (λ is. absurd (asked is)) answer
