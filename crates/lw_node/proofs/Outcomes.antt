-- What a command or a sweep gives, and what it leaves, of what it was to do.
use Rattle.std.proofs.Common.{◌≡◌, ℕ, ◌↔◌, Option, Some, None, Ok, Err, inl, inr, refl, arith}
use Rattle.std.specs.Prelude.{List, Result, IsErr}
use Rattle.lw_stamp.specs.declared.stamp.Stamp.{Stamp}
use Rattle.lw_reg.specs.declared.op.Op.{Op}
use Rattle.lw_reg.specs.declared.op.What.TheVariants as whats
use Rattle.lw_reg.specs.declared.path.Path.{Path}
use Rattle.lw_reg.specs.declared.watch.Watch.{Watch}
use Rattle.lw_reg.specs.Marks.{Marks}
use Rattle.lw_reg.specs.Reading.{shown_in}
use Rattle.lw_reg.specs.Registration.{Registration}
use Rattle.lw_table.specs.Answers.{IsFirstAnswer}
use Rattle.lw_table.specs.LookUps.{ById, ByToken, ExpiredAfter, IsExpiredAfter, named_by}
use Rattle.lw_call.specs.declared.clock_end.ClockEnd.{ClockEnd as NoStamp}
use Rattle.lw_call.specs.declared.observe_fault.ObserveFault.{ObserveFault}
use Rattle.lw_call.specs.declared.observe_fault.ObserveFault.TheVariants as faults
use Rattle.lw_call.specs.Contents.{OutgoingContent}
use Rattle.lw_node.specs.Calls.{Sent, Swept, TakesSo, Observes, Cancels, issuer_at}
use Rattle.lw_node.specs.inner.Calls.{DecisionContent, Decides}
use Rattle.lw_node.specs.Effects.{Issuer, Effect, Request, Refused, IsAtEnd, CommandMeans, SweepMeans, SweepsFirst, observes, ends}
use Rattle.lw_node.specs.Effects.Refused.{NotFound, ClockEnd}
use Rattle.lw_node.specs.Node.{NodeContent, Leaves}

abbrev pub Outcome : Type 0
Outcome = Result OutgoingContent ObserveFault

-- ---- which refusal it is
module _ {X : Type 0} (place : Issuer) (Found : Option X → Type 0) (apart : Found None → (x : X) → ¬ Found (Some x)) (of_found : X → Registration) (Do : X → Op → Type 0) (sends : X → Op → Request) where
  abbrev Meant : Result (Request × Op) Refused → Type 0
  Meant outcome = (found : Option X) × Found found × CommandMeans place found of_found Do sends outcome

  none_found : Meant (Err NotFound) → Found None
  none_found h = go h.0 h.1 h.2
    where
      go : (found : Option X) → Found found → CommandMeans place found of_found Do sends (Err NotFound) → Found None
      go None by means = by
      go (Some x) by (inl means) = absurd (let e = means.1 in cc)
      go (Some x) by (inr means) = absurd (let e = means.4 in cc)

  at_end : Meant (Err ClockEnd) → IsAtEnd place × ((x : X) × Found (Some x))
  at_end h = go h.0 h.1 h.2
    where
      go : (found : Option X) → Found found → CommandMeans place found of_found Do sends (Err ClockEnd) → IsAtEnd place × ((x : X) × Found (Some x))
      go None by means = absurd cc
      go (Some x) by (inl means) = (means.0, (x, by))
      go (Some x) by (inr means) = absurd (let e = means.4 in cc)

  going_on : (p : Request × Op) → Meant (Ok p) → ((x : X) × Found (Some x)) × ¬ IsAtEnd place
  going_on p h = go h.0 h.1 h.2
    where
      go : (found : Option X) → Found found → CommandMeans place found of_found Do sends (Ok p) → ((x : X) × Found (Some x)) × ¬ IsAtEnd place
      go None by means = absurd cc
      go (Some x) by (inl means) = absurd (let e = means.1 in cc)
      go (Some x) by (inr means) = ((x, by), λ end. (let next = means.1.counter in let range = means.0.stamp.in_range in omega (arith, next, range, end)))

  module _ (old new : NodeContent) where
    pub sent_none : (r : Outcome) → Sent Meant (λ operation. Leaves old operation new) r → (r ≡ Err faults.NotFound) ↔ Found None
    sent_none (Ok o) h = (λ e. absurd cc, λ none. (let x = (going_on (h.request, h.operation) h.meant).0 in absurd (apart none x.0 x.1)))
    sent_none (Err faults.NotFound) h = (λ e. none_found h.0, λ none. refl)
    sent_none (Err faults.ClockEnd) h = (λ e. absurd cc, λ none. (let x = (at_end h.0).1 in absurd (apart none x.0 x.1)))
    sent_none (Err faults.NoMemory) h = (λ e. absurd cc, λ none. (let x = (going_on (h.0.0, h.0.1) h.0.2).0 in absurd (apart none x.0 x.1)))

    pub sent_end : (r : Outcome) → Sent Meant (λ operation. Leaves old operation new) r → (r ≡ Err faults.ClockEnd) ↔ (IsAtEnd place × ((x : X) × Found (Some x)))
    sent_end (Ok o) h = (λ e. absurd cc, λ p. absurd ((going_on (h.request, h.operation) h.meant).1 p.0))
    sent_end (Err faults.NotFound) h = (λ e. absurd cc, λ p. absurd (apart (none_found h.0) p.1.0 p.1.1))
    sent_end (Err faults.ClockEnd) h = (λ e. at_end h.0, λ p. refl)
    sent_end (Err faults.NoMemory) h = (λ e. absurd cc, λ p. absurd ((going_on (h.0.0, h.0.1) h.0.2).1 p.0))

pub id_apart : (M : Marks) (now : ℕ) (id : Stamp) → ById M now id None → (r : Registration) → ¬ ById M now id (Some r)
id_apart M now id none r some = none r some.fits

pub token_apart : (M : Marks) (now : ℕ) (token : Stamp) → ByToken M now token None → (x : Registration × Watch) → ¬ ByToken M now token (Some x)
token_apart M now token none x some = none x some.fits

-- ---- of an observation
module _ (old new : NodeContent) (now : ℕ) (id : Stamp) (path : Path) (accept : Option ℕ) (mid : ℕ) (r : Outcome) (sent : Observes old (shown_in old.table.state) now id path accept mid r new) where
  pub observe_not_found : (r ≡ Err faults.NotFound) ↔ ById (shown_in old.table.state) now id None
  observe_not_found = sent_none (issuer_at old now) (ById (shown_in old.table.state) now id) (id_apart (shown_in old.table.state) now id) (λ r. r) (λ r op. op.what ≡ whats.Observe path accept) (observes mid path accept) old new r sent

  pub observe_at_end : (r ≡ Err faults.ClockEnd) ↔ (IsAtEnd (issuer_at old now) × ((r : Registration) × ById (shown_in old.table.state) now id (Some r)))
  observe_at_end = sent_end (issuer_at old now) (ById (shown_in old.table.state) now id) (id_apart (shown_in old.table.state) now id) (λ r. r) (λ r op. op.what ≡ whats.Observe path accept) (observes mid path accept) old new r sent

-- ---- of its end
module _ (old new : NodeContent) (now : ℕ) (token : Stamp) (mid : ℕ) (r : Outcome) (sent : Cancels old (shown_in old.table.state) now token mid r new) where
  pub cancel_not_found : (r ≡ Err faults.NotFound) ↔ ByToken (shown_in old.table.state) now token None
  cancel_not_found = sent_none (issuer_at old now) (ByToken (shown_in old.table.state) now token) (token_apart (shown_in old.table.state) now token) (λ x. x.0) (λ x op. op.what ≡ whats.Cancel x.1.path x.1.token) (ends mid) old new r sent

  pub cancel_at_end : (r ≡ Err faults.ClockEnd) ↔ (IsAtEnd (issuer_at old now) × ((x : Registration × Watch) × ByToken (shown_in old.table.state) now token (Some x)))
  cancel_at_end = sent_end (issuer_at old now) (ByToken (shown_in old.table.state) now token) (token_apart (shown_in old.table.state) now token) (λ x. x.0) (λ x op. op.what ≡ whats.Cancel x.1.path x.1.token) (ends mid) old new r sent

-- ---- of a sweep
module _ (place : Issuer) (M : Marks) (After : Option Op → Type 0) where
  abbrev Found : Option Registration → Type 0
  Found = IsFirstAnswer (IsExpiredAfter M place.now None)

  abbrev SomeExpired : Type 0
  SomeExpired = (x : List ℕ × Stamp) × ExpiredAfter M place.now None (Some x)

  none_expired : SweepMeans place M (Ok None) → ExpiredAfter M place.now None None
  none_expired h = go h.0 h.1 h.2
    where
      go : (found : Option Registration) → Found found → SweepsFirst place M found (Ok None) → ExpiredAfter M place.now None None
      go None by means = by
      go (Some r) by (inl means) = absurd (let e = means.1 in cc)
      go (Some r) by (inr means) = absurd (let e = means.3 in cc)

  expired_at_end : SweepMeans place M (Err ClockEnd) → IsAtEnd place × SomeExpired
  expired_at_end h = go h.0 h.1 h.2
    where
      go : (found : Option Registration) → Found found → SweepsFirst place M found (Err ClockEnd) → IsAtEnd place × SomeExpired
      go None by means = absurd cc
      go (Some r) by (inl means) = (means.0, (named_by r, (r, by, refl)))
      go (Some r) by (inr means) = absurd (let e = means.3 in cc)

  expired_before : (op : Op) → SweepMeans place M (Ok (Some op)) → SomeExpired × ¬ IsAtEnd place
  expired_before op h = go h.0 h.1 h.2
    where
      go : (found : Option Registration) → Found found → SweepsFirst place M found (Ok (Some op)) → SomeExpired × ¬ IsAtEnd place
      go None by means = absurd cc
      go (Some r) by (inl means) = absurd (let e = means.1 in cc)
      go (Some r) by (inr means) = ((named_by r, (r, by, refl)), λ end. (let next = means.1.counter in let range = means.0.stamp.in_range in omega (arith, next, range, end)))

  not_both : ExpiredAfter M place.now None None → SomeExpired → ⊥
  not_both none some = none some.1.0 some.1.1.fits

  pub swept_none : (r : Result (Option Stamp) NoStamp) → Swept (SweepMeans place M) After r → (r ≡ Ok None) ↔ ExpiredAfter M place.now None None
  swept_none (Ok None) h = (λ e. none_expired h.0, λ none. refl)
  swept_none (Ok (Some id)) h = (λ e. absurd cc, λ none. absurd (not_both none (expired_before h.0 h.1).0))
  swept_none (Err ended) h = (λ e. absurd cc, λ none. absurd (not_both none (expired_at_end h.0).1))

  pub swept_end : (r : Result (Option Stamp) NoStamp) → Swept (SweepMeans place M) After r → IsErr r ↔ (IsAtEnd place × ((x : List ℕ × Stamp) × ExpiredAfter M place.now None (Some x)))
  swept_end (Ok None) h = (λ e. absurd cc, λ p. absurd (not_both (none_expired h.0) p.1))
  swept_end (Ok (Some id)) h = (λ e. absurd cc, λ p. absurd ((expired_before h.0 h.1).1 p.0))
  swept_end (Err ended) h = (λ e. expired_at_end h.0, λ p. refl)

-- what is given for a datagram, and what it leaves, is what was decided
pub taken_so : (Meant : Effect → Type 0) (old new : NodeContent) (d : DecisionContent) → Decides Meant d → Leaves old d.operation new → TakesSo Meant (λ operation. Leaves old operation new) (record { reply = d.reply; notice = d.notice })
taken_so Meant old new d h left = record { reply = h.reply; operation = d.operation; meant = h.meant; replied = h.replied; left = left }
