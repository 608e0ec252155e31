use Rattle.std.proofs.Common.{◌≡◌, ℕ, ◌≤◌, List, Option, Bool, false, sym, ap, ◌∙◌, subst}
use Rattle.lw_node.specs.Node.{NodeContent, fresh}
use Rattle.lw_log.specs.declared.start.Start.{Start}
use Rattle.lw_replica.specs.Reading.{AreReadToTheEnd, last_read, IsFree, IsMet, MergesEntries, entries_in}
use Rattle.lw_replica.specs.Beginning.{IsFirstFree}
use Rattle.lw_replica.specs.Clocks.{IsYearsAhead}
use Rattle.lw_replica.specs.Counting.{CountsEntries}
use Rattle.lw_replica.specs.Parts.{used_numbers_of}
use Rattle.lw_replica.specs.inner.Taking.{IsJudged}
use Rattle.lw_replica.specs.inner.ReplicaState.{counted_in, fleet_told_in}
use Rattle.lw_replica.specs.Fleets.{TellFleets}
use Rattle.lw_replica.proofs.Asking.{calls_then}
use Rattle.lw_replica.proofs.Beginnings.{not_refused}
use Rattle.lw_replica.proofs.Numbering.{first_free_met, noted_new}
use Rattle.lw_replica.proofs.replica.Replica.begin.Goals as goal

pub invariant_of-result : goal.invariant_of-result
invariant_of-result g c = c.catch_up.ensures.replica (c.in_ok-state.ensures.replica _)

pub returns-clause-begun : goal.returns-clause-begun
returns-clause-begun g c =
    let found = c.in_ok-found.ensures.found in
    let read = c.in_ok-catch_up.ensures.read in
    let s = c.in_ok-state.state in
    let s1 = c.catch_up.new.state in
    let same = c.catch_up.ensures.same in
    let new = c.in_ok-state.ensures.new in
    let m = c.catch_up.ensures.replica (c.in_ok-state.ensures.replica _) in
    let number : s.start.number ≡ s1.node.number = ap (λ (x : Start). x.number) (sym same.start) ∙ m.number in
    let judged = subst (λ o. IsJudged s.claimed s.start.number s.start.tag (entries_in read.0) o) c.if-branch.false read.4 in
    let free : IsFree s.start.number (entries_in read.0) = subst (λ b. IsJudged b s.start.number s.start.tag (entries_in read.0) false) new.unclaimed judged in
    let start = new.start_is in
    record {
      looked = found.0;
      pages = read.0;
      asked = calls_then _ _ _ found.0 read.0 found.1 read.1;
      found = found.2;
      uncut = found.3;
      read = subst (λ p. AreReadToTheEnd p read.0) new.unread read.2;
      read_to = read.5 ∙ ap (λ p. last_read p read.0) new.unread;
      good = read.3.good;
      told = subst (λ (t : Bool × Option (List ℕ)). TellFleets t (entries_in read.0) (fleet_told_in s1)) new.told read.3.told;
      free = subst (λ n. IsFree n (entries_in read.0)) number free;
      number = subst (λ n. 1 ≤ n) (ap (λ (x : Start). x.number) (sym start) ∙ number) c.in-Some.ensures.found.within.0;
      first_free = subst (λ n. IsFirstFree (λ m. IsMet m (entries_in found.0)) c.args.randomness.now.number n) (ap (λ (x : Start). x.number) (sym start) ∙ number)
          (first_free_met c.in_ok-found.found.used_numbers.bytes.value (entries_in found.0) c.args.randomness.now.number c.in-Some.number found.4.used_numbers c.in-Some.ensures.found);
      used_numbers = noted_new (used_numbers_of s) (used_numbers_of s1) (entries_in read.0) new.used_numbers
          read.3.used_numbers;
      counted = subst (λ (n : ℕ × ℕ). CountsEntries n (entries_in read.0) (counted_in s1)) new.counted read.3.counted;
      merged = subst (λ (n : NodeContent). MergesEntries n (entries_in read.0) s1.node) (new.node ∙ ap fresh (ap (λ (x : Start). x.number) (sym start) ∙ number)) read.3.merged;
      clock = not_refused c.args.moment s1.node.clock (λ h. let bad = c.if-is_past_2100.ensures.1 h in cc)
          (λ h. let bad = c.if-is_years_ahead.ensures.1 (subst (λ n. IsYearsAhead c.args.moment n) (sym c.clock.ensures.value) h) in cc);
      tag_is = ap (λ (x : Start). x.tag) (same.start ∙ start);
      floor_is = same.floor ∙ new.floor_is ∙ c.floor_at.ensures.value;
      sequence = read.3.sequence ∙ new.sequence_is ∙ c.sequence.ensures (entries_in found.0) found.4;
      unclaimed = same.claimed ∙ new.unclaimed;
      all = read.3.durable ∙ new.durable;
      durable = m.covering.written.whole (read.3.durable ∙ new.durable);
    }

pub returns-clause-alone : goal.returns-clause-alone
returns-clause-alone g c = λ h. c.is_alone.ensures (sym (c.catch_up.ensures.same.alone ∙ c.in_ok-state.ensures.new.alone_is) ∙ h)
