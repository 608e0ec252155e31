use Rattle.std.proofs.Common.{◌≡◌, ◌≤◌, inl, inr, rules, arith, ltb, ltb-true, ltb-false, true, false, Some, None, get_or, sym, subst, ◌∙◌}
use Rattle.std.specs.List.Sorted.{IsPartitionPoint}
use Rattle.std.proofs.lemmas.Bool.{cases_lt}
use Rattle.std.proofs.lemmas.List.Sorted.{IsPartitionPoint-from_clause, IsPartitionedBy-ltb}
use Rattle.lw_recent.specs.declared.entry.Entry.{Entry}
use Rattle.lw_recent.specs.Entries.{number_of}
use Rattle.lw_recent.specs.inner.Entries.{shown_at}
use Rattle.lw_recent.proofs.EntryLemmas.{at_pairs, shown_number, shown_there}
use Rattle.lw_recent.proofs.entry.find.Goals as goal

-- what stands where nothing is
abbrev hole : Entry
hole = record { number = 0; place = None }

pub loop-index-init : goal.loop-index-init
loop-index-init c =
    let xs = c.args.entries.now in
    let d = hole in
    let point : IsPartitionPoint (λ (y : Entry). ltb y.number c.args.number ≡ true) (λ y. ltb y.number c.args.number ≡ false) xs c.partition_point-start.result =
    IsPartitionPoint-from_clause (λ p. ltb p.number c.args.number) _ _ c.partition_point-start.ensures.partitioned (IsPartitionedBy-ltb number_of xs c.args.number c.requires) (λ a r q k. search rules) in
    record {
      before = λ k lt h.
          let below = ltb-true _ _ (point.0 k d (omega arith) lt) in
          let is = shown_number xs k c.args.number c.args.place d h in omega (arith, below, is);
      rest = λ k d le lt. ltb-false _ _ (point.1 k d le lt);
    }

pub returns-then-entry-number-clause-none : goal.returns-then-entry-number-clause-none
returns-then-entry-number-clause-none c = λ h.
    let xs = c.args.entries.now in
    let x = get_or xs c.loop-index.index hole in
    let w = at_pairs xs (c.args.number, c.args.place) h in
    elim (cases_lt w.0 c.loop-index.index) [
      | inl before ↦ c.loop-index.invariant.before w.0 before w.2
      | inr after ↦
          let is = shown_number xs w.0 c.args.number c.args.place hole w.2 in
          let up = c.requires c.loop-index.index w.0 hole after w.1 in
          let low : c.args.number ≤ x.number = c.loop-index.invariant.rest c.loop-index.index hole (omega arith) c.loop-index-test.true in
          let high : x.number ≤ c.args.number = omega (arith, is, up) in
          c.if-entry-number.true (omega (arith, low, high))
    ]

pub returns-then-is-clause-some : goal.returns-then-is-clause-some
returns-then-is-clause-some c =
    shown_there c.args.entries.now c.loop-index.index hole c.loop-index-test.true ∙ c.is.ensures.0 c.if-is.true

pub loop-index-preserved : goal.loop-index-preserved
loop-index-preserved c = record {
  before = λ k lt h. elim (cases_lt k c.loop-index.index) [
    | inl before ↦ c.loop-index.invariant.before k before h
    | inr after ↦
        let here : k ≡ c.loop-index.index = omega (arith, lt, after) in
        let read = shown_there c.args.entries.now c.loop-index.index hole c.loop-index-test.true in
        let yes = c.is.ensures.1 (sym read ∙ subst (λ i. shown_at c.args.entries.now i ≡ Some (c.args.number, c.args.place)) here h) in
        let no = c.if-is.false in absurd cc
  ];
  rest = λ k d le lt. c.loop-index.invariant.rest k d (omega (arith, le)) lt;
}

pub returns-clause-none : goal.returns-clause-none
returns-clause-none c = λ h.
    let w = at_pairs c.args.entries.now (c.args.number, c.args.place) h in
    c.loop-index.invariant.before w.0 (omega (arith, w.1, c.loop-index-test.false)) w.2
