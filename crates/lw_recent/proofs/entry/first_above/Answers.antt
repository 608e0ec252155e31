use Rattle.std.proofs.Common.{◌≡◌, ◌≤◌, ◌<◌, inl, inr, ℕ, rules, arith, leb, leb-true, leb-false, true, false, None, Some, get_or, sym, subst, ap, ◌∙◌}
use Rattle.std.specs.Option.{option_map}
use Rattle.std.specs.List.Sorted.{IsPartitionPoint}
use Rattle.std.proofs.lemmas.Bool.{cases_lt}
use Rattle.std.proofs.lemmas.List.Sorted.{IsPartitionPoint-from_clause, IsPartitionedBy-leb}
use Rattle.lw_recent.specs.declared.entry.Entry.{Entry}
use Rattle.lw_recent.specs.Entries.{number_of, shown}
use Rattle.lw_recent.specs.inner.Entries.{shown_at}
use Rattle.lw_recent.proofs.EntryLemmas.{at_pairs, pairs_at, shown_number, shown_there}
use Rattle.lw_recent.proofs.entry.first_above.Goals as goal

-- what stands where nothing is
abbrev hole : Entry
hole = record { number = 0; place = None }

pub loop-index-init : goal.loop-index-init
loop-index-init c =
    let xs = c.args.entries.now in
    let d = hole in
    let point : IsPartitionPoint (λ (y : Entry). leb y.number c.args.number ≡ true) (λ y. leb y.number c.args.number ≡ false) xs c.partition_point-start.result =
    IsPartitionPoint-from_clause (λ p. leb p.number c.args.number) _ _ c.partition_point-start.ensures.partitioned (IsPartitionedBy-leb number_of xs c.args.number c.requires) (λ a r q k. search rules) in
    record {
      before = λ k n e lt h.
          let low = leb-true _ _ (point.0 k d (omega arith) lt) in
          let is = shown_number xs k n e d h in omega (arith, low, is);
      rest = λ k d le lt. leb-false _ _ (point.1 k d le lt);
    }

pub loop-index-preserved : goal.loop-index-preserved
loop-index-preserved c = record {
  before = λ k n e lt h. elim (cases_lt k c.loop-index.index) [
    | inl before ↦ c.loop-index.invariant.before k n e before h
    | inr after ↦
        let here : k ≡ c.loop-index.index = omega (arith, lt, after) in
        let x = get_or c.args.entries.now c.loop-index.index hole in
        let read = shown_there c.args.entries.now c.loop-index.index hole c.loop-index-test.true in
        let none : shown x ≡ None = ap (option_map (λ (p : ℕ). (x.number, p))) c.in_default.is in
        let some = subst (λ i. shown_at c.args.entries.now i ≡ Some (n, e)) here h in absurd (let bad : None ≡ Some (n, e) = sym none ∙ sym read ∙ some in cc)
  ];
  rest = λ k d le lt. c.loop-index.invariant.rest k d (omega (arith, le)) lt;
}

pub returns-in-Some : goal.returns-in-Some
returns-in-Some c =
    let xs = c.args.entries.now in
    let index = c.loop-index.index in
    let x = get_or xs index hole in
    let here : shown_at xs index ≡ Some (x.number, c.in-Some.place) =
    shown_there xs index hole c.loop-index-test.true ∙ ap (option_map (λ (p : ℕ). (x.number, p))) c.in-Some.is in (
      pairs_at xs index (x.number, c.in-Some.place) here,
      c.loop-index.invariant.rest index hole (omega arith) c.loop-index-test.true,
      λ n e h less.
          let w = at_pairs xs (n, e) h in
          elim (cases_lt w.0 index) [
            | inl before ↦ absurd (let low = c.loop-index.invariant.before w.0 n e before w.2 in omega (arith, low, less))
            | inr after ↦
                let up = c.requires index w.0 hole after w.1 in
                let is = shown_number xs w.0 n e hole w.2 in omega (arith, up, is)
          ],
    )

pub returns : goal.returns
returns c = λ n e h.
    let w = at_pairs c.args.entries.now (n, e) h in
    c.loop-index.invariant.before w.0 n e (omega (arith, w.1, c.loop-index-test.false)) w.2
