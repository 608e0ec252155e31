use Rattle.std.proofs.Common.{◌≡◌, rules, arith, true, false, leb, leb-true, leb-false, inl, inr, insert, length, Some, refl, ap, sym, subst}
use Rattle.std.specs.List.Sorted.{IsPartitionedBy, IsPartitionPoint}
use Rattle.std.proofs.lemmas.List.Sorted.{IsPartitionPoint-from_clause, IsPartitionedBy-leb, IsNonDecreasingBy-insert}
use Rattle.lw_recent.specs.declared.entry.Entry.{Entry}
use Rattle.lw_recent.specs.Entries.{number_of, shown, pairs_in}
use Rattle.lw_recent.specs.Recent.{IsUnder}
use Rattle.lw_recent.proofs.EntryLemmas.{insert_from, insert_old, insert_new, pair_of}
use Rattle.lw_recent.proofs.entry.put.Goals as goal

pub returns-clause-adds : goal.returns-clause-adds
returns-clause-adds c = λ n e.
    let xs = c.args.entries.now.items in
    let i = c.partition_point-index.result in
    let y : Entry = record { number = c.args.number; place = Some c.args.place } in
    let is : c.insert.new.self.items ≡ insert xs i y = search rules in (
      λ h. elim (insert_from xs i y (n, e) (subst (λ l. IsUnder (pairs_in l) n e) is h)) [ inl was ↦ inl was | inr new ↦ inr (pair_of (shown y) c.args.number n c.args.place e refl new) ],
      λ h. subst (λ l. IsUnder (pairs_in l) n e) (sym is) (elim h [ inl was ↦ insert_old xs i y (n, e) was | inr pair ↦ insert_new xs i y (n, e) (rw (pair.0, pair.1) refl) ]),
    )

pub returns-clause-rises : goal.returns-clause-rises
returns-clause-rises c =
    let xs = c.args.entries.now.items in
    let i = c.partition_point-index.result in
    let y : Entry = record { number = c.args.number; place = Some c.args.place } in
    let is : c.insert.new.self.items ≡ insert xs i y = search rules in
    let parted : IsPartitionedBy (λ y. leb y.number c.args.number) c.deref.result.now = rw c.deref.ensures.value (IsPartitionedBy-leb number_of xs c.args.number c.requires.rises) in
    let point : IsPartitionPoint (λ (y : Entry). leb y.number c.args.number ≡ true) (λ y. leb y.number c.args.number ≡ false) xs i =
    rw (sym c.deref.ensures.value) (IsPartitionPoint-from_clause (λ p. leb p.number c.args.number) _ _ c.partition_point-index.ensures.partitioned parted (λ a r q k. search rules)) in
    rw is (IsNonDecreasingBy-insert number_of xs i y c.requires.rises (omega (arith, c.partition_point-index.ensures.bound, ap length c.deref.ensures.value))
    (λ k d lt. leb-true _ _ (point.0 k d (omega arith) lt)) (λ k d le lt. let above = leb-false _ _ (point.1 k d le lt) in omega (arith, above)))
