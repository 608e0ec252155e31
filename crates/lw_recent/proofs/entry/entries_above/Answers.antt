use Rattle.std.proofs.Common.{◌≡◌, ℕ, ◌-◌, ◌<◌, ◌≤◌, get_or, true, false, leb, leb-true, leb-false, length, drop, take, length-drop, rules, arith}
use Rattle.std.proofs.lemmas.List.{take_all}
use Rattle.std.specs.List.Sorted.{IsPartitionPoint}
use Rattle.std.proofs.lemmas.List.Sorted.{IsPartitionPoint-from_clause, IsPartitionedBy-leb}
use Rattle.lw_recent.specs.declared.entry.Entry.{Entry}
use Rattle.lw_recent.specs.Entries.{number_of, pairs_in}
use Rattle.lw_recent.proofs.EntryLemmas.{named_from, named_to, above_from, above_to}
use Rattle.lw_recent.proofs.entry.entries_above.Goals as goal

pub returns-in-None : goal.returns-in-None
returns-in-None c = rw c.in-None.is (λ e. (λ h. let w = named_from (pairs_in c.args.entries.now) e h in (w.0, w.1, tt), λ h. named_to (pairs_in c.args.entries.now) h.0 e h.1))

pub returns-in-Some : goal.returns-in-Some
returns-in-Some c =
    let xs = c.args.entries.now in
    let i = c.partition_point.result in
    let number = c.in-Some.number in
    let point : IsPartitionPoint (λ (y : Entry). leb y.number number ≡ true) (λ y. leb y.number number ≡ false) xs i =
    IsPartitionPoint-from_clause (λ p. leb p.number number) _ _ c.partition_point.ensures.partitioned (IsPartitionedBy-leb number_of xs number c.requires) (λ a r q k. search rules) in
    let low : (k : ℕ) (d : Entry) → k < i → number_of (get_or xs k d) ≤ number = λ k d lt. leb-true _ _ (point.0 k d (omega arith) lt) in
    let high : (k : ℕ) (d : Entry) → i ≤ k → k < length xs → number < number_of (get_or xs k d) = λ k d le lt. leb-false _ _ (point.1 k d le lt) in
    let all : take (length xs - i) (drop i xs) ≡ drop i xs = take_all (length xs - i) (drop i xs) (omega (arith, length-drop i xs)) in
    rw (c.in-Some.is, all) (λ e. (
      λ h.
          let w = named_from (pairs_in (drop i xs)) e h in
          let above = above_from xs number i low high w.0 e w.1 in (w.0, above.0, above.1),
      λ h. named_to (pairs_in (drop i xs)) h.0 e (above_to xs number i low high h.0 e h.1 h.2),
    ))
